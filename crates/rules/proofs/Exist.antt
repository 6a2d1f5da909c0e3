-- Every list of calls has a run. Assumes nothing.
use Rattle.std.proofs.Common.{◌≡◌, Bool, true, false, not, [], ◌∷◌, sym, refl, ap, subst}
use Rattle.words.specs.Kind.{Kind}
use Rattle.arrays.specs.Meaning.{Meaning, Operation, nothing, accepts, performed, Performs}
use Rattle.rules.specs.Answering.{answer}
use Rattle.rules.specs.Asking.{operation}
use Rattle.rules.specs.Moving.{control_after}
use Rattle.rules.specs.Running.{Chip, Event, stop, next}
use Rattle.rules.specs.Equality.{RunsExist}

-- an array that did what it was asked, and is willing as before
abbrev done_meaning : Kind → Operation → Meaning → Meaning
done_meaning K x m = record { holds = performed K x m.holds; willing_row = m.willing_row; willing_block = m.willing_block }

-- every array does what it is asked, or fails
pub record Asked (K : Kind) (x : Operation) (m : Meaning) : Type 0 where
  pub failed : Bool
  pub left : Meaning
  pub performs : Performs K x m (not failed) left
  pub idle : x ≡ nothing → left ≡ m

pub asked : (K : Kind) (x : Operation) (m : Meaning) → Asked K x m
asked K x m = go (accepts K m x) refl
  where
    go : (a : Bool) → accepts K m x ≡ a → Asked K x m
    go true e = record {
      failed = false;
      left = done_meaning K x m;
      performs = record { told = sym e; holding = refl; kept = λ z. cc };
      idle = λ z. subst (λ y. done_meaning K y m ≡ m) (sym z) refl;
    }
    go false e = record {
      failed = true;
      left = m;
      performs = record { told = sym e; holding = refl; kept = λ z. refl };
      idle = λ z. refl;
    }

pub runs_exist : RunsExist
runs_exist K o c [] = ([], c, refl, stop)
runs_exist K o c (call ∷ cs) =
    let x = asked K (operation K o c.memory.holds.shape c.control call) c.memory in
    let a = answer K o c.memory.holds x.failed c.control call in
    let e : Event = record { call = call; answer = a; failed = x.failed } in
    let c' : Chip = record { control = control_after K o.part c.memory.holds.code c.control call a; memory = x.left } in
    let h = runs_exist K o c' cs in
    (e ∷ h.0, h.1, ap (λ xs. call ∷ xs) h.2, next record { performs = x.performs; idle = x.idle; answers = refl; moves = refl } h.3)
