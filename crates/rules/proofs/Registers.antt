-- What the page register holds is lawful. Assumes nothing.
use Rattle.std.proofs.Common.{◌≡◌, ℕ, zero, suc, ◌-◌, ◌<◌, Bool, true, false, not, ltb, List, [], ◌∷◌, ◌++◌, map, get_or, take, set, replicate, Some, None, Ok, Err, Option, sym, refl, arith}
use Rattle.std.specs.List.{range_with_len}
use Rattle.refusals.specs.declared.Refusal.{Refusal}
use Rattle.records.specs.declared.call.Call.{Call}
use Rattle.words.specs.Kind.{Kind, KindLaws}
use Rattle.arrays.specs.Meaning.{Contents}
use Rattle.rules.specs.declared.part.Part.{Part}
use Rattle.rules.specs.declared.command.Command.{Command}
use Rattle.rules.specs.declared.state.Aim.{Aim}
use Rattle.rules.specs.declared.state.State.{State}
use Rattle.rules.specs.declared.control.Opening.{Opening}
use Rattle.rules.specs.declared.control.Control.{Control}
use Rattle.rules.specs.Parts.{columns}
use Rattle.rules.specs.Commands.{decoded}
use Rattle.rules.specs.Controls.{places, blank, page_of}
use Rattle.rules.specs.Answering.{Answer, done, unless, if_loading, is_dead, answer}
use Rattle.rules.specs.Asking.{Ending}
use Rattle.rules.specs.Moving.{arrived, address_after, write_after, command_after, cycle_after, protect_after, failed_after, refused_after, control_after}
use Rattle.rules.proofs.Lows.{IsLawful}

-- every place of a list of codes is lawful, and so is what is read past its end
abbrev pub LawfulPage : Kind → List ℕ → Type 0
LawfulPage K page = (k : ℕ) → IsLawful K (get_or page k K.erased)

-- a refusal leaves the register
failed_register : (c : Control) (e : Ending) → (failed_after c e).register ≡ c.register
failed_register c e = grind arith

pub refused_register : (p : Part) (c : Control) (call : Call) (why : Refusal) → (refused_after p c call why).register ≡ c.register
refused_register p c call why = grind (arith, failed_register)

-- a word that was taken is lawful, and passed the tests of a load
taken_word : (d l : Bool) (rest : Answer) (v : ℕ) → Ok v ≡ unless d Refusal.Dead (unless (not l) Refusal.Unlawful rest) → (l ≡ true) × (rest ≡ Ok v)
taken_word true l rest v e = cc
taken_word false true rest v e = (refl, sym e)
taken_word false false rest v e = cc

-- A property of the register's codes that a blank register has, and a page, and codes in which a lawful word was put at a column of the part, is
-- kept by every call.
module _ (K : Kind) (o : Opening) (code : ℕ → ℕ → ℕ) (P : List ℕ → Type 0) (blanked : P (blank K.erased))
    (paged : (row : ℕ) → P (page_of o.part K.erased (code row)))
    (put : (codes : List ℕ) (i w : ℕ) → IsLawful K w → i < columns o.part → P codes → P (set codes i w)) where
  command_keeps : (c : Control) (x : Command) → P c.register.codes → P (command_after K c x).register.codes
  command_keeps c x t = grind arith

  cycle_keeps : (c : Control) (x : Option Command) → P c.register.codes → P (cycle_after K c x).register.codes
  cycle_keeps c None t = t
  cycle_keeps c (Some x) t = command_keeps c x t

  arrived_keeps : (c : Control) (row : ℕ) (a : Aim) → P c.register.codes → P (arrived K o.part code c row a).register.codes
  arrived_keeps c row a t = grind arith

  address_keeps : (c : Control) (b : ℕ) (s : State) → P c.register.codes → P (address_after K o.part code c b s).register.codes
  address_keeps c b s t = grind (arith, arrived_keeps)

  protect_keeps : (c : Control) (l : ℕ) → P c.register.codes → P (protect_after c l).register.codes
  protect_keeps c l t = grind arith

  write_keeps : (c : Control) (w : ℕ) (s : State) (v : ℕ) → IsLawful K w
      → if_loading s (λ row next written. unless (not (ltb next (columns o.part))) Refusal.NoColumn done) ≡ Ok v
      → P c.register.codes → P (write_after c w s).register.codes
  write_keeps c w s v h e t = grind (arith, put)

  pub keeps : (h : Contents) (f : Bool) (c : Control) (call : Call) (a : Answer) → a ≡ answer K o h f c call → P c.register.codes
      → P (control_after K o.part code c call a).register.codes
  unfolding answer control_after
  keeps h f c (Call.Command x) (Ok v) e t = cycle_keeps c (decoded o.part x) t
  keeps h f c (Call.Address x) (Ok v) e t = address_keeps c x c.state t
  keeps h f c (Call.Write w) (Ok v) e t =
      let z = taken_word (is_dead K o h.shape) (K.lawful w) _ v e in
      write_keeps c w c.state v z.0 z.1 t
  keeps h f c Call.Read (Ok v) e t = t
  keeps h f c (Call.Protect l) (Ok v) e t = protect_keeps c l t
  keeps h f c Call.Settle (Ok v) e t = t
  keeps h f c (Call.Look row column) (Ok v) e t = t
  keeps h f c call (Err why) e t = rw (refused_register o.part c call why) t

module _ (K : Kind) (L : KindLaws K) where
  lawful_nil : LawfulPage K []
  lawful_nil k = L.erased_lawful

  lawful_cons : (x : ℕ) (xs : List ℕ) → IsLawful K x → LawfulPage K xs → LawfulPage K (x ∷ xs)
  lawful_cons x xs h t zero = h
  lawful_cons x xs h t (suc k) = t k

  lawful_tail : (x : ℕ) (xs : List ℕ) → LawfulPage K (x ∷ xs) → LawfulPage K xs
  lawful_tail x xs h k = h (suc k)

  lawful_replicate : (n : ℕ) → LawfulPage K (replicate n K.erased)
  lawful_replicate zero = lawful_nil
  lawful_replicate (suc n) = lawful_cons K.erased (replicate n K.erased) L.erased_lawful (lawful_replicate n)

  pub lawful_blank : LawfulPage K (blank K.erased)
  unfolding blank
  lawful_blank = lawful_replicate places

  pub lawful_take : (n : ℕ) (xs : List ℕ) → LawfulPage K xs → LawfulPage K (take n xs)
  lawful_take zero xs h = lawful_nil
  lawful_take (suc n) [] h = lawful_nil
  lawful_take (suc n) (x ∷ xs) h = lawful_cons x (take n xs) (h 0) (lawful_take n xs (lawful_tail x xs h))

  pub lawful_torn : (xs : List ℕ) → LawfulPage K xs → LawfulPage K (map K.torn xs)
  lawful_torn [] h = lawful_nil
  lawful_torn (x ∷ xs) h = lawful_cons (K.torn x) (map K.torn xs) (L.torn_lawful x (h 0)) (lawful_torn xs (lawful_tail x xs h))

  lawful_set : (xs : List ℕ) (i w : ℕ) → IsLawful K w → LawfulPage K xs → LawfulPage K (set xs i w)
  lawful_set [] i w h t = lawful_nil
  lawful_set (x ∷ xs) zero w h t = lawful_cons w xs h (lawful_tail x xs t)
  lawful_set (x ∷ xs) (suc i) w h t = lawful_cons x (set xs i w) (t 0) (lawful_set xs i w h (lawful_tail x xs t))

  lawful_each : (f : ℕ → ℕ) (ks rest : List ℕ) → ((k : ℕ) → IsLawful K (f k)) → LawfulPage K rest → LawfulPage K (map f ks ++ rest)
  lawful_each f [] rest h t = t
  lawful_each f (x ∷ xs) rest h t = lawful_cons (f x) (map f xs ++ rest) (h x) (lawful_each f xs rest h t)

  lawful_page_of : (p : Part) (f : ℕ → ℕ) → ((k : ℕ) → IsLawful K (f k)) → LawfulPage K (page_of p K.erased f)
  unfolding page_of
  lawful_page_of p f h =
      lawful_each f (range_with_len 0 (columns p)) (replicate (places - columns p) K.erased) h (lawful_replicate (places - columns p))

  pub register_lawful : (code : ℕ → ℕ → ℕ) (o : Opening) (h : Contents) (f : Bool) (c : Control) (call : Call) (a : Answer)
      → a ≡ answer K o h f c call → ((row column : ℕ) → IsLawful K (code row column)) → LawfulPage K c.register.codes
      → LawfulPage K (control_after K o.part code c call a).register.codes
  register_lawful code o h f c call a e codes r =
      keeps K o code (LawfulPage K) lawful_blank (λ row. lawful_page_of o.part (code row) (codes row)) (λ xs i w l _ t. lawful_set xs i w l t) h f c call a e r
