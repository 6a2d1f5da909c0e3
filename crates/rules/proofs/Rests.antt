-- Which calls leave the array, and what refusals leave. Assumes nothing.
use Rattle.std.proofs.Common.{◌≡◌, ℕ, ◌≤◌, Bool, true, false, cond, not, ltb, ◌⊎◌, List, is_some, Ok, Err, Option, sym, refl, ap, ◌∙◌, subst, inl, inr, arith}
use Rattle.std.proofs.lemmas.Bool.{cases_Bool}
use Rattle.refusals.specs.declared.Refusal.{Refusal}
use Rattle.refusals.specs.Numbers.{number}
use Rattle.records.specs.declared.call.Call.{Call}
use Rattle.words.specs.Kind.{Kind}
use Rattle.arrays.specs.Meaning.{Contents, Operation, nothing, rows}
use Rattle.rules.specs.declared.part.Part.{Part}
use Rattle.rules.specs.declared.command.Command.{Command}
use Rattle.rules.specs.declared.state.Work.{Work}
use Rattle.rules.specs.declared.control.Opening.{Opening}
use Rattle.rules.specs.declared.control.Control.{Control}
use Rattle.rules.specs.Commands.{decoded}
use Rattle.rules.specs.Controls.{under}
use Rattle.rules.specs.Answering.{Answer, done, unless, is_dead, answer_alive, answer}
use Rattle.rules.specs.Asking.{Ending, none, torn, command_ending, cycle_ending, ending, operation_of, operation}
use Rattle.rules.specs.Moving.{start_refused, refused_after, control_after}
use Rattle.rules.specs.Running.{Chip, Event, Step}
use Rattle.rules.specs.Conduct.{LowRefusalsChangeNothing, RefusedStarts, FailuresAreTold, LookChangesNothing, DeadChipsAnswer1, OnlyLandingsChangeCells}
use Rattle.rules.proofs.Failures.{says_failed, told}
use Rattle.rules.proofs.Landed.{Ends, no_ends, ends_answer}

ends_or_not : (K : Kind) (p : Part) (r : List ℕ) (u : Option Work) (n : Ending) → Ends u n ⊎ (operation_of K p r u n ≡ nothing)
ends_or_not K p r u n = grind arith

-- a call to a live chip that ends what is under way
record EndingCall (K : Kind) (o : Opening) (c : Chip) (e : Event) : Type 0 where
  ends : Ends (under c.control.state) (ending o.part e.call)
  answers : e.answer ≡ unless e.failed Refusal.ArrayFailed done

-- a call ends what is under way, or leaves the array
ends_or_rests : (K : Kind) (o : Opening) (c c' : Chip) (e : Event) → Step K o c e c' → EndingCall K o c e ⊎ (c'.memory ≡ c.memory)
unfolding answer operation
ends_or_rests K o c c' e t = go (is_dead K o c.memory.holds.shape) refl t.idle t.answers
  where
    x : Operation
    x = operation_of K o.part c.control.register.codes (under c.control.state) (ending o.part e.call)

    go : (d : Bool) → is_dead K o c.memory.holds.shape ≡ d → (cond d nothing x ≡ nothing → c'.memory ≡ c.memory)
        → e.answer ≡ unless d Refusal.Dead (answer_alive K o c.memory.holds e.failed c.control e.call)
        → EndingCall K o c e ⊎ (c'.memory ≡ c.memory)
    go true z idle a = inr (idle refl)
    go false z idle a = elim (ends_or_not K o.part c.control.register.codes (under c.control.state) (ending o.part e.call)) [
      | inl ends ↦ inl record { ends = ends; answers = a ∙ ends_answer K o c.memory.holds e.failed c.control e.call ends }
      | inr n ↦ inr (idle n)
    ]

-- what ends an operation is refused by 13 alone
by_13 : (f : Bool) (a : Answer) (why : Refusal) → a ≡ unless f Refusal.ArrayFailed done → a ≡ Err why → number why ≡ 13
by_13 f a why p q = grind arith

rests_at : (K : Kind) (o : Opening) (c c' : Chip) (e : Event) (why : Refusal) → Step K o c e c' → e.answer ≡ Err why → number why ≤ 12
    → c'.memory ≡ c.memory
rests_at K o c c' e why t a n = elim (ends_or_rests K o c c' e t) [
  | inl x ↦ let z = by_13 e.failed e.answer why x.answers a in absurd (omega arith)
  | inr m ↦ m
]

moved_by : (K : Kind) (o : Opening) (c c' : Chip) (e : Event) (why : Refusal) → Step K o c e c' → e.answer ≡ Err why
    → c'.control ≡ refused_after o.part c.control e.call why
unfolding control_after
moved_by K o c c' e why t a =
    subst (λ x. c'.control ≡ control_after K o.part c.memory.holds.code c.control e.call x) a t.moves

low_kept : (p : Part) (c : Control) (call : Call) (why : Refusal) → number why ≤ 9 → refused_after p c call why ≡ c
low_kept p c call why n = grind arith

same_chip : (c c' : Chip) → c'.control ≡ c.control → c'.memory ≡ c.memory → c' ≡ c
same_chip c c' p q = λ i. record { control = p i; memory = q i }

pub low_refusals_change_nothing : LowRefusalsChangeNothing
low_refusals_change_nothing K o c c' e why t a n =
    same_chip c c' (moved_by K o c c' e why t a ∙ low_kept o.part c.control e.call why n) (rests_at K o c c' e why t a (omega arith))

-- 10 to 12 refuse a start
start_kept : (p : Part) (c : Control) (call : Call) (why : Refusal) → 10 ≤ number why → number why ≤ 12 → refused_after p c call why ≡ start_refused c
start_kept p c call why low high = grind arith

pub refused_starts : RefusedStarts
refused_starts K o c c' e why t a low high =
    let m = moved_by K o c c' e why t a ∙ start_kept o.part c.control e.call why low high in
    record {
      status = ap (λ x. x.state) m;
      fail = ap (λ x. x.fail) m;
      register = ap (λ x. x.register) m;
      pointer = ap (λ x. x.pointer) m;
      wp = ap (λ x. x.wp) m;
      tight = ap (λ x. x.tight) m;
      range = ap (λ x. x.range) m;
      memory = rests_at K o c c' e why t a high;
    }

pub dead_chips_answer_1 : DeadChipsAnswer1
unfolding answer
dead_chips_answer_1 K o c c' e t d =
    let a : e.answer ≡ Err Refusal.Dead =
    t.answers ∙ ap (λ x. unless x Refusal.Dead (answer_alive K o c.memory.holds e.failed c.control e.call)) d in
    (a, low_refusals_change_nothing K o c c' e Refusal.Dead t a (omega arith))

-- 13 is what an answer says of a failure
failed_is_13 : (a : Answer) → says_failed a ≡ true → a ≡ Err Refusal.ArrayFailed
failed_is_13 a e = grind arith

failed_at : {K : Kind} {o : Opening} {c c' : Chip} {e : Event} → Step K o c e c' → e.answer ≡ Err Refusal.ArrayFailed → e.failed ≡ true
failed_at t a = sym (told t) ∙ ap says_failed a

pub failures_are_told : FailuresAreTold
failures_are_told K o c c' e t = (
  ((λ a. failed_at t a), (λ f. failed_is_13 e.answer (told t ∙ f))),
  (λ a. t.performs.kept (ap not (failed_at t a))),
)

-- a call that ends nothing leaves the array
rests_unless : (K : Kind) (o : Opening) (c c' : Chip) (e : Event) → Step K o c e c' → ending o.part e.call ≡ none → c'.memory ≡ c.memory
rests_unless K o c c' e t n = elim (ends_or_rests K o c c' e t) [
  | inl x ↦ absurd (no_ends (under c.control.state) (subst (λ y. Ends (under c.control.state) y) n x.ends))
  | inr m ↦ m
]

-- look is answered a code, or refused by 1, 6 or 7
data Looked (a : Answer) : Type 0 where
  shows : (v : ℕ) → a ≡ Ok v → Looked a
  refuses : (why : Refusal) → a ≡ Err why → number why ≤ 9 → Looked a

looked : (dead row column : Bool) (v : ℕ) (a : Answer)
    → a ≡ unless dead Refusal.Dead (unless row Refusal.Outside (unless column Refusal.NoColumn (Ok v))) → Looked a
looked true row column v a e = refuses Refusal.Dead e (omega arith)
looked false true column v a e = refuses Refusal.Outside e (omega arith)
looked false false true v a e = refuses Refusal.NoColumn e (omega arith)
looked false false false v a e = shows v e

look_looked : (K : Kind) (o : Opening) (h : Contents) (f : Bool) (c : Control) (row column : ℕ) (a : Answer)
    → a ≡ answer K o h f c (Call.Look row column) → Looked a
unfolding answer
look_looked K o h f c row column a e =
    looked (is_dead K o h.shape) (not (ltb row (rows h.shape))) (not (ltb column h.shape.columns)) (h.code row column) a e

look_moves : (K : Kind) (p : Part) (code : ℕ → ℕ → ℕ) (c c' : Control) (row column v : ℕ)
    → c' ≡ control_after K p code c (Call.Look row column) (Ok v) → c' ≡ c
unfolding control_after
look_moves K p code c c' row column v e = e

pub look_changes_nothing : LookChangesNothing
look_changes_nothing K o c c' e row column t call =
    let a : e.answer ≡ answer K o c.memory.holds e.failed c.control (Call.Look row column) =
    t.answers ∙ ap (λ x. answer K o c.memory.holds e.failed c.control x) call in
    elim (look_looked K o c.memory.holds e.failed c.control row column e.answer a) [
      | shows v q ↦ same_chip c c'
          (look_moves K o.part c.memory.holds.code c.control c'.control row column v
          (let m = t.moves in cc))
          (rests_unless K o c c' e t (ap (ending o.part) call))
      | refuses why q n ↦ low_refusals_change_nothing K o c c' e why t q n
    ]

-- FFh is the one command that ends what is under way
module _ (p : Part) (byte : ℕ) where
  pub torn_by_reset : cycle_ending (decoded p byte) ≡ torn → byte ≡ 0xFF
  torn_by_reset e = grind arith

-- a command that ends what is under way cuts it off
cycle_torn : (u : Option Work) (x : Command) → Ends u (command_ending x) → command_ending x ≡ torn
cycle_torn u x z = grind arith

ends_torn : (u : Option Work) (x : Option Command) → Ends u (cycle_ending x) → cycle_ending x ≡ torn
ends_torn u x z = grind (arith, cycle_torn)

ends_call : (p : Part) (u : Option Work) (call : Call) → Ends u (ending p call) → (call ≡ Call.Settle) ⊎ (call ≡ Call.Command 0xFF)
ends_call p u call z = grind (arith, torn_by_reset, ends_torn)

ends_busy : (u : Option Work) (n : Ending) → Ends u n → is_some u ≡ true
ends_busy u n z = grind arith

pub only_landings_change_cells : OnlyLandingsChangeCells
only_landings_change_cells K o c c' e t = elim (ends_or_rests K o c c' e t) [
  | inl x ↦ elim (cases_Bool e.failed) [
    | inl f ↦ inr (t.performs.kept (ap not f))
    | inr f ↦ inl record {
      busy = ends_busy (under c.control.state) (ending o.part e.call) x.ends;
      call = ends_call o.part (under c.control.state) e.call x.ends;
      taken = x.answers ∙ ap (λ y. unless y Refusal.ArrayFailed done) f;
    }
  ]
  | inr m ↦ inr m
]
