-- Two runs of one list of calls agree exactly when the arrays fail at the same calls. Assumes nothing.
use Rattle.std.proofs.Common.{◌≡◌, ℕ, zero, suc, Bool, true, false, cond, not, ◌↔◌, List, Some, None, Ok, Err, Option, sym, refl, ap, ◌∙◌, subst, arith}
use mathlib.Core.Path.{fun_ext}
use Rattle.refusals.specs.declared.Refusal.{Refusal}
use Rattle.records.specs.declared.call.Call.{Call}
use Rattle.words.specs.Kind.{Kind}
use Rattle.arrays.specs.Meaning.{Shape, Contents, Meaning, New, Operation, nothing, accepts}
use Rattle.rules.specs.declared.part.Part.{Part}
use Rattle.rules.specs.declared.command.Command.{Command}
use Rattle.rules.specs.declared.state.Work.{Work}
use Rattle.rules.specs.declared.state.Aim.{Aim}
use Rattle.rules.specs.declared.state.State.{State}
use Rattle.rules.specs.declared.control.Opening.{Opening}
use Rattle.rules.specs.declared.control.Control.{Control}
use Rattle.rules.specs.Commands.{decoded}
use Rattle.rules.specs.Controls.{under}
use Rattle.rules.specs.Answering.{Answer, unless, is_dead, answer_row, answer_address, answer_command, answer_cycle, answer_read, answer_alive, answer}
use Rattle.rules.specs.Asking.{Ending, none, command_ending, cycle_ending, ending, operation_of, operation}
use Rattle.rules.specs.Running.{Chip, Event, Step, Runs, stop, next, after, calls, answers, failures, opened, Alike}
use Rattle.rules.specs.Equality.{LawOfFailures, SameCells}

-- the answer says that the array failed
abbrev pub is_failed : Refusal → Bool
is_failed Refusal.Dead = false
is_failed Refusal.Unlawful = false
is_failed Refusal.Busy = false
is_failed Refusal.Unknown = false
is_failed Refusal.NotBusy = false
is_failed Refusal.Outside = false
is_failed Refusal.NoColumn = false
is_failed Refusal.NoWord = false
is_failed Refusal.Locked = false
is_failed Refusal.Protected = false
is_failed Refusal.PageFull = false
is_failed Refusal.OtherPlane = false
is_failed Refusal.ArrayFailed = true
is_failed Refusal.BadRecord = false
is_failed Refusal.ListFull = false

abbrev pub says_failed : Answer → Bool
says_failed (Ok v) = false
says_failed (Err why) = is_failed why

-- the array does not accept the end of the operation
abbrev pub unwilling : Kind → Part → Meaning → Control → Ending → Bool
unwilling K p m c e = not (accepts K m (operation_of K p c.register.codes (under c.state) e))

no_ending : (K : Kind) (p : Part) (m : Meaning) (codes : List ℕ) (u : Option Work) → not (accepts K m (operation_of K p codes u none)) ≡ false
no_ending K p m codes None = refl
no_ending K p m codes (Some w) = refl

command_says : (K : Kind) (o : Opening) (m : Meaning) (c : Control) (x : Command)
    → says_failed (answer_command o m.holds (unwilling K o.part m c (command_ending x)) c x) ≡ unwilling K o.part m c (command_ending x)
command_says K o m c x = grind arith

row_says : (o : Opening) (h : Contents) (c : Control) (row : ℕ) (a : Aim) → says_failed (answer_row o h c row a) ≡ false
row_says o h c row a = grind arith

address_says : (o : Opening) (h : Contents) (c : Control) (b : ℕ) (s : State) → says_failed (answer_address o h c b s) ≡ false
address_says o h c b s = grind (arith, row_says)

read_says : (K : Kind) (o : Opening) (c : Control) (s : State) → says_failed (answer_read K o c s) ≡ false
read_says K o c s = grind arith

cycle_says : (K : Kind) (o : Opening) (m : Meaning) (c : Control) (x : Option Command)
    → says_failed (answer_cycle o m.holds (unwilling K o.part m c (cycle_ending x)) c x) ≡ unwilling K o.part m c (cycle_ending x)
cycle_says K o m c None = grind arith
cycle_says K o m c (Some x) = command_says K o m c x

alive_says : (K : Kind) (o : Opening) (m : Meaning) (c : Control) (call : Call)
    → says_failed (answer_alive K o m.holds (unwilling K o.part m c (ending o.part call)) c call) ≡ unwilling K o.part m c (ending o.part call)
alive_says K o m c (Call.Command b) = cycle_says K o m c (decoded o.part b)
alive_says K o m c (Call.Address b) = address_says o m.holds c b c.state ∙ sym (no_ending K o.part m c.register.codes (under c.state))
alive_says K o m c (Call.Write w) = grind arith
alive_says K o m c Call.Read = read_says K o c c.state ∙ sym (no_ending K o.part m c.register.codes (under c.state))
alive_says K o m c (Call.Protect l) = grind arith
alive_says K o m c Call.Settle = grind arith
alive_says K o m c (Call.Look row column) = grind arith

-- what two runs share
record Shared (c c' : Chip) : Type 0 where
  controls : c.control ≡ c'.control
  contents : c.memory.holds ≡ c'.memory.holds

same_answer : {K : Kind} {o : Opening} {c c' d d' : Chip} {e e' : Event} → Step K o c e d → Step K o c' e' d' → Shared c c'
    → e.call ≡ e'.call → e.failed ≡ e'.failed → e.answer ≡ e'.answer
same_answer t t' a p q = cc

same_chip : {K : Kind} {o : Opening} {c c' d d' : Chip} {e e' : Event} → Step K o c e d → Step K o c' e' d' → Shared c c'
    → e.call ≡ e'.call → e.answer ≡ e'.answer → e.failed ≡ e'.failed → Shared d d'
same_chip t t' a p q f =
    let x = t.performs.holding in
    let y = t'.performs.holding in
    record { controls = cc; contents = cc }

-- the answer of a step says whether the array failed
tells : (K : Kind) (o : Opening) (m : Meaning) (c : Control) (call : Call)
    → says_failed (answer K o m.holds (not (accepts K m (operation K o m.holds.shape c call))) c call)
    ≡ not (accepts K m (operation K o m.holds.shape c call))
unfolding answer operation
tells K o m c call = go (is_dead K o m.holds.shape)
  where
    x : Operation
    x = operation_of K o.part c.register.codes (under c.state) (ending o.part call)

    go : (d : Bool) → says_failed (unless d Refusal.Dead (answer_alive K o m.holds (not (accepts K m (cond d nothing x))) c call))
        ≡ not (accepts K m (cond d nothing x))
    go true = refl
    go false = alive_says K o m c call

not_not : (a b : Bool) → not a ≡ b → a ≡ not b
not_not true b e = ap not e
not_not false b e = ap not e

-- a step fails exactly when the array does not accept what it is asked
pub fails : {K : Kind} {o : Opening} {c d : Chip} {e : Event} → Step K o c e d
    → e.failed ≡ not (accepts K c.memory (operation K o c.memory.holds.shape c.control e.call))
fails {e = e} t = not_not e.failed _ t.performs.told

pub told : {K : Kind} {o : Opening} {c d : Chip} {e : Event} → Step K o c e d → says_failed e.answer ≡ e.failed
told {K} {o} {c} {d} {e} t =
    let h = tells K o c.memory c.control e.call in
    let f = fails t in
    let a = t.answers in
    cc

module _ {K : Kind} {o : Opening} where
  agree : {c c' d d' : Chip} {es es' : List Event} → Runs K o c es d → Runs K o c' es' d' → Shared c c' → calls es ≡ calls es'
      → failures es ≡ failures es' → (answers es ≡ answers es') × Shared d d'
  agree stop stop a p q = (refl, a)
  agree stop (next t r) a p q = let z : ◌≡◌ {A = ℕ} 0 1 = cc in absurd (omega arith)
  agree (next t r) stop a p q = let z : ◌≡◌ {A = ℕ} 0 1 = cc in absurd (omega arith)
  agree (next {e = e} {es = es} t r) (next {e = e'} {es = es'} t' r') a p q =
      let c : e.call ≡ e'.call = cc in
      let f : e.failed ≡ e'.failed = cc in
      let x : e.answer ≡ e'.answer = same_answer t t' a c f in
      let ps : calls es ≡ calls es' = cc in
      let qs : failures es ≡ failures es' = cc in
      let h = agree r r' (same_chip t t' a c x f) ps qs in
      let xs : answers es ≡ answers es' = h.0 in
      (cc, h.1)

  -- after each number of calls
  agree_after : {c c' d d' : Chip} {es es' : List Event} → (r : Runs K o c es d) (r' : Runs K o c' es' d') → Shared c c' → calls es ≡ calls es'
      → failures es ≡ failures es' → (n : ℕ) → Shared (after r n) (after r' n)
  agree_after stop stop a p q n = a
  agree_after stop (next t r) a p q n = let z : ◌≡◌ {A = ℕ} 0 1 = cc in absurd (omega arith)
  agree_after (next t r) stop a p q n = let z : ◌≡◌ {A = ℕ} 0 1 = cc in absurd (omega arith)
  agree_after (next t r) (next t' r') a p q zero = a
  agree_after (next {e = e} {es = es} t r) (next {e = e'} {es = es'} t' r') a p q (suc n) =
      let c : e.call ≡ e'.call = cc in
      let f : e.failed ≡ e'.failed = cc in
      let x : e.answer ≡ e'.answer = same_answer t t' a c f in
      let ps : calls es ≡ calls es' = cc in
      let qs : failures es ≡ failures es' = cc in
      agree_after r r' (same_chip t t' a c x f) ps qs n

  agree_back : {c c' d d' : Chip} {es es' : List Event} → Runs K o c es d → Runs K o c' es' d' → Shared c c' → calls es ≡ calls es'
      → answers es ≡ answers es' → failures es ≡ failures es'
  agree_back stop stop a p q = refl
  agree_back stop (next t r) a p q = cc
  agree_back (next t r) stop a p q = cc
  agree_back (next {e = e} {es = es} t r) (next {e = e'} {es = es'} t' r') a p q =
      let c : e.call ≡ e'.call = cc in
      let x : e.answer ≡ e'.answer = cc in
      let f : e.failed ≡ e'.failed = sym (told t) ∙ (ap says_failed x ∙ told t') in
      let ps : calls es ≡ calls es' = cc in
      let qs : answers es ≡ answers es' = cc in
      let h : failures es ≡ failures es' = agree_back r r' (same_chip t t' a c x f) ps qs in
      cc

-- two arrays of one shape that are new hold the same
same_new : (K : Kind) (h h' : Contents) → h.shape ≡ h'.shape → New K h → New K h' → h ≡ h'
same_new K h h' p n n' =
    let codes : h.code ≡ h'.code = fun_ext (λ row. fun_ext (λ column. n.codes row column ∙ sym (n'.codes row column))) in
    let counts : h.count ≡ h'.count = fun_ext (λ row. n.counts row ∙ sym (n'.counts row)) in
    λ i. record { shape = p i; code = codes i; count = counts i }

-- chips of one part that are opened alike are opened with the same
same_opening : (o o' : Opening) → o.part ≡ o'.part → Alike o o' → o ≡ o'
same_opening o o' p a = λ i. record { part = p i; device = a.devices i; limit = a.limits i }

-- what the law says of two runs
abbrev EqualRuns : {K : Kind} {o o' : Opening} {d d' c c' : Chip} {es es' : List Event} → Shape → Runs K o d es c → Runs K o' d' es' c' → Type 0
EqualRuns {c = c} {c' = c'} {es = es} {es' = es'} s r r' =
    (((answers es ≡ answers es') × SameCells s c.memory.holds c'.memory.holds) ↔ (failures es ≡ failures es'))
    × (((answers es ≡ answers es') × ((n : ℕ) → SameCells s (after r n).memory.holds (after r' n).memory.holds))
    ↔ (failures es ≡ failures es'))

one_opening : (K : Kind) (o : Opening) (m m' : Meaning) (es es' : List Event) (c c' : Chip)
    → m.holds.shape ≡ m'.holds.shape → New K m.holds → New K m'.holds
    → (r : Runs K o (opened K m) es c) (r' : Runs K o (opened K m') es' c') → calls es ≡ calls es' → EqualRuns m.holds.shape r r'
one_opening K o m m' es es' c c' shape n n' r r' same =
    let a : Shared (opened K m) (opened K m') = record { controls = refl; contents = same_new K m.holds m'.holds shape n n' } in (
      (
        (λ h. agree_back r r' a same h.0),
        (λ h. ((agree r r' a same h).0, λ row column inside. ap (λ x. x.code row column) (agree r r' a same h).1.contents)),
      ),
      (
        (λ h. agree_back r r' a same h.0),
        (λ h. ((agree r r' a same h).0, λ k row column inside. ap (λ x. x.code row column) (agree_after r r' a same h k).contents)),
      ),
    )

pub law_of_failures : LawOfFailures
law_of_failures K L o o' m m' es es' c c' part alike shape n n' r r' same =
    let P : Opening → Type 0 = λ x. (q : Runs K x (opened K m') es' c') → EqualRuns m.holds.shape r q in
    subst P (same_opening o o' part alike) (λ q. one_opening K o m m' es es' c c' shape n n' r q same) r'
