-- A chip over an array, one call, and runs of calls. Assumes nothing.
use Rattle.std.specs.Prelude.{◌≡◌, ℕ, zero, suc, Bool, not, List, [], ◌∷◌, map}
use Rattle.records.specs.declared.call.Call.{Call}
use Rattle.words.specs.Kind.{Kind}
use Rattle.arrays.specs.Meaning.{Meaning, nothing, Performs}
use Rattle.rules.specs.declared.control.Opening.{Opening}
use Rattle.rules.specs.declared.control.Control.{Control}
use Rattle.rules.specs.Controls.{fresh}
use Rattle.rules.specs.Answering.{Answer, answer}
use Rattle.rules.specs.Asking.{operation}
use Rattle.rules.specs.Moving.{control_after}

-- a chip: its control, and what its array means
pub record Chip : Type 0 where
  pub control : Control
  pub memory : Meaning

-- a call, what it was answered, and whether the array failed at it
pub record Event : Type 0 where
  pub call : Call
  pub answer : Answer
  pub failed : Bool

-- One call. Everything but what the array is willing to do after a success is fixed; an array that is asked nothing stays as it is.
pub record Step (K : Kind) (o : Opening) (c : Chip) (e : Event) (c' : Chip) : Type 0 where
  pub performs : Performs K (operation K o c.memory.holds.shape c.control e.call) c.memory (not e.failed) c'.memory
  pub idle : operation K o c.memory.holds.shape c.control e.call ≡ nothing → c'.memory ≡ c.memory
  pub answers : e.answer ≡ answer K o c.memory.holds e.failed c.control e.call
  pub moves : c'.control ≡ control_after K o.part c.memory.holds.code c.control e.call e.answer

-- calls one after another
pub data Runs (K : Kind) (o : Opening) : Chip → List Event → Chip → Type 0 where
  stop : {c : Chip} → Runs K o c [] c
  next : {c c' c'' : Chip} {e : Event} {es : List Event} → Step K o c e c' → Runs K o c' es c'' → Runs K o c (e ∷ es) c''

-- the chip after the first n calls of a run
abbrev pub after : {K : Kind} {o : Opening} {c c' : Chip} {es : List Event} → Runs K o c es c' → ℕ → Chip
after (stop {c = c}) n = c
after (next {c = c} t r) zero = c
after (next t r) (suc n) = after r n

abbrev pub calls : List Event → List Call
calls es = map (λ e. e.call) es

abbrev pub answers : List Event → List Answer
answers es = map (λ e. e.answer) es

-- at which calls the array failed
abbrev pub failures : List Event → List Bool
failures es = map (λ e. e.failed) es

-- a chip that is opened over an array
abbrev pub opened : Kind → Meaning → Chip
opened K m = record { control = fresh K.erased; memory = m }

-- equal device codes and limits
pub record Alike (o o' : Opening) : Type 0 where
  pub devices : o.device ≡ o'.device
  pub limits : o.limit ≡ o'.limit
