-- One call on a chip, as its code promises it. The rules keep `answer`, `control_after` and `operation` shut; `answered`, `moved` and `asks` are the same, open, so
-- that a check of the code computes with them. `CallsAreSteps` says that it is the same. Assumes nothing.
use Rattle.std.specs.Prelude.{◌≡◌, ℕ, Bool, cond, not, List, map, take, Some, None, Ok, Err, Option}
use Rattle.refusals.specs.declared.Refusal.{Refusal}
use Rattle.records.specs.declared.call.Call.{Call}
use Rattle.words.specs.Kind.{Kind}
use Rattle.arrays.specs.Meaning.{Meaning, Contents, Operation, nothing, programs, fills, accepts, Performs}
use Rattle.rules.specs.declared.part.Part.{Part}
use Rattle.rules.specs.declared.state.Work.{Work}
use Rattle.rules.specs.declared.control.Opening.{Opening}
use Rattle.rules.specs.declared.control.Control.{Control}
use Rattle.rules.specs.Parts.{columns}
use Rattle.rules.specs.Controls.{under}
use Rattle.rules.specs.Answering.{Answer, is_dead, unless, answer_alive}
use Rattle.rules.specs.Asking.{Ending, none, whole, torn, ending, operation}
use Rattle.rules.specs.Moving.{taken_after, start_refused, failed_after}
use Rattle.rules.specs.Running.{Chip as Seen, Event, Step}
use Rattle.chip.specs.declared.Chip.{Chip}

-- the chip as the rules see it: its control, and what its array means
abbrev pub seen : {A : Type 0} → (A → Meaning) → Chip A → Seen
seen meaning chip = record { control = chip.control; memory = meaning chip.array }

-- what an ending of the operation under way asks of the array
abbrev pub asks_of : Kind → Part → List ℕ → Ending → Option Work → Operation
asks_of K p codes none w = nothing
asks_of K p codes whole None = nothing
asks_of K p codes whole (Some (Work.Program row closes)) = programs row (take (columns p) codes) closes
asks_of K p codes whole (Some (Work.Erase block)) = fills block K.erased
asks_of K p codes torn None = nothing
asks_of K p codes torn (Some (Work.Program row closes)) = programs row (map K.torn (take (columns p) codes)) closes
asks_of K p codes torn (Some (Work.Erase block)) = fills block K.torn_erase

-- what a call asks of the array
abbrev pub asks : Kind → Opening → Seen → Call → Operation
asks K o c call =
    cond (is_dead K o c.memory.holds.shape) nothing (asks_of K o.part c.control.register.codes (ending o.part call) (under c.control.state))

abbrev pub answered : Kind → Opening → Contents → Bool → Control → Call → Answer
answered K o h failing c call = unless (is_dead K o h.shape) Refusal.Dead (answer_alive K o h failing c call)

-- the control after a refusal
abbrev pub refused : Ending → Control → Refusal → Control
refused e c Refusal.Dead = c
refused e c Refusal.Unlawful = c
refused e c Refusal.Busy = c
refused e c Refusal.Unknown = c
refused e c Refusal.NotBusy = c
refused e c Refusal.Outside = c
refused e c Refusal.NoColumn = c
refused e c Refusal.NoWord = c
refused e c Refusal.Locked = c
refused e c Refusal.Protected = start_refused c
refused e c Refusal.PageFull = start_refused c
refused e c Refusal.OtherPlane = start_refused c
refused e c Refusal.ArrayFailed = failed_after c e
refused e c Refusal.BadRecord = c
refused e c Refusal.ListFull = c

-- the control after an answer: one if the call was taken, else by the refusal
abbrev pub by_answer : Answer → Control → (Refusal → Control) → Control
by_answer (Ok value) taken refusing = taken
by_answer (Err why) taken refusing = refusing why

abbrev pub moved : Kind → Part → (ℕ → ℕ → ℕ) → Control → Call → Answer → Control
moved K p code c call answer = by_answer answer (taken_after K p code c call) (refused (ending p call) c)

-- One call, its answer, and the chip after it. Everything but what the array is willing to do after a landing is fixed.
pub record Called (K : Kind) (o : Opening) (c : Seen) (call : Call) (answer : Answer) (c' : Seen) : Type 0 where
  pub answers : answer ≡ answered K o c.memory.holds (not (accepts K c.memory (asks K o c call))) c.control call
  pub moves : c'.control ≡ moved K o.part c.memory.holds.code c.control call answer
  pub performs : Performs K (asks K o c call) c.memory (accepts K c.memory (asks K o c call)) c'.memory
  pub idle : asks K o c call ≡ nothing → c'.memory ≡ c.memory

-- A call and its answer as an event of a run: the array fails where it does not accept what the call asks of it.
abbrev pub event : Kind → Opening → Seen → Call → Answer → Event
event K o c call answer = record { call = call; answer = answer; failed = not (accepts K c.memory (operation K o c.memory.holds.shape c.control call)) }

-- what a call promises is one step of the rules, no more and no less
abbrev pub CallsAreSteps : Type 0
CallsAreSteps = (K : Kind) (o : Opening) (c : Seen) (call : Call) (answer : Answer) (c' : Seen)
    → (Called K o c call answer c' → Step K o c (event K o c call answer) c') × (Step K o c (event K o c call answer) c' → Called K o c call answer c')
