-- Laws of the rules themselves. Assumes nothing.
use Rattle.std.specs.Prelude.{◌≡◌, ℕ, ◌+◌, ◌*◌, ◌%◌, ◌≤◌, Bool, true, false, not, ◌⊎◌, ◌↔◌, List, length, None, Ok, Err, slice_index_or}
use Rattle.refusals.specs.declared.Refusal.{Refusal}
use Rattle.refusals.specs.Numbers.{number}
use Rattle.records.specs.declared.call.Call.{Call}
use Rattle.words.specs.Kind.{Kind, KindLaws, all_lawful}
use Rattle.arrays.specs.Meaning.{Meaning, Operation, nothing, programs, fills, New}
use Rattle.rules.specs.declared.part.Part.{Part}
use Rattle.rules.specs.declared.part.Pointer.{Pointer}
use Rattle.rules.specs.declared.state.Purpose.{Purpose}
use Rattle.rules.specs.declared.state.State.{State}
use Rattle.rules.specs.declared.control.Opening.{Opening}
use Rattle.rules.specs.Parts.{columns, most_rows, next_row}
use Rattle.rules.specs.Controls.{is_busy}
use Rattle.rules.specs.Answering.{is_dead, unless, done}
use Rattle.rules.specs.Asking.{operation}
use Rattle.rules.specs.Running.{Chip, Event, Step, Runs, opened}

-- refusals 1 to 9 change nothing at all
abbrev pub LowRefusalsChangeNothing : Type 0
LowRefusalsChangeNothing = (K : Kind) (o : Opening) (c c' : Chip) (e : Event) (why : Refusal) → Step K o c e c'
    → e.answer ≡ Err why → number why ≤ 9 → c' ≡ c

-- nothing has started, the fail bit is 1, read gives the status; all else is as before
pub record NotStarted (c c' : Chip) : Type 0 where
  pub status : c'.control.state ≡ State.Status
  pub fail : c'.control.fail ≡ true
  pub register : c'.control.register ≡ c.control.register
  pub pointer : c'.control.pointer ≡ c.control.pointer
  pub wp : c'.control.wp ≡ c.control.wp
  pub tight : c'.control.tight ≡ c.control.tight
  pub range : c'.control.range ≡ c.control.range
  pub memory : c'.memory ≡ c.memory

abbrev pub RefusedStarts : Type 0
RefusedStarts = (K : Kind) (o : Opening) (c c' : Chip) (e : Event) (why : Refusal) → Step K o c e c'
    → e.answer ≡ Err why → 10 ≤ number why → number why ≤ 12 → NotStarted c c'

-- a call is answered 13 exactly when the array failed at it, and then the array is unchanged
abbrev pub FailuresAreTold : Type 0
FailuresAreTold = (K : Kind) (o : Opening) (c c' : Chip) (e : Event) → Step K o c e c'
    → ((e.answer ≡ Err Refusal.ArrayFailed) ↔ (e.failed ≡ true)) × (e.answer ≡ Err Refusal.ArrayFailed → c'.memory ≡ c.memory)

-- register, WP and lock are as before
pub record Kept (c c' : Chip) : Type 0 where
  pub register : c'.control.register ≡ c.control.register
  pub wp : c'.control.wp ≡ c.control.wp
  pub tight : c'.control.tight ≡ c.control.tight
  pub range : c'.control.range ≡ c.control.range

-- Settle on a busy chip that is not dead: busy has ended and read gives the status; it is answered 0, or 13 if the array failed, and the fail bit says so.
pub record Settled (c : Chip) (e : Event) (c' : Chip) : Type 0 where
  pub answer : e.answer ≡ unless e.failed Refusal.ArrayFailed done
  pub status : c'.control.state ≡ State.Status
  pub fail : c'.control.fail ≡ e.failed
  pub pointer : c'.control.pointer ≡ c.control.pointer
  pub kept : Kept c c'

abbrev pub SettleEndsBusy : Type 0
SettleEndsBusy = (K : Kind) (o : Opening) (c c' : Chip) (e : Event) → Step K o c e c' → is_dead K o c.memory.holds.shape ≡ false
    → is_busy c.control.state ≡ true → e.call ≡ Call.Settle → Settled c e c'

-- FFh on a chip that is not dead: it is answered 0, or 13 if the array failed; either way the fail bit is 0, the pointer is A, and the chip waits as after 00h.
pub record WasReset (c : Chip) (e : Event) (c' : Chip) : Type 0 where
  pub answer : e.answer ≡ unless e.failed Refusal.ArrayFailed done
  pub waits : c'.control.state ≡ State.Column Purpose.Read
  pub fail : c'.control.fail ≡ false
  pub pointer : c'.control.pointer ≡ Pointer.A
  pub kept : Kept c c'

abbrev pub ResetAlwaysResets : Type 0
ResetAlwaysResets = (K : Kind) (o : Opening) (c c' : Chip) (e : Event) → Step K o c e c' → is_dead K o c.memory.holds.shape ≡ false
    → e.call ≡ Call.Command 0xFF → WasReset c e c'

abbrev pub LookChangesNothing : Type 0
LookChangesNothing = (K : Kind) (o : Opening) (c c' : Chip) (e : Event) (row column : ℕ) → Step K o c e c'
    → e.call ≡ Call.Look row column → c' ≡ c

-- a dead chip answers 1 to every call, and nothing changes
abbrev pub DeadChipsAnswer1 : Type 0
DeadChipsAnswer1 = (K : Kind) (o : Opening) (c c' : Chip) (e : Event) → Step K o c e c'
    → is_dead K o c.memory.holds.shape ≡ true → (e.answer ≡ Err Refusal.Dead) × (c' ≡ c)

-- a settle, or an FFh, on a busy chip that was answered 0
pub record Lands (c : Chip) (e : Event) : Type 0 where
  pub busy : is_busy c.control.state ≡ true
  pub call : (e.call ≡ Call.Settle) ⊎ (e.call ≡ Call.Command 0xFF)
  pub taken : e.answer ≡ Ok 0

-- only a landing changes the array
abbrev pub OnlyLandingsChangeCells : Type 0
OnlyLandingsChangeCells = (K : Kind) (o : Opening) (c c' : Chip) (e : Event) → Step K o c e c'
    → Lands c e ⊎ (c'.memory ≡ c.memory)

-- tight and an open range never stand together
abbrev pub TightIsClosed : Type 0
TightIsClosed = (K : Kind) (o : Opening) (m : Meaning) (es : List Event) (c : Chip) → Runs K o (opened K m) es c
    → c.control.tight ≡ true → c.control.range ≡ None

-- the register keeps its 528 places, and those beyond the part's columns stay erased
abbrev pub RegisterIsErasedBeyond : Type 0
RegisterIsErasedBeyond = (K : Kind) (o : Opening) (m : Meaning) (es : List Event) (c : Chip) → Runs K o (opened K m) es c
    → (length c.control.register.codes ≡ 528)
    × ((column : ℕ) → columns o.part ≤ column → slice_index_or c.control.register.codes column K.erased ≡ K.erased)

-- what is asked of the array is willingly done
abbrev pub willing : Meaning → Operation → Bool
willing m nothing = true
willing m (programs row codes closes) = m.willing_row row
willing m (fills block code) = m.willing_block block

-- The array of a chip that was opened new fails at a call exactly where its row or block is not willing: a chip asks for nothing
-- else that an array does not accept.
abbrev pub OnlyTheUnwillingFail : Type 0
OnlyTheUnwillingFail = (K : Kind) → KindLaws K → (o : Opening) (m : Meaning) (es : List Event) (e : Event) (c c' : Chip)
    → New K m.holds → Runs K o (opened K m) es c → Step K o c e c'
    → e.failed ≡ not (willing c.memory (operation K o c.memory.holds.shape c.control e.call))

-- row cycles count from the low byte up, modulo 32 times the part's most blocks
pub record RowsCountLowFirst : Type 0 where
  pub three : (p : Part) (low middle high : ℕ)
      → next_row p (next_row p (next_row p 0 0 low) 1 middle) 2 high ≡ (low + 256 * middle + 65536 * high) % most_rows p
  pub two : (p : Part) (low high : ℕ) → next_row p (next_row p 0 0 low) 1 high ≡ (low + 256 * high) % most_rows p

-- every code of the register is lawful
abbrev pub RegisterIsLawful : Type 0
RegisterIsLawful = (K : Kind) → KindLaws K → (o : Opening) (m : Meaning) (es : List Event) (c : Chip) → New K m.holds → Runs K o (opened K m) es c
    → all_lawful K c.control.register.codes ≡ true
