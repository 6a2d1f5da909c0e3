-- Why two chips were not compared. Assumes nothing.
use Rattle.std.specs.Prelude.{◌≡◌, ℕ, ◌^◌, ◌<◌, ◌≤◌, List, None, Option}
use Rattle.records.specs.declared.call.Call.{Call}
use Rattle.refusals.specs.declared.Refusal.{Refusal}
use Rattle.records.specs.declared.error.TraceError.{TraceError}
use Rattle.records.specs.Readings.{Reading, Refuses}
use Rattle.records.specs.Refused.{refusal_of}
use Rattle.compare.specs.declared.error.Side.{Side}
use Rattle.compare.specs.declared.error.CompareError.{CompareError}

-- two lists of calls on arrays of so many blocks
abbrev pub CallsRefused : ℕ → CompareError → Type 0
CallsRefused blocks CompareError.NoMemory = blocks < 2 ^ 32
CallsRefused blocks CompareError.TooLarge = 2 ^ 32 ≤ blocks
CallsRefused blocks (CompareError.NotRead side error) = ⊥

-- a trace that has a reading
abbrev pub Accepted : List ℕ → Type 0
Accepted trace = (calls : List Call) × Reading trace calls

-- Two traces: one that is not read is told with the place where reading stopped, the first before the second.
abbrev pub TracesRefused : ℕ → List ℕ → List ℕ → CompareError → Type 0
TracesRefused blocks trace trace' CompareError.NoMemory = (blocks < 2 ^ 32) × Accepted trace × Accepted trace'
TracesRefused blocks trace trace' CompareError.TooLarge = (2 ^ 32 ≤ blocks) × Accepted trace × Accepted trace'
TracesRefused blocks trace trace' (CompareError.NotRead Side.One error) = Refuses trace error
TracesRefused blocks trace trace' (CompareError.NotRead Side.Other error) = Accepted trace × Refuses trace' error

-- one trace, which was not read
pub record Unread (trace : List ℕ) (side : Side) (told : CompareError) : Type 0 where
  pub error : TraceError
  pub tells : told ≡ CompareError.NotRead side error
  pub why : Refuses trace error

-- a trace that is not accepted is refused; want of memory is no refusal
abbrev pub refusal_told : CompareError → Option Refusal
refusal_told CompareError.NoMemory = None
refusal_told CompareError.TooLarge = None
refusal_told (CompareError.NotRead side error) = refusal_of error
