-- Readings of whole traces. Assumes nothing.
use Rattle.std.specs.Prelude.{◌≡◌, ℕ, zero, suc, ◌+◌, ◌<◌, Bool, true, ◌&&◌, List, [], ◌∷◌, ◌++◌, length, take, drop, is_some, Some, None, Ok, Err, Result}
use Rattle.records.specs.declared.call.Call.{Call}
use Rattle.records.specs.declared.error.TraceError.{TraceError}
use Rattle.records.specs.declared.error.TraceError.TheVariants.{BadRecord, NoMemory}
use Rattle.records.specs.Records.{record_of, writable, First, first}

-- the records of the calls, one after the other
abbrev pub joined : List Call → List ℕ
joined [] = []
joined (call ∷ calls) = record_of call ++ joined calls

-- the calls are a reading of the trace: it is their records, with no byte left over
abbrev pub Reading : List ℕ → List Call → Type 0
Reading trace calls = trace ≡ joined calls

abbrev pub all_writable : List Call → Bool
all_writable [] = true
all_writable (call ∷ calls) = writable call && all_writable calls

-- what reading a trace comes to: its calls, or the number of bytes of whole records before a bad one
abbrev pub Outcome : Type 0
Outcome = Result (List Call) ℕ

-- one record more in front
abbrev pub after : Call → Outcome → Outcome
after call (Ok calls) = Ok (call ∷ calls)
after call (Err whole) = Err (length (record_of call) + whole)

-- where no record begins: the end of the trace, or a bad record
abbrev pub at_end : List ℕ → Outcome
at_end [] = Ok []
at_end (byte ∷ rest) = Err 0

abbrev pub go_on : (List ℕ → Outcome) → Outcome → First → Outcome
go_on further end None = end
go_on further end (Some (call, rest)) = after call (further rest)

-- what reading at most so many records comes to
unfoldable pub read_most : ℕ → List ℕ → Outcome
read_most zero trace = at_end trace
read_most (suc most) trace = go_on (read_most most) (at_end trace) (first trace)

-- the reading of a whole trace, which has no more records than bytes
unfoldable pub reading : List ℕ → Outcome
reading trace = read_most (length trace) trace

-- a trace is not accepted, and so many bytes of whole records stand before its first bad record
pub record Breaks (trace : List ℕ) (whole : ℕ) : Type 0 where
  pub value : reading trace ≡ Err whole
  pub unread : (calls : List Call) → Reading trace calls → ⊥
  pub before : List Call
  pub front : Reading (take whole trace) before
  pub left : whole < length trace
  pub bad : first (drop whole trace) ≡ None

-- so many bytes of whole records were read, and one more record stands there: it found no memory
pub record Starves (trace : List ℕ) (whole : ℕ) : Type 0 where
  pub before : List Call
  pub front : Reading (take whole trace) before
  pub next : is_some (first (drop whole trace)) ≡ true

-- what holds of a trace that was not read
abbrev pub Refuses : List ℕ → TraceError → Type 0
Refuses trace (BadRecord whole) = Breaks trace whole
Refuses trace (NoMemory whole) = Starves trace whole
