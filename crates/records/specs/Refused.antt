-- The refusal of a trace, and why it was not read in words. Assumes nothing.
use Rattle.std.specs.Prelude.{ℕ, List, ◌++◌, Some, None, Option, codes, decimal}
use Rattle.refusals.specs.declared.Refusal.{Refusal}
use Rattle.refusals.specs.declared.Refusal.TheVariants as refusal
use Rattle.records.specs.declared.error.TraceError.{TraceError}
use Rattle.records.specs.declared.error.TraceError.TheVariants.{BadRecord, NoMemory}

-- a bad record is a refusal; want of memory is none, since the trace may be a good one
abbrev pub refusal_of : TraceError → Option Refusal
refusal_of (BadRecord whole) = Some refusal.BadRecord
refusal_of (NoMemory whole) = None

-- why a trace was not read, in words; 14 is the number of the refusal
abbrev pub error_text : TraceError → List ℕ
error_text (BadRecord whole) = codes "refused with " ++ (decimal 14 ++ (codes ", a bad record after " ++ (decimal whole ++ codes " bytes")))
error_text (NoMemory whole) = codes "no memory for the calls after " ++ (decimal whole ++ codes " bytes")
