-- The records of a trace, one after another. Assumes nothing.
use Rattle.std.specs.Prelude.{◌≡◌, ℕ, ◌-◌, ◌<◌, [], length, Some, None, Option, Ok, Err, Result}
use Rattle.records.specs.declared.call.Call.{Call}
use Rattle.records.specs.declared.error.TraceError.{TraceError}
use Rattle.records.specs.declared.error.TraceError.TheVariants.{BadRecord}
use Rattle.records.specs.declared.iter.Records.{Records}
use Rattle.records.specs.Records.{first, Begins}

-- so many bytes of whole records stand before what is left
abbrev pub passed : Records → ℕ
passed s = length s.trace.now - length s.rest.now

-- the first record of what is left was taken, with the offset of its first byte
pub record Taken (s : Records) (whole : ℕ) (call : Call) (t : Records) : Type 0 where
  pub place : whole ≡ passed s
  pub found : first s.rest.now ≡ Some (call, t.rest.now)
  pub begins : Begins s.rest.now call t.rest.now
  pub same : t.trace.now ≡ s.trace.now

-- something is left and no record begins it: nothing more comes
pub record Broken (s : Records) (e : TraceError) (t : Records) : Type 0 where
  pub place : e ≡ BadRecord (passed s)
  pub some : 0 < length s.rest.now
  pub bad : first s.rest.now ≡ None
  pub done : t.rest.now ≡ []
  pub same : t.trace.now ≡ s.trace.now

-- what one call of `next` gives, and what is left after it
abbrev pub Steps : Records → Option (Result (ℕ × Call) TraceError) → Records → Type 0
Steps s None t = (s.rest.now ≡ []) × (t.rest.now ≡ []) × (t.trace.now ≡ s.trace.now)
Steps s (Some (Ok (whole, call))) t = Taken s whole call t
Steps s (Some (Err e)) t = Broken s e t
