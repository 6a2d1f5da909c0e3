-- The verdict on a trace, and the lines for people. Assumes nothing.
use Rattle.std.specs.Prelude.{◌≡◌, ℕ, List, ◌++◌, length, Ok, Err, Result, codes, decimal}
use Rattle.records.specs.Readings.{Outcome, reading, Starves}
use Rattle.records.specs.Matches.{past}
use Rattle.records.specs.Flaws.{cause, flaw_text}
use Rattle.records.specs.Texts.{text_of}
use Rattle.tracetext.specs.declared.verdict.Accepted.{Accepted}
use Rattle.tracetext.specs.declared.verdict.NotAccepted.{NotAccepted}
use Rattle.tracetext.specs.declared.verdict.NotAccepted.TheVariants.{BadRecord, NoMemory}
use Rattle.tracetext.specs.declared.line.Line.{Line}

abbrev pub Verdict : Type 0
Verdict = Result Accepted NotAccepted

-- from what the reading of the trace comes to
abbrev pub verdict_of : List ℕ → Outcome → Verdict
verdict_of trace (Ok calls) = Ok (record { records = length calls; bytes = length trace })
verdict_of trace (Err whole) = Err (BadRecord whole (cause (past whole trace)))

-- the verdict that a trace may get: the one of its reading, or that there was no memory for one more call
abbrev pub Judged : List ℕ → Verdict → Type 0
Judged trace (Ok accepted) = ◌≡◌ {A = Verdict} (Ok accepted) (verdict_of trace (reading trace))
Judged trace (Err (BadRecord whole flaw)) = ◌≡◌ {A = Verdict} (Err (BadRecord whole flaw)) (verdict_of trace (reading trace))
Judged trace (Err (NoMemory whole)) = Starves trace whole

-- a record with the offset of its first byte
abbrev pub line_text : Line → List ℕ
line_text line = decimal line.offset ++ (codes ": " ++ text_of line.call)

abbrev pub accepted_text : Accepted → List ℕ
accepted_text a = codes "accepted: " ++ (decimal a.records ++ (codes " records in " ++ (decimal a.bytes ++ codes " bytes")))

abbrev pub refused_text : NotAccepted → List ℕ
refused_text (BadRecord whole flaw) = codes "not accepted: at byte " ++ (decimal whole ++ (codes ", " ++ (flaw_text flaw ++ (codes " (refusal " ++ (decimal 14 ++ codes ")")))))
refused_text (NoMemory whole) = codes "no memory"
