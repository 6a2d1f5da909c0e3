use Rattle.records.proofs.Turns.{Turn}
use Rattle.records.proofs.writer.write_trace.Given as goal

abbrev pub invariant-loop-count : goal.invariant-loop-count
invariant-loop-count l = Turn l.calls l.initial.out l.count l.written l.out
