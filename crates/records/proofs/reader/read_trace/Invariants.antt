use Rattle.std.proofs.Common.{◌≡◌, vec_items}
use Rattle.records.proofs.Progress.{Turn}
use Rattle.records.proofs.reader.read_trace.Given as goal

abbrev pub invariant-loop-record : goal.invariant-loop-record
invariant-loop-record l = record {
  turn : Turn l.trace l.record-iterator.rest.now (vec_items l.calls);
  same : l.record-iterator.trace.now ≡ l.trace;
}
