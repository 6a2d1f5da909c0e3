use Rattle.std.proofs.Common.{refl, ◌∙◌}
use Rattle.records.proofs.Progress.{turn_first, turn_more}
use Rattle.records.proofs.reader.read_trace.Goals as goal

pub loop-record-init : goal.loop-record-init
loop-record-init c =
    rw (c.into_iter-record-iterator.ensures.into_iter_gives, c.new-record-items.ensures.left, c.new-record-items.ensures.whole, c.new-calls.ensures.items)
    (record { turn = turn_first c.args.trace.now; same = refl })

pub loop-record-preserved : goal.loop-record-preserved
loop-record-preserved c =
    let taken = rw c.in_ok-whole.was at c.in-Some.ensures.steps in
    let items = rw (← c.in_ok-map_err.ensures.variant) at c.push.ensures.items in
    record {
      turn = rw items (turn_more _ _ _ _ _ c.loop-record.invariant.turn taken.begins);
      same = taken.same ∙ c.loop-record.invariant.same;
    }
