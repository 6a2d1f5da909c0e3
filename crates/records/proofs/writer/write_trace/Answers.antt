use Rattle.records.proofs.Turns.{turn_first, turn_more}
use Rattle.records.proofs.writer.write_trace.Goals as goal

pub loop-count-init : goal.loop-count-init
loop-count-init c = turn_first c.args.calls.now c.args.out.now

pub loop-count-preserved : goal.loop-count-preserved
loop-count-preserved c =
    let room = rw c.loop-count.auto.out at c.in-Some.ensures in
    turn_more _ _ _ _ _ _ _ c.loop-count.invariant c.loop-count-test.true room c.put_record.ensures
