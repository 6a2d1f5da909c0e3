use Rattle.std.proofs.Common.{List, set, ap, ◌∙◌}
use Rattle.arrays.proofs.Places.{run_more}
use Rattle.arrays.proofs.memory.put.Goals as goal

pub loop-place-preserved : goal.loop-place-preserved
loop-place-preserved g c =
    ap (λ (xs : List _). set xs c.loop-place.place-index c.args.value) c.loop-place.invariant
    ∙ run_more _ c.loop-place.place-index c.args.value c.loop-place-test.true
