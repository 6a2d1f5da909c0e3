use Rattle.std.proofs.Common.{◌≡◌, length}
use Rattle.chip.specs.Calls.{seen}
use Rattle.runner.proofs.Turns.{Sofar}
use Rattle.runner.proofs.running.run.Given as goal

abbrev pub invariant-loop-left : goal.invariant-loop-left
invariant-loop-left g l =
    Sofar g.A.Stored.Word.kind l.initial.chip.opening (seen g.A.CellArray.meaning l.initial.chip) l.trace l.initial.results
    (seen g.A.CellArray.meaning l.chip) l.left l.results l.written
    × (g.A.CellArray.rest l.chip.array ≡ g.A.CellArray.rest l.initial.chip.array)
    × (l.chip.opening ≡ l.initial.chip.opening)

abbrev pub decreases-loop-left : goal.decreases-loop-left
decreases-loop-left g l = length l.left
