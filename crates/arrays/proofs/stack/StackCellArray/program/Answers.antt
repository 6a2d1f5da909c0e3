use Rattle.std.proofs.Common.{arith}
use Rattle.arrays.proofs.Stacked.{second_programs}
use Rattle.arrays.proofs.stack.StackCellArray.program.Goals as goal

pub returns-in-Second-clause-done : goal.returns-in-Second-clause-done
returns-in-Second-clause-done g c =
    let s = c.args.self.now in
    second_programs g.A.Stored.Word.kind (g.A.CellArray.meaning s.first) (g.B.CellArray.meaning s.second) _ c.args.row c.in-Second.split
    c.args.codes.now c.args.closes _ c.in-Second.ensures.2 (omega arith) (omega arith) c.program-in-Second.ensures.done
