use Rattle.std.proofs.Common.{arith}
use Rattle.rules.proofs.Fetched.{page_is}
use Rattle.rules.proofs.register.PageRegister.fetch.Goals as goal

pub returns : goal.returns
returns g c =
    page_is c.args.part ((g.A.CellArray.meaning c.args.array.now).holds.code c.args.row) g.A.Stored.Word.kind.erased c.loop-column.codes c.loop-column.invariant.0
    (λ k h. c.loop-column.invariant.1 k (omega (arith, h)))
