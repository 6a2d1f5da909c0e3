use Rattle.std.proofs.Common.{◌≡◌, ℕ, ◌<◌, cond, nat_lt, length, get_or}
use Rattle.rules.specs.Parts.{columns}
use Rattle.rules.proofs.register.PageRegister.fetch.Given as goal

abbrev pub invariant-loop-column : goal.invariant-loop-column
invariant-loop-column g l =
    let e = g.A.Stored.Word.kind.erased in
    (length l.codes ≡ 528)
    × ((k : ℕ) → k < l.column → get_or l.codes k e ≡ cond (nat_lt k (columns l.fn.part)) ((g.A.CellArray.meaning l.array).holds.code l.row k) e)
