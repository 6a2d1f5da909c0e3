use Rattle.std.proofs.Common.{◌≡◌, ℕ, ◌<◌}
use Rattle.compare.proofs.cells.Pair.first_in_row.Given as goal

-- no column so far differs
abbrev pub invariant-loop-column : goal.invariant-loop-column
invariant-loop-column g l = (k : ℕ) → k < l.column
    → (g.A.CellArray.meaning l.self.one.now).holds.code l.row k ≡ (g.B.CellArray.meaning l.self.other.now).holds.code l.row k
