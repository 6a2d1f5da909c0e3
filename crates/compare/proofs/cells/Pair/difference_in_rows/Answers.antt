use Rattle.std.proofs.Common.{rules, ℕ}
use Rattle.compare.specs.Differences.{SameRow}
use Rattle.compare.proofs.Found.{first_from_find_map}
use Rattle.compare.proofs.cells.Pair.difference_in_rows.Goals as goal

pub returns-clause-none : goal.returns-clause-none
returns-clause-none g c =
    let same : ℕ → Type 0 = SameRow (g.A.CellArray.meaning c.args.self.now.one.now).holds (g.B.CellArray.meaning c.args.self.now.other.now).holds c.args.columns in
    let first = first_from_find_map _ _ _ c.find_map.result same c.find_map.ensures.runs (search rules) (λ row k. search rules) in
    search (rules, first)

pub returns-clause-before : goal.returns-clause-before
returns-clause-before g c =
    let same : ℕ → Type 0 = SameRow (g.A.CellArray.meaning c.args.self.now.one.now).holds (g.B.CellArray.meaning c.args.self.now.other.now).holds c.args.columns in
    let first = first_from_find_map _ _ _ c.find_map.result same c.find_map.ensures.runs (search rules) (λ row k. search rules) in
    search (rules, first)
