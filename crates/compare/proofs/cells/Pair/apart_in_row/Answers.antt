use Rattle.std.proofs.Common.{ℕ, ◌<◌, ◌^◌, not, eqb, sum, map, rules, ◌∙◌, arith}
use borrow.Author.Tests.{tests}
use Rattle.std.specs.Int.{from_bool}
use Rattle.std.specs.List.{range_with_len}
use Rattle.std.proofs.lemmas.Iterator.{YieldsList-from_range, YieldsList-from_map}
use Rattle.std.proofs.lemmas.Iterator.Consumers.{sum_from_yields_List, fits_from_yields_list}
use Rattle.compare.proofs.Counts.{apart_summed, apart_small}
use Rattle.compare.proofs.cells.Pair.apart_in_row.Goals as goal

pub sum-requires-clause-fits : goal.sum-requires-clause-fits
sum-requires-clause-fits g c =
    let f : ℕ → ℕ = (g.A.CellArray.meaning c.args.self.now.one.now).holds.code c.args.row in
    let h : ℕ → ℕ = (g.B.CellArray.meaning c.args.self.now.other.now).holds.code c.args.row in
    let n : ℕ = c.args.columns in
    let apart : ℕ → ℕ = λ k. from_bool (not (eqb (f k) (h k))) in
    let fits : sum (map apart (range_with_len 0 n)) < 2 ^ 32 = omega (arith, apart_summed f h n, apart_small f h n) in
    fits_from_yields_list c.map.result _ (YieldsList-from_map _ apart (YieldsList-from_range 0 n n (cc) (omega arith)) c.map.ensures.closure (λ x r q k. search (rules, tests))) fits

pub returns-clause-count : goal.returns-clause-count
returns-clause-count g c =
    let f : ℕ → ℕ = (g.A.CellArray.meaning c.args.self.now.one.now).holds.code c.args.row in
    let h : ℕ → ℕ = (g.B.CellArray.meaning c.args.self.now.other.now).holds.code c.args.row in
    let n : ℕ = c.args.columns in
    let apart : ℕ → ℕ = λ k. from_bool (not (eqb (f k) (h k))) in
    sum_from_yields_List c.map.result _ c.sum.ensures.ran
    (YieldsList-from_map _ apart (YieldsList-from_range 0 n n (cc) (omega arith)) c.map.ensures.closure (λ x r q k. search (rules, tests)))
    ∙ apart_summed f h n

pub returns-clause-bound : goal.returns-clause-bound
returns-clause-bound g c =
    let f : ℕ → ℕ = (g.A.CellArray.meaning c.args.self.now.one.now).holds.code c.args.row in
    let h : ℕ → ℕ = (g.B.CellArray.meaning c.args.self.now.other.now).holds.code c.args.row in
    omega (arith, returns-clause-count g c, apart_small f h c.args.columns)
