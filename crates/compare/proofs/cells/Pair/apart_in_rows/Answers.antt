use Rattle.std.proofs.Common.{ℕ, ◌-◌, ◌<◌, ◌^◌, map, sum, rules, ◌∙◌, arith}
use Rattle.std.specs.List.{range_with_len}
use Rattle.std.proofs.lemmas.Iterator.{YieldsList-from_range, YieldsList-from_map}
use Rattle.std.proofs.lemmas.Iterator.Consumers.{sum_from_yields_List, fits_from_yields_list}
use Rattle.compare.specs.Differences.{count_apart}
use Rattle.compare.proofs.Counts.{rows_summed, few_rows}
use Rattle.compare.proofs.cells.Pair.apart_in_rows.Goals as goal

pub sum-requires-clause-fits : goal.sum-requires-clause-fits
sum-requires-clause-fits g c =
    let f = (g.A.CellArray.meaning c.args.self.now.one.now).holds in
    let h = (g.B.CellArray.meaning c.args.self.now.other.now).holds in
    let first : ℕ = c.args.rows.start in
    let end : ℕ = c.args.rows.end in
    let n : ℕ = end - first in
    let apart : ℕ → ℕ = λ row. count_apart (f.code row) (h.code row) c.args.columns in
    let summed = rows_summed f h c.args.columns first n in
    let small = few_rows f h c.args.columns first n 32 (omega arith) in
    let fits : sum (map apart (range_with_len first n)) < 2 ^ 32 = omega arith in
    fits_from_yields_list c.map.result _ (YieldsList-from_map _ apart (YieldsList-from_range first end n (cc) (omega arith)) c.map.ensures.closure (λ x r q k. search rules)) fits

pub returns : goal.returns
returns g c =
    let f = (g.A.CellArray.meaning c.args.self.now.one.now).holds in
    let h = (g.B.CellArray.meaning c.args.self.now.other.now).holds in
    let first : ℕ = c.args.rows.start in
    let end : ℕ = c.args.rows.end in
    let n : ℕ = end - first in
    let apart : ℕ → ℕ = λ row. count_apart (f.code row) (h.code row) c.args.columns in
    sum_from_yields_List c.map.result _ c.sum.ensures.ran
    (YieldsList-from_map _ apart (YieldsList-from_range first end n (cc) (omega arith)) c.map.ensures.closure (λ x r q k. search rules))
    ∙ rows_summed f h c.args.columns first n
