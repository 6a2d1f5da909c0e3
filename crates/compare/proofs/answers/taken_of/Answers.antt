use Rattle.std.proofs.Common.{◌≡◌, ◌<◌, ◌^◌, is_ok, sum, map, length, rules, ◌∙◌, arith}
use borrow.Author.Tests.{tests}
use Rattle.std.specs.Int.{from_bool}
use Rattle.std.proofs.lemmas.Iterator.{YieldsList-from_slice, YieldsList-from_map}
use Rattle.std.proofs.lemmas.Iterator.Consumers.{sum_from_yields_List, fits_from_yields_list}
use Rattle.compare.specs.Played.{count_taken}
use Rattle.compare.proofs.Counts.{taken_summed, all_answered}
use Rattle.compare.proofs.answers.taken_of.Goals as goal

pub sum-requires-clause-fits : goal.sum-requires-clause-fits
sum-requires-clause-fits c =
    let answers = c.args.answers.now in
    let small : length answers < 2 ^ 64 = search rules in
    let fits : sum (map (λ a. from_bool (is_ok a)) answers) < 2 ^ 64 = omega (arith, taken_summed answers, all_answered answers) in
    fits_from_yields_list c.map.result _ (YieldsList-from_map _ (λ a. from_bool (is_ok a)) (YieldsList-from_slice answers cc) c.map.ensures.closure (λ x r q k. search (rules, tests))) fits

pub returns : goal.returns
returns c =
    let answers = c.args.answers.now in
    let taken : c.sum.result ≡ count_taken answers =
    sum_from_yields_List c.map.result _ c.sum.ensures.ran
    (YieldsList-from_map _ (λ a. from_bool (is_ok a)) (YieldsList-from_slice answers cc) c.map.ensures.closure (λ x r q k. search (rules, tests))) ∙ taken_summed answers in
    let all = all_answered answers in
    record { taken = taken; others = omega arith }
