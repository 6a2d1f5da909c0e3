use Rattle.std.proofs.Common.{◌≡◌, map, take, ap, ◌∙◌, rules}
use Rattle.std.proofs.lemmas.List.{take-map}
use Rattle.rules.specs.Parts.{columns}
use Rattle.chip.proofs.landing.land.Goals as goal

pub returns-in-Program-Torn-clause-done : goal.returns-in-Program-Torn-clause-done
returns-in-Program-Torn-clause-done g c =
    let n = columns c.args.part in
    let t = g.A.Stored.Word.kind.torn in
    let page : c.front-in-Program-Torn.result.now ≡ map t (take n c.args.register.now.codes) =
    c.front-in-Program-Torn.ensures.value ∙ (ap (take n) c.torn-cut.ensures ∙ take-map t n c.args.register.now.codes) in
    search (rules, page)
