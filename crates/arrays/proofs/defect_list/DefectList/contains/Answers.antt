use Rattle.std.proofs.Common.{◌≡◌, Bool, false, ◌||◌, eqb, take, rules, ◌∙◌}
use borrow.Author.Tests.{tests}
use Rattle.std.specs.List.{fold}
use Rattle.std.proofs.lemmas.Iterator.{YieldsList-from_slice}
use Rattle.std.proofs.lemmas.Iterator.Consumers.{fold_from_yields_List}
use Rattle.arrays.proofs.Listed.{folded}
use Rattle.arrays.proofs.defect_list.DefectList.contains.Goals as goal

pub returns : goal.returns
returns c =
    let list = take c.args.self.now.used c.args.self.now.blocks in
    let all : c.fold.result ≡ fold (λ f b. eqb b c.args.block || f) false list =
    fold_from_yields_List _ (λ f b. eqb b c.args.block || f) false c.fold.result c.fold.ensures.ran (YieldsList-from_slice list (search rules)) (λ a x r q k. search (rules, tests)) in
    let here = folded list c.args.block false in
    search (rules, tests, all, here)
