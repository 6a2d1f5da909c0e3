use Rattle.std.proofs.Common.{rules}
use borrow.Author.Tests.{tests}
use Rattle.std.proofs.lemmas.Iterator.{YieldsList-from_slice, YieldsList-from_zip, same_from_all}
use Rattle.compare.proofs.answers.same_answers.Goals as goal

pub returns-then-answers-other_answers : goal.returns-then-answers-other_answers
returns-then-answers-other_answers c =
    let one = c.args.answers.now in
    let other = c.args.other_answers.now in
    same_from_all c.all.new.self _ c.all.result one other c.all.ensures.ran (YieldsList-from_zip (YieldsList-from_slice one cc) (YieldsList-from_slice other cc)) (search rules) (λ x q k. search (rules, tests)) (λ x q k. search (rules, tests))
