use Rattle.std.proofs.Common.{rules, ◌≡◌, ℕ, ◌<◌}
use Rattle.overlap.specs.Pages.{part_code}
use Rattle.overlap.proofs.Made.{made_at}
use Rattle.overlap.proofs.page.part.Goals as goal

pub returns : goal.returns
returns c k h =
    made_at c.from_fn.ensures.items (part_code c.args.columns.start c.args.columns.end c.args.code c.args.erased) (λ i y q call. search (rules, call)) 0 k h
