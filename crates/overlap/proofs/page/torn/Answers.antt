use Rattle.std.proofs.Common.{rules}
use Rattle.overlap.proofs.page.torn.Goals as goal

pub returns : goal.returns
returns g c k h =
    let mapped = c.map.ensures.items.at k 0 0 h in
    search (rules, mapped)
