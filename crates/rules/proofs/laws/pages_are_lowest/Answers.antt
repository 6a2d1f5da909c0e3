use Rattle.rules.proofs.Logs.{pages_are_lowest}
use Rattle.rules.proofs.laws.pages_are_lowest.Goals as goal

pub returns : goal.returns
returns c = pages_are_lowest
