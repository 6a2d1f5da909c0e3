use Rattle.rules.proofs.Tours.{tour}
use Rattle.rules.proofs.cases.more_cases.Goals as goal

pub returns : goal.returns
returns c = tour
