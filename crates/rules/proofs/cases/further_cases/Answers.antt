use Rattle.rules.proofs.Tours.{further}
use Rattle.rules.proofs.cases.further_cases.Goals as goal

pub returns : goal.returns
returns c = further
