use Rattle.rules.proofs.Failures.{law_of_failures}
use Rattle.rules.proofs.laws.law_of_failures.Goals as goal

pub returns : goal.returns
returns c = law_of_failures
