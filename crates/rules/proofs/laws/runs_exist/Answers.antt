use Rattle.rules.proofs.Exist.{runs_exist}
use Rattle.rules.proofs.laws.runs_exist.Goals as goal

pub returns : goal.returns
returns c = runs_exist
