use Rattle.rules.proofs.Logs.{logs_exist}
use Rattle.rules.proofs.laws.logs_exist.Goals as goal

pub returns : goal.returns
returns c = logs_exist
