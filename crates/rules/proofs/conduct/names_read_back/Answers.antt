use Rattle.rules.proofs.Names.{names_read_back}
use Rattle.rules.proofs.conduct.names_read_back.Goals as goal

pub returns : goal.returns
returns c = names_read_back
