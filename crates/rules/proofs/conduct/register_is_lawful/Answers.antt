use Rattle.rules.proofs.Willing.{register_is_lawful}
use Rattle.rules.proofs.conduct.register_is_lawful.Goals as goal

pub returns : goal.returns
returns c = register_is_lawful
