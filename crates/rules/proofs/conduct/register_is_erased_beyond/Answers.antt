use Rattle.rules.proofs.Beyond.{register_is_erased_beyond}
use Rattle.rules.proofs.conduct.register_is_erased_beyond.Goals as goal

pub returns : goal.returns
returns c = register_is_erased_beyond
