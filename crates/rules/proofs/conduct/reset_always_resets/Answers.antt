use Rattle.rules.proofs.Endings.{reset_always_resets}
use Rattle.rules.proofs.conduct.reset_always_resets.Goals as goal

pub returns : goal.returns
returns c = reset_always_resets
