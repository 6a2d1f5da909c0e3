use Rattle.rules.proofs.Endings.{settle_ends_busy}
use Rattle.rules.proofs.conduct.settle_ends_busy.Goals as goal

pub returns : goal.returns
returns c = settle_ends_busy
