use Rattle.rules.proofs.Locks.{tight_is_closed}
use Rattle.rules.proofs.conduct.tight_is_closed.Goals as goal

pub returns : goal.returns
returns c = tight_is_closed
