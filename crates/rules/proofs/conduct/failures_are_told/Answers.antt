use Rattle.rules.proofs.Rests.{failures_are_told}
use Rattle.rules.proofs.conduct.failures_are_told.Goals as goal

pub returns : goal.returns
returns c = failures_are_told
