use Rattle.rules.proofs.Rests.{low_refusals_change_nothing}
use Rattle.rules.proofs.conduct.low_refusals_change_nothing.Goals as goal

pub returns : goal.returns
returns c = low_refusals_change_nothing
