use Rattle.rules.proofs.Rests.{look_changes_nothing}
use Rattle.rules.proofs.conduct.look_changes_nothing.Goals as goal

pub returns : goal.returns
returns c = look_changes_nothing
