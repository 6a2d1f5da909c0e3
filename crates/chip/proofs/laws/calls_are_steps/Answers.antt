use Rattle.chip.proofs.Steps.{calls_are_steps}
use Rattle.chip.proofs.laws.calls_are_steps.Goals as goal

pub returns : goal.returns
returns c = calls_are_steps
