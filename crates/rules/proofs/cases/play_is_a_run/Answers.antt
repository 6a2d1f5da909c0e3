use Rattle.rules.proofs.Benches.{play_is_a_run}
use Rattle.rules.proofs.cases.play_is_a_run.Goals as goal

pub returns : goal.returns
returns c = play_is_a_run
