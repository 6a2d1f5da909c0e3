use Rattle.rules.proofs.Rests.{dead_chips_answer_1}
use Rattle.rules.proofs.conduct.dead_chips_answer_1.Goals as goal

pub returns : goal.returns
returns c = dead_chips_answer_1
