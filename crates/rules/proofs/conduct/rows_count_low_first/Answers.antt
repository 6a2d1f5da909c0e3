use Rattle.rules.proofs.Willing.{rows_count_low_first}
use Rattle.rules.proofs.conduct.rows_count_low_first.Goals as goal

pub returns : goal.returns
returns c = rows_count_low_first
