use Rattle.rules.proofs.Willing.{only_the_unwilling_fail}
use Rattle.rules.proofs.conduct.only_the_unwilling_fail.Goals as goal

pub returns : goal.returns
returns c = only_the_unwilling_fail
