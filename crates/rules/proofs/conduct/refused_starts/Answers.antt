use Rattle.rules.proofs.Rests.{refused_starts}
use Rattle.rules.proofs.conduct.refused_starts.Goals as goal

pub returns : goal.returns
returns c = refused_starts
