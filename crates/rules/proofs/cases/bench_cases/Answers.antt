use Rattle.rules.proofs.Benches.{bench}
use Rattle.rules.proofs.cases.bench_cases.Goals as goal

pub returns : goal.returns
returns c = bench
