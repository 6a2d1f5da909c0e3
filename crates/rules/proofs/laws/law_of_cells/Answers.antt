use Rattle.rules.proofs.Logs.{law_of_cells}
use Rattle.rules.proofs.laws.law_of_cells.Goals as goal

pub returns : goal.returns
returns c = law_of_cells
