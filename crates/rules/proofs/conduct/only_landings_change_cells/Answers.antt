use Rattle.rules.proofs.Rests.{only_landings_change_cells}
use Rattle.rules.proofs.conduct.only_landings_change_cells.Goals as goal

pub returns : goal.returns
returns c = only_landings_change_cells
