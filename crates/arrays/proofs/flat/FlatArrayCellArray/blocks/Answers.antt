use Rattle.arrays.proofs.Flats.{flat_laws}
use Rattle.arrays.proofs.flat.FlatArrayCellArray.blocks.Goals as goal

pub returns-clause-laws : goal.returns-clause-laws
returns-clause-laws g c = let w = g.W.Word in let s = c.args.self.now in flat_laws w.kind w.code w.laws w.stored s.columns s.words.now s.counts.now
