-- A part's name reads back as the part. Assumes nothing.
use Rattle.std.proofs.Common.{Ok, Err, refl, arith}
use Rattle.rules.specs.Names.{NamesReadBack}

pub names_read_back : NamesReadBack
names_read_back p (Ok q) h = grind arith
names_read_back p (Err e) h = absurd (h p refl)
