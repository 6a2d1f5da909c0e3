use Rattle.std.proofs.Common.{map}
use Rattle.arrays.specs.Flat.{Joined}
use Rattle.arrays.proofs.memory.join_row.Given as goal

-- the first i codes are joined
abbrev pub invariant-loop-i : goal.invariant-loop-i
invariant-loop-i g l = Joined g.W.Word.kind (map g.W.Word.code l.initial.words) (map g.W.Word.code l.words) l.at l.codes l.i
