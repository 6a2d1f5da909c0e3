use Rattle.std.proofs.Common.{◌≡◌, ◌++◌, drop, replicate}
use Rattle.arrays.proofs.memory.put.Given as goal

-- the places so far have the value
abbrev pub invariant-loop-place : goal.invariant-loop-place
invariant-loop-place g l = l.place-items ≡ replicate l.place-index l.value ++ drop l.place-index l.initial.place-items
