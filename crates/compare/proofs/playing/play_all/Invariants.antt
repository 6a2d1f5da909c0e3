use Rattle.std.proofs.Common.{◌≡◌, ◌≤◌, length, take, vec_items, vec_len, vec_capacity}
use Rattle.chip.specs.Calls.{seen}
use Rattle.compare.specs.Played.{Played}
use Rattle.compare.proofs.playing.play_all.Given as goal

abbrev pub invariant-loop-call : goal.invariant-loop-call
invariant-loop-call g l = (l.call-index ≤ length l.calls)
    × (vec_len l.answers ≡ l.call-index)
    × (length l.calls ≤ vec_capacity l.answers)
    × (l.chip.opening ≡ l.initial.chip.opening)
    × (g.A.CellArray.rest l.chip.array ≡ g.A.CellArray.rest l.initial.chip.array)
    × Played g.A.Stored.Word.kind l.initial.chip.opening (seen g.A.CellArray.meaning l.initial.chip)
    (take l.call-index l.calls) (vec_items l.answers) (seen g.A.CellArray.meaning l.chip)
