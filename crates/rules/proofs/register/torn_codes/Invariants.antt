use Rattle.std.proofs.Common.{◌≡◌, ℕ, ◌<◌, cond, nat_lt, length, get_or}
use Rattle.rules.proofs.register.torn_codes.Given as goal

-- the codes so far are torn, the others as they were
abbrev pub invariant-loop-code : goal.invariant-loop-code
invariant-loop-code g l =
    (length l.code-items ≡ 528)
    × ((k : ℕ) → k < 528 → get_or l.code-items k 0 ≡ cond (nat_lt k l.code-index) (g.W.Word.kind.torn (get_or l.fn.codes k 0)) (get_or l.fn.codes k 0))
