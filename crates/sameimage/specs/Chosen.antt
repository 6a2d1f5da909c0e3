-- What the arguments choose. Assumes nothing.
use Rattle.std.specs.Prelude.{ℕ, ◌<◌, ◌≤◌, cond, ◌&&◌, Some, None, Option, nat_le, nat_lt}
use Rattle.rules.specs.declared.part.Part.{Part}
use Rattle.rules.specs.Parts.{most_blocks}

-- the part's most blocks, unless fewer are asked for; none where the part has not so many
abbrev pub chosen_blocks : Part → Option ℕ → Option ℕ
chosen_blocks p None = Some (most_blocks p)
chosen_blocks p (Some n) = cond (nat_lt 0 n && nat_le n (most_blocks p)) (Some n) None

-- the number of blocks is one that the part can have
abbrev pub Chosen : Part → ℕ → Type 0
Chosen p blocks = (0 < blocks) × (blocks ≤ most_blocks p)
