-- The first call of a list that was refused. Assumes nothing.
use Rattle.std.specs.Prelude.{◌≡◌, ℕ, ◌<◌, Bool, true, false, List, length, Some, None, Ok, Err, Option, slice_index_or}
use Rattle.rules.specs.Answering.{Answer}
use Rattle.compare.specs.declared.answers.FirstRefusal.{FirstRefusal}

abbrev pub is_taken : Answer → Bool
is_taken (Ok value) = true
is_taken (Err why) = false

-- the first call that was refused, counted from 0, and why; none where all were taken
abbrev pub FirstRefusalIn : List Answer → Option FirstRefusal → Type 0
FirstRefusalIn answers None = (k : ℕ) → k < length answers → is_taken (slice_index_or answers k (Ok 0)) ≡ true
FirstRefusalIn answers (Some f) = (f.call < length answers) × (slice_index_or answers f.call (Ok 0) ≡ Err f.why)
    × ((k : ℕ) → k < f.call → is_taken (slice_index_or answers k (Ok 0)) ≡ true)
