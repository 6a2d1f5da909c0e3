-- What an array has beside its meaning, and no call on it changes: which memory was lent to it, and what lies there beyond its shape. Assumes nothing.
use Rattle.std.specs.Prelude.{ℕ, ◌+◌, ◌*◌, List, length, slice_index}
use Rattle.arrays.specs.Flat.{flat_blocks}

-- the memory lent to a flat array: the ghost names of the two slices, their lengths, the columns, and what the slices hold after the shape's own places
pub record Lent : Type 0 where
  pub words_name : ℕ
  pub counts_name : ℕ
  pub columns : ℕ
  pub words_length : ℕ
  pub counts_length : ℕ
  pub words_beyond : ℕ → ℕ
  pub counts_beyond : ℕ → ℕ

pub data Rest : Type 0 where
  lent : Lent → Rest
  both : Rest → Rest → Rest
  -- an array behind a reference of this name
  behind : ℕ → Rest → Rest

-- what a list has after its first n
abbrev pub after : ℕ → List ℕ → ℕ → ℕ
after n xs i = slice_index xs (n + i)

abbrev pub flat_lent : ℕ → ℕ → ℕ → List ℕ → List ℕ → Lent
flat_lent words_name counts_name columns codes counts =
    let n : ℕ = flat_blocks columns (length codes) (length counts) in
    record {
      words_name = words_name;
      counts_name = counts_name;
      columns = columns;
      words_length = length codes;
      counts_length = length counts;
      words_beyond = after (n * (32 * columns)) codes;
      counts_beyond = after (32 * n) counts;
    }
