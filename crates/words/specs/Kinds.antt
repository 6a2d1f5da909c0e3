-- The three kinds of word. Assumes nothing.
use Rattle.std.specs.Prelude.{◌≡◌, ℕ, ◌+◌, ◌-◌, ◌*◌, ◌/◌, ◌%◌, ◌^◌, ◌<◌, ◌≤◌, ◌&&◌, ◌==◌, bit_and, bit_or, bit_xor, nat_lt}
use Rattle.std.specs.Int.{bit_at}
use Rattle.words.specs.Kind.{Kind}

-- n cells of one bit each, the lowest first: a cell's level is its bit, a torn form is the word itself, and a torn erase has erased
abbrev pub binary_kind : ℕ → Kind
binary_kind n = record {
  cells = n;
  top = 1;
  lawful = λ c. nat_lt c (2 ^ n);
  level = bit_at;
  join = bit_and;
  erased = 2 ^ n - 1;
  torn = λ c. c;
  torn_erase = 2 ^ n - 1;
}

abbrev pub byte_kind : Kind
byte_kind = binary_kind 8

abbrev pub word16_kind : Kind
word16_kind = binary_kind 16

-- The doubting byte: its code is B + 256 × D, for a byte B of the erased cells and a byte D of the doubtful ones.
abbrev pub erased_cells : ℕ → ℕ
erased_cells c = c % 256

abbrev pub doubtful_cells : ℕ → ℕ
doubtful_cells c = c / 256

-- the cells that are doubtful after a join: those that are at least doubtful on both sides, and not erased on both
abbrev pub joined_doubt : ℕ → ℕ → ℕ → ℕ → ℕ
joined_doubt b d b' d' = bit_xor (bit_and (bit_or b d) (bit_or b' d')) (bit_and b b')

-- A cell is at level 2 (erased) where B has 1, at 1 (doubtful) where D has 1, else at 0; no cell is both. An interrupted program leaves in doubt what it would have cleared,
-- and an interrupted erase leaves every cell in doubt.
abbrev pub doubting_kind : Kind
doubting_kind = record {
  cells = 8;
  top = 2;
  lawful = λ c. nat_lt c 65536 && (bit_and (erased_cells c) (doubtful_cells c) == 0);
  level = λ c i. 2 * bit_at (erased_cells c) i + bit_at (doubtful_cells c) i;
  join = λ x y. bit_and (erased_cells x) (erased_cells y) + 256 * joined_doubt (erased_cells x) (doubtful_cells x) (erased_cells y) (doubtful_cells y);
  erased = 0x00FF;
  torn = λ c. erased_cells c + 256 * bit_xor (erased_cells c) 255;
  torn_erase = 0xFF00;
}

-- In each cell, level 0 was turned into 1, and the other levels were kept.
pub record Doubted (c torn : ℕ) : Type 0 where
  pub raised : (i : ℕ) → i < 8 → doubting_kind.level c i ≡ 0 → doubting_kind.level torn i ≡ 1
  pub kept : (i : ℕ) → i < 8 → 1 ≤ doubting_kind.level c i → doubting_kind.level torn i ≡ doubting_kind.level c i
