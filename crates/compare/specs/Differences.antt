-- Where two arrays differ. Assumes nothing.
use Rattle.std.specs.Prelude.{◌≡◌, ℕ, zero, suc, ◌+◌, ◌*◌, ◌<◌, Bool, cond, ◌&&◌, Some, None, Option, ◌==◌, ◌≢◌}
use Rattle.arrays.specs.Meaning.{Shape, Contents, Inside}
use Rattle.rules.specs.Equality.{SameCells}
use Rattle.compare.specs.declared.cells.Difference.{Difference}

-- the first place below n at which two lists of codes differ, or none
abbrev pub FirstApart : (ℕ → ℕ) → (ℕ → ℕ) → ℕ → Option ℕ → Type 0
FirstApart f g n None = (k : ℕ) → k < n → f k ≡ g k
FirstApart f g n (Some k) = (k < n) × (f k ≢ g k) × ((j : ℕ) → j < k → f j ≡ g j)

-- A place of the shape at which two arrays differ, with both codes. All places before it, row after row, are equal.
pub record DiffersFirst (s : Shape) (h h' : Contents) (d : Difference) : Type 0 where
  pub inside : Inside s d.row d.column
  pub code : d.code ≡ h.code d.row d.column
  pub other_code : d.other_code ≡ h'.code d.row d.column
  pub apart : d.code ≡ d.other_code → ⊥
  pub rows_before : (row column : ℕ) → row < d.row → column < s.columns → h.code row column ≡ h'.code row column
  pub columns_before : (column : ℕ) → column < d.column → h.code d.row column ≡ h'.code d.row column

-- two arrays have one code at each of the first columns of a row
abbrev pub SameRow : Contents → Contents → ℕ → ℕ → Type 0
SameRow h h' columns row = (column : ℕ) → column < columns → h.code row column ≡ h'.code row column

-- A place of the row at which two arrays differ, with both codes. All places before it in the row are equal.
pub record DiffersInRow (h h' : Contents) (row columns : ℕ) (d : Difference) : Type 0 where
  pub in_row : d.row ≡ row
  pub inside : d.column < columns
  pub code : d.code ≡ h.code row d.column
  pub other_code : d.other_code ≡ h'.code row d.column
  pub apart : d.code ≡ d.other_code → ⊥
  pub before : (column : ℕ) → column < d.column → h.code row column ≡ h'.code row column

-- the first difference of two arrays within a shape, or none: they are equal in all its cells
abbrev pub FirstDifference : Shape → Contents → Contents → Option Difference → Type 0
FirstDifference s h h' None = SameCells s h h'
FirstDifference s h h' (Some d) = DiffersFirst s h h' d

-- at how many of the first n places two lists of codes differ
abbrev pub count_apart : (ℕ → ℕ) → (ℕ → ℕ) → ℕ → ℕ
count_apart f g zero = 0
count_apart f g (suc n) = count_apart f g n + cond (f n == g n) 0 1

-- the same over rows: the first n rows from a row on
abbrev pub count_rows : Contents → Contents → ℕ → ℕ → ℕ → ℕ
count_rows h h' columns from zero = 0
count_rows h h' columns from (suc n) = count_rows h h' columns from n + count_apart (h.code (from + n)) (h'.code (from + n)) columns

-- how many words of a block differ
abbrev pub count_block : Contents → Contents → ℕ → ℕ → ℕ
count_block h h' columns block = count_rows h h' columns (32 * block) 32

abbrev pub same_shape : Shape → Shape → Bool
same_shape s s' = s.blocks == s'.blocks && s.columns == s'.columns
