-- What an array of cells means, and what is asked of it. Assumes nothing.
use Rattle.std.specs.Prelude.{◌≡◌, ℕ, ◌+◌, ◌*◌, ◌/◌, ◌<◌, ◌≤◌, min, Bool, true, false, cond, ◌&&◌, List, length, ◌==◌, nat_lt, slice_index_or}
use Rattle.words.specs.Kind.{Kind, all_lawful}

pub record Shape : Type 0 where
  pub blocks : ℕ
  pub columns : ℕ

-- a code at each row and column, and for each row a count of its programs since its block was last filled
pub record Contents : Type 0 where
  pub shape : Shape
  pub code : ℕ → ℕ → ℕ
  pub count : ℕ → ℕ

-- what an array holds, and which rows may be programmed and which blocks filled
pub record Meaning : Type 0 where
  pub holds : Contents
  pub willing_row : ℕ → Bool
  pub willing_block : ℕ → Bool

-- a block is 32 rows
abbrev pub block_of : ℕ → ℕ
block_of row = row / 32

abbrev pub rows : Shape → ℕ
rows s = 32 * s.blocks

-- the row and the column lie in the shape
pub record Inside (s : Shape) (row column : ℕ) : Type 0 where
  pub row_in : row < rows s
  pub column_in : column < s.columns

-- What holds of every array: its codes are lawful, its counts at most 15; outside its shape it is erased, has count 0, and is not willing.
pub record MeaningLaws (K : Kind) (m : Meaning) : Type 0 where
  pub lawful : (row column : ℕ) → K.lawful (m.holds.code row column) ≡ true
  pub few : (row : ℕ) → m.holds.count row ≤ 15
  pub no_row : (row column : ℕ) → rows m.holds.shape ≤ row → m.holds.code row column ≡ K.erased
  pub no_column : (row column : ℕ) → m.holds.shape.columns ≤ column → m.holds.code row column ≡ K.erased
  pub no_count : (row : ℕ) → rows m.holds.shape ≤ row → m.holds.count row ≡ 0
  pub row_within : (row : ℕ) → m.willing_row row ≡ true → row < rows m.holds.shape
  pub block_within : (block : ℕ) → m.willing_block block ≡ true → block < m.holds.shape.blocks

-- What is asked of an array: nothing; to program a row with one code a column, closing the page or not; to fill a block with a code.
pub data Operation : Type 0 where
  nothing : Operation
  programs : ℕ → List ℕ → Bool → Operation
  fills : ℕ → ℕ → Operation

-- whether the array does what is asked
abbrev pub accepts : Kind → Meaning → Operation → Bool
accepts K m nothing = true
accepts K m (programs row codes closes) = m.willing_row row && (length codes == m.holds.shape.columns && all_lawful K codes)
accepts K m (fills block code) = m.willing_block block && K.lawful code

-- the count of a row after one more program, which may close the page
abbrev pub counted : Bool → ℕ → ℕ
counted closes n = cond closes 15 (min 15 (n + 1))

-- What an array that accepts it holds after it: a program joins each code to its place in the row, a fill puts its code at every place of the block.
abbrev pub performed : Kind → Operation → Contents → Contents
performed K nothing h = h
performed K (programs at codes closes) h = record {
  shape = h.shape;
  code = λ row column. cond (row == at && nat_lt column h.shape.columns) (K.join (h.code row column) (slice_index_or codes column K.erased)) (h.code row column);
  count = λ row. cond (row == at) (counted closes (h.count row)) (h.count row);
}
performed K (fills at code) h = record {
  shape = h.shape;
  code = λ row column. cond (block_of row == at && nat_lt column h.shape.columns) code (h.code row column);
  count = λ row. cond (block_of row == at) 0 (h.count row);
}

-- what an array holds once it was asked, and did it or not
abbrev pub asked : Kind → Operation → Bool → Contents → Contents
asked K o done h = cond done (performed K o h) h

-- An array was asked for something. It says whether it did it; the codes, the counts and the shape after it are fixed at every place; where it did not,
-- nothing changed, not what is willing either. What is willing after it was done is open.
pub record Performs (K : Kind) (o : Operation) (m : Meaning) (done : Bool) (m' : Meaning) : Type 0 where
  pub told : done ≡ accepts K m o
  pub holding : m'.holds ≡ asked K o done m.holds
  pub kept : done ≡ false → m' ≡ m

-- every code erased and every count 0
pub record New (K : Kind) (h : Contents) : Type 0 where
  pub codes : (row column : ℕ) → h.code row column ≡ K.erased
  pub counts : (row : ℕ) → h.count row ≡ 0

-- the contents of a new array
abbrev pub new_contents : Kind → Shape → Contents
new_contents K s = record { shape = s; code = λ row column. K.erased; count = λ row. 0 }

-- the array that holds this, and is willing at every row and block of its shape
abbrev pub always_willing : Contents → Meaning
always_willing h = record {
  holds = h;
  willing_row = λ row. nat_lt row (rows h.shape);
  willing_block = λ block. nat_lt block h.shape.blocks;
}
