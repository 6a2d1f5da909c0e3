-- The flat array: a list of codes, row after row, and a list of counts. Assumes nothing.
use Rattle.std.specs.Prelude.{◌≡◌, ℕ, ◌+◌, ◌*◌, ◌/◌, ◌<◌, ◌≤◌, min, Bool, cond, ◌&&◌, List, ◌++◌, length, take, drop, replicate, nat_le, nat_lt, slice_index, slice_index_or}
use Rattle.words.specs.Kind.{Kind}
use Rattle.arrays.specs.Meaning.{Meaning, Shape, Contents, Operation, rows, accepts, asked, new_contents, always_willing}

-- how many blocks the memory has room for: at most 4,096, and none where the columns are 0 or more than 4,096
abbrev pub flat_blocks : ℕ → ℕ → ℕ → ℕ
flat_blocks columns words counts = cond (nat_lt 0 columns && nat_le columns 4096) (min (min (words / (32 * columns)) (counts / 32)) 4096) 0

abbrev pub flat_shape : ℕ → List ℕ → List ℕ → Shape
flat_shape columns codes counts = record { blocks = flat_blocks columns (length codes) (length counts); columns = columns }

-- how many places of the words, and how many counts, the shape takes
abbrev pub flat_places : ℕ → List ℕ → List ℕ → ℕ
flat_places columns codes counts = flat_blocks columns (length codes) (length counts) * (32 * columns)

abbrev pub flat_rows : ℕ → List ℕ → List ℕ → ℕ
flat_rows columns codes counts = 32 * flat_blocks columns (length codes) (length counts)

-- Row r and column c stand at place r × columns + c; a count byte above 15 counts as 15.
abbrev pub flat_contents : Kind → ℕ → List ℕ → List ℕ → Contents
flat_contents K columns codes counts = let s : Shape = flat_shape columns codes counts in record {
  shape = s;
  code = λ row column. cond (nat_lt row (rows s) && nat_lt column columns) (slice_index codes (row * columns + column)) K.erased;
  count = λ row. cond (nat_lt row (rows s)) (min 15 (slice_index counts row)) 0;
}

-- A flat array is always willing inside its shape.
abbrev pub flat : Kind → ℕ → List ℕ → List ℕ → Meaning
flat K columns codes counts = always_willing (flat_contents K columns codes counts)

-- The places from `at` on have the given codes joined to what was there, the first n of them; all others are as they were.
pub record Joined (K : Kind) (old new : List ℕ) (at : ℕ) (codes : List ℕ) (n : ℕ) : Type 0 where
  pub len : length new ≡ length old
  pub inside : (i : ℕ) → i < n → slice_index new (at + i) ≡ K.join (slice_index old (at + i)) (slice_index_or codes i K.erased)
  pub before : (j : ℕ) → j < at → slice_index new j ≡ slice_index old j
  pub after : (j : ℕ) → at + n ≤ j → slice_index new j ≡ slice_index old j

-- the list with one value at the n places from `at` on
abbrev pub with_run : {X : Type 0} → List X → ℕ → ℕ → X → List X
with_run xs at n v = take at xs ++ (replicate n v ++ drop (at + n) xs)

-- The n places from `at` on have one value; all others are as they were.
pub record Put (old new : List ℕ) (at n value : ℕ) : Type 0 where
  pub len : length new ≡ length old
  pub inside : (i : ℕ) → i < n → slice_index new (at + i) ≡ value
  pub before : (j : ℕ) → j < at → slice_index new j ≡ slice_index old j
  pub after : (j : ℕ) → at + n ≤ j → slice_index new j ≡ slice_index old j

-- The memory keeps its lengths, and what lies beyond the shape is as it was.
pub record Beyond (columns : ℕ) (codes counts codes' counts' : List ℕ) : Type 0 where
  pub codes_length : length codes' ≡ length codes
  pub counts_length : length counts' ≡ length counts
  pub codes_kept : (i : ℕ) → flat_places columns codes counts ≤ i → slice_index codes' i ≡ slice_index codes i
  pub counts_kept : (i : ℕ) → flat_rows columns codes counts ≤ i → slice_index counts' i ≡ slice_index counts i

-- Memory under a flat array, which was asked for a program and then for a fill: which of them were done, what it holds after both, inside the shape and beyond.
pub record AskedTwice (K : Kind) (columns : ℕ) (codes counts : List ℕ) (program fill : Operation) (programmed filled : Bool) (codes' counts' : List ℕ) : Type 0 where
  pub first_told : programmed ≡ accepts K (flat K columns codes counts) program
  pub second_told : filled ≡ accepts K (always_willing (asked K program programmed (flat_contents K columns codes counts))) fill
  pub holding : flat_contents K columns codes' counts' ≡ asked K fill filled (asked K program programmed (flat_contents K columns codes counts))
  pub beyond : Beyond columns codes counts codes' counts'

-- The same of memory that was erased first.
pub record Job (K : Kind) (columns : ℕ) (codes counts : List ℕ) (program fill : Operation) (programmed filled : Bool) (codes' counts' : List ℕ) : Type 0 where
  pub first_told : programmed ≡ accepts K (always_willing (new_contents K (flat_shape columns codes counts))) program
  pub second_told : filled ≡ accepts K (always_willing (asked K program programmed (new_contents K (flat_shape columns codes counts)))) fill
  pub holding : flat_contents K columns codes' counts' ≡ asked K fill filled (asked K program programmed (new_contents K (flat_shape columns codes counts)))
  pub beyond : Beyond columns codes counts codes' counts'
