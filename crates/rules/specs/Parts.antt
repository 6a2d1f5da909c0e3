-- The parts: their numbers, and how address cycles are read. Assumes nothing.
use Rattle.std.specs.Prelude.{ℕ, zero, suc, ◌+◌, ◌*◌, ◌%◌, Bool, true, false, nat_le}
use Rattle.rules.specs.declared.part.Part.{Part}
use Rattle.rules.specs.declared.part.Part.TheVariants.{K9K1208, K9K1216, K9F2808}
use Rattle.rules.specs.declared.part.Pointer.{Pointer}

-- the words of a page, spare area included
abbrev pub columns : Part → ℕ
columns K9K1208 = 528
columns K9K1216 = 264
columns K9F2808 = 528

-- the cells of a word
abbrev pub cells : Part → ℕ
cells K9K1208 = 8
cells K9K1216 = 16
cells K9F2808 = 8

-- how many address cycles a row takes
abbrev pub row_cycles : Part → ℕ
row_cycles K9K1208 = 3
row_cycles K9K1216 = 3
row_cycles K9F2808 = 2

abbrev pub most_blocks : Part → ℕ
most_blocks K9K1208 = 4096
most_blocks K9K1216 = 4096
most_blocks K9F2808 = 1024

abbrev pub most_rows : Part → ℕ
most_rows p = 32 * most_blocks p

-- the part has the block lock and the copy-back
abbrev pub locks : Part → Bool
locks K9K1208 = true
locks K9K1216 = true
locks K9F2808 = false

-- the part has an area B
abbrev pub has_b : Part → Bool
has_b K9K1208 = true
has_b K9K1216 = false
has_b K9F2808 = true

-- the column that a column cycle names, by the area that the pointer is on
abbrev pub start_column : Part → Pointer → ℕ → ℕ
start_column p Pointer.A byte = byte
start_column p Pointer.B byte = 256 + byte
start_column K9K1208 Pointer.C byte = 512 + byte % 16
start_column K9K1216 Pointer.C byte = 256 + byte % 8
start_column K9F2808 Pointer.C byte = 512 + byte % 16

-- area B holds for one read, load or erase
abbrev pub fallen_back : Pointer → Pointer
fallen_back Pointer.A = Pointer.A
fallen_back Pointer.B = Pointer.A
fallen_back Pointer.C = Pointer.C

-- what a row cycle counts, by how many came before it: the low byte comes first
abbrev pub place_of : ℕ → ℕ
place_of zero = 1
place_of (suc zero) = 256
place_of (suc (suc n)) = 65536

-- the row cycle after `taken` others is the last one
abbrev pub is_last : Part → ℕ → Bool
is_last p taken = nat_le (row_cycles p) (taken + 1)

-- the row with one more cycle, after `taken` others that came to `row`
abbrev pub next_row : Part → ℕ → ℕ → ℕ → ℕ
next_row p row taken byte = (row + byte * place_of taken) % most_rows p
