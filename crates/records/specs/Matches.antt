-- What the match on the bytes of a trace finds, place by place. Assumes nothing.
use Rattle.std.specs.Prelude.{◌≡◌, ℕ, ◌+◌, ◌-◌, ◌*◌, ◌≤◌, List, length, take, drop, Some, None, slice_index, slice_index_or}
use Rattle.records.specs.declared.call.Call.TheVariants.{Command, Address, Write, Read, Protect, Settle, Look}
use Rattle.records.specs.Records.{First}

-- the trace has so many bytes or more, and begins with two letters
pub record Marked (trace : List ℕ) (size one two : ℕ) : Type 0 where
  pub long : size ≤ length trace
  pub letter : slice_index_or trace 0 0 ≡ one
  pub other : slice_index_or trace 1 0 ≡ two

-- the bytes that follow the first ones
abbrev pub past : ℕ → List ℕ → List ℕ
past size trace = take (length trace - size) (drop size trace)

-- a mark with its whole payload was found, or none of the seven stands there
abbrev pub Matched : List ℕ → First → Type 0
Matched t (Some (Command byte, rest)) = Marked t 3 67 77 × (byte ≡ slice_index t 2) × (rest ≡ past 3 t)
Matched t (Some (Address byte, rest)) = Marked t 3 65 68 × (byte ≡ slice_index t 2) × (rest ≡ past 3 t)
Matched t (Some (Write code, rest)) = Marked t 4 68 73 × (code ≡ slice_index t 2 + 256 * slice_index t 3) × (rest ≡ past 4 t)
Matched t (Some (Read, rest)) = Marked t 2 68 79 × (rest ≡ past 2 t)
Matched t (Some (Protect level, rest)) = Marked t 3 87 80 × (level ≡ slice_index t 2) × (rest ≡ past 3 t)
Matched t (Some (Settle, rest)) = Marked t 2 83 84 × (rest ≡ past 2 t)
Matched t (Some (Look row column, rest)) =
    Marked t 7 76 75 × (row ≡ slice_index t 2 + 256 * slice_index t 3 + 65536 * slice_index t 4) × (column ≡ slice_index t 5 + 256 * slice_index t 6) × (rest ≡ past 7 t)
Matched t None =
    (Marked t 3 67 77 → ⊥) × (Marked t 3 65 68 → ⊥) × (Marked t 4 68 73 → ⊥) × (Marked t 2 68 79 → ⊥)
    × (Marked t 3 87 80 → ⊥) × (Marked t 2 83 84 → ⊥) × (Marked t 7 76 75 → ⊥)
