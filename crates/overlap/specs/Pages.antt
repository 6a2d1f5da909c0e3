-- The codes of a page. Assumes nothing.
use Rattle.std.specs.Prelude.{ℕ, cond, ◌&&◌, nat_le, nat_lt}
use Rattle.words.specs.Kind.{Kind}

-- one code from a column on, up to another, and erased elsewhere
abbrev pub part_code : ℕ → ℕ → ℕ → ℕ → ℕ → ℕ
part_code from to code erased column = cond (nat_le from column && nat_lt column to) code erased

-- what an interrupted program writes in place of a code
abbrev pub torn_code : Kind → ℕ → ℕ
torn_code K c = cond (K.lawful c) (K.torn c) c
