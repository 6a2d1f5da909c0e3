-- A kind of word: a row of cells with ordered levels, and the laws that every kind keeps. Assumes nothing.
use Rattle.std.specs.Prelude.{◌≡◌, ℕ, ◌<◌, ◌≤◌, min, Bool, true, List}
use Rattle.std.specs.List.{list_all}

pub record Kind : Type 0 where
  -- how many cells a word has, and the highest level of a cell; 0 is the lowest
  pub cells : ℕ
  pub top : ℕ
  -- which numbers are codes of words
  pub lawful : ℕ → Bool
  -- the level that a code has in a cell
  pub level : ℕ → ℕ → ℕ
  -- the code that programming one code over another leaves
  pub join : ℕ → ℕ → ℕ
  pub erased : ℕ
  -- what an interrupted program writes in place of a code, and what an interrupted erase leaves
  pub torn : ℕ → ℕ
  pub torn_erase : ℕ

pub record KindLaws (K : Kind) : Type 0 where
  pub small : (c : ℕ) → K.lawful c ≡ true → c < 65536
  pub within : (c i : ℕ) → K.lawful c ≡ true → i < K.cells → K.level c i ≤ K.top
  -- two lawful codes with equal levels in every cell are the same code
  pub same : (a b : ℕ) → K.lawful a ≡ true → K.lawful b ≡ true → ((i : ℕ) → i < K.cells → K.level a i ≡ K.level b i) → a ≡ b
  pub join_lawful : (a b : ℕ) → K.lawful a ≡ true → K.lawful b ≡ true → K.lawful (K.join a b) ≡ true
  -- a join has in each cell the lower level
  pub join_level : (a b i : ℕ) → K.lawful a ≡ true → K.lawful b ≡ true → i < K.cells → K.level (K.join a b) i ≡ min (K.level a i) (K.level b i)
  pub erased_lawful : K.lawful K.erased ≡ true
  pub erased_top : (i : ℕ) → i < K.cells → K.level K.erased i ≡ K.top
  pub torn_lawful : (c : ℕ) → K.lawful c ≡ true → K.lawful (K.torn c) ≡ true
  pub torn_erase_lawful : K.lawful K.torn_erase ≡ true

-- every code of a list is lawful
abbrev pub all_lawful : Kind → List ℕ → Bool
all_lawful K codes = list_all K.lawful codes
