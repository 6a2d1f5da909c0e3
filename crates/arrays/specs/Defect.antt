-- An array with some blocks listed as defective. Assumes nothing.
use Rattle.std.specs.Prelude.{ℕ, Bool, cond, not, ◌&&◌, List, [], ◌∷◌, ◌++◌, length, Ok, Err, Result, ◌==◌, nat_lt}
use Rattle.std.specs.List.{list_any}
use Rattle.refusals.specs.declared.Refusal.{Refusal}
use Rattle.refusals.specs.declared.Refusal.TheVariants.{Outside, ListFull}
use Rattle.arrays.specs.Meaning.{Meaning, block_of}

-- the block is in the list
abbrev pub listed : List ℕ → ℕ → Bool
listed list block = list_any (λ b. b == block) list

-- A listed block is not willing, and neither are its rows; all else is as below.
abbrev pub defect : Meaning → List ℕ → Meaning
defect m list = record {
  holds = m.holds;
  willing_row = λ row. m.willing_row row && not (listed list (block_of row));
  willing_block = λ block. m.willing_block block && not (listed list block);
}

-- What listing a block answers: it is refused outside the array; one that is listed already is taken, also when the list is full; then a full list refuses.
abbrev pub listing : ℕ → List ℕ → ℕ → Result ℕ Refusal
listing blocks list block =
    cond (nat_lt block blocks) (cond (listed list block) (Ok 0) (cond (nat_lt (length list) 32) (Ok 0) (Err ListFull))) (Err Outside)

-- the list after it: longer by the block where it is taken and was not listed, else as it was
abbrev pub list_after : ℕ → List ℕ → ℕ → List ℕ
list_after blocks list block =
    cond (nat_lt block blocks) (cond (listed list block) list (cond (nat_lt (length list) 32) (list ++ block ∷ []) list)) list
