-- One array above another. Assumes nothing.
use Rattle.std.specs.Prelude.{◌≡◌, ℕ, ◌+◌, ◌-◌, ◌<◌, ◌≤◌, min, false, cond, ◌==◌, nat_lt}
use Rattle.words.specs.Kind.{Kind}
use Rattle.arrays.specs.declared.stack.Place.{Place}
use Rattle.arrays.specs.declared.stack.Place.TheVariants.{First, Second, Outside}
use Rattle.arrays.specs.Meaning.{Shape, Contents, Meaning, rows}

-- the blocks of both, at most 4,096; none where the columns differ
abbrev pub stack_blocks : Shape → Shape → ℕ
stack_blocks a b = cond (a.columns == b.columns) (min (a.blocks + b.blocks) 4096) 0

abbrev pub stack_shape : Shape → Shape → Shape
stack_shape a b = record { blocks = stack_blocks a b; columns = a.columns }

-- a block of the stack lies there
abbrev pub Lies : Shape → Shape → ℕ → Place → Type 0
Lies a b block First = (block < stack_blocks a b) × (block < a.blocks)
Lies a b block (Second split) = (block < stack_blocks a b) × (a.blocks ≤ block) × (split ≡ a.blocks)
Lies a b block Outside = stack_blocks a b ≤ block

-- what stands at a number below `all`: in the first array, or in the second with its numbers counted from `split`; outside of both
abbrev pub in_two : {X : Type 0} → ℕ → ℕ → (ℕ → X) → (ℕ → X) → X → ℕ → X
in_two all split first second outside n = cond (nat_lt n all) (cond (nat_lt n split) (first n) (second (n - split))) outside

abbrev pub at_row : {X : Type 0} → Shape → Shape → (ℕ → X) → (ℕ → X) → X → ℕ → X
at_row a b first second outside row = in_two (rows (stack_shape a b)) (rows a) first second outside row

abbrev pub at_block : {X : Type 0} → Shape → Shape → (ℕ → X) → (ℕ → X) → X → ℕ → X
at_block a b first second outside block = in_two (stack_blocks a b) a.blocks first second outside block

abbrev pub stack_contents : Kind → Contents → Contents → Contents
stack_contents K a b = record {
  shape = stack_shape a.shape b.shape;
  code = λ row column. at_row a.shape b.shape (λ r. a.code r column) (λ r. b.code r column) K.erased row;
  count = at_row a.shape b.shape a.count b.count 0;
}

-- The second's blocks are numbered after the first's.
abbrev pub stack : Kind → Meaning → Meaning → Meaning
stack K a b = record {
  holds = stack_contents K a.holds b.holds;
  willing_row = at_row a.holds.shape b.holds.shape a.willing_row b.willing_row false;
  willing_block = at_block a.holds.shape b.holds.shape a.willing_block b.willing_block false;
}
