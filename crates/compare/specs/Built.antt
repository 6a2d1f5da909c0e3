-- Two traces, each on a new chip over the caller's memory. Assumes nothing.
use Rattle.std.specs.Prelude.{◌≡◌, ℕ, Bool, List}
use Rattle.words.specs.Kind.{Kind}
use Rattle.arrays.specs.Meaning.{Shape, new_contents, always_willing}
use Rattle.rules.specs.declared.control.Opening.{Opening}
use Rattle.rules.specs.Answering.{Answer}
use Rattle.rules.specs.Running.{Chip, opened}
use Rattle.compare.specs.Compared.{CellsLaw, FailuresLaw, TracesCompared}

-- a chip that was just opened over new memory of this shape
abbrev pub new_chip : Kind → Shape → Chip
new_chip K s = opened K (always_willing (new_contents K s))

-- The two chips were opened alike over new memory of shapes s and s', and ended as d and d'. Where the shapes are one, both laws of equality hold of them with nothing
-- left to assume; the second where the traces are one.
pub record Built (K : Kind) (o : Opening) (s s' : Shape) (trace : List ℕ) (answers : List Answer) (d : Chip) (trace' : List ℕ) (answers' : List Answer) (d' : Chip)
    (answers_equal cells_equal : Bool) : Type 0 where
  pub traces : TracesCompared K o o (new_chip K s) trace answers d (new_chip K s') trace' answers' d' answers_equal cells_equal
  pub law_of_cells : s ≡ s' → CellsLaw K o o s traces.compared.one.events traces.compared.other.events d d' cells_equal
  pub law_of_failures : s ≡ s' → trace ≡ trace' → FailuresLaw traces.compared.one.run traces.compared.other.run answers_equal cells_equal
