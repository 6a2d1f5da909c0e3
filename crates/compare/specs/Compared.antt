-- Two lists of calls on two chips: both runs, both verdicts, and what the laws of equality say of them. Assumes nothing.
use Rattle.std.specs.Prelude.{◌≡◌, ℕ, Bool, true, ◌↔◌, List}
use Rattle.records.specs.declared.call.Call.{Call}
use Rattle.records.specs.Readings.{Reading}
use Rattle.words.specs.Kind.{Kind}
use Rattle.arrays.specs.Meaning.{Shape, Contents, New}
use Rattle.rules.specs.declared.control.Opening.{Opening}
use Rattle.rules.specs.Answering.{Answer}
use Rattle.rules.specs.Controls.{fresh}
use Rattle.rules.specs.Running.{Chip, Event, Runs, after, failures, Alike}
use Rattle.rules.specs.Written.{Landing}
use Rattle.rules.specs.Equality.{SameCells, SameLowest, LogOf, OneLog}
use Rattle.compare.specs.Played.{Played}

abbrev pub shape_of : Chip → Shape
shape_of c = c.memory.holds.shape

-- equal in all cells: of one shape, with one code at every place of it
pub record EqualCells (h h' : Contents) : Type 0 where
  pub shapes : h.shape ≡ h'.shape
  pub cells : SameCells h.shape h h'

-- a chip that was just opened over a new array
pub record OpenedNew (K : Kind) (c : Chip) : Type 0 where
  pub control : c.control ≡ fresh K.erased
  pub memory : New K c.memory.holds

-- two such chips, of one shape
pub record BothNew (K : Kind) (c c' : Chip) : Type 0 where
  pub one : OpenedNew K c
  pub other : OpenedNew K c'
  pub shapes : shape_of c ≡ shape_of c'

-- The law of cells for these two runs: each has one log, and the verdict on the cells is that every cell has in both logs the same
-- lowest level written.
pub record CellsLaw (K : Kind) (o o' : Opening) (s : Shape) (es es' : List Event) (d d' : Chip) (cells_equal : Bool) : Type 0 where
  pub log : OneLog K o s es d
  pub other_log : OneLog K o' s es' d'
  pub law : (one other : List Landing) → LogOf K o es one → LogOf K o' es' other → (cells_equal ≡ true) ↔ SameLowest K s one other

-- The law of failures for these two runs: both verdicts are that all is equal exactly when the arrays failed at the same calls. The
-- answers, and the cells after each number of calls, are equal exactly then too.
pub record FailuresLaw {K : Kind} {o o' : Opening} {c c' d d' : Chip} {es es' : List Event} (r : Runs K o c es d) (r' : Runs K o' c' es' d')
    (answers_equal cells_equal : Bool) : Type 0 where
  pub at_end : ((answers_equal ≡ true) × (cells_equal ≡ true)) ↔ (failures es ≡ failures es')
  pub throughout : ((answers_equal ≡ true) × ((n : ℕ) → SameCells (shape_of c) (after r n).memory.holds (after r' n).memory.holds))
      ↔ (failures es ≡ failures es')

-- the chips before (c, c') and after (d, d'), the calls and the answers of each, and the two verdicts
pub record Compared (K : Kind) (o o' : Opening) (c : Chip) (calls : List Call) (answers : List Answer) (d : Chip)
    (c' : Chip) (calls' : List Call) (answers' : List Answer) (d' : Chip) (answers_equal cells_equal : Bool) : Type 0 where
  pub one : Played K o c calls answers d
  pub other : Played K o' c' calls' answers' d'
  pub same_answers : (answers_equal ≡ true) ↔ (answers ≡ answers')
  pub same_cells : (cells_equal ≡ true) ↔ EqualCells d.memory.holds d'.memory.holds
  pub law_of_cells : BothNew K c c' → CellsLaw K o o' (shape_of c) one.events other.events d d' cells_equal
  pub law_of_failures : BothNew K c c' → o.part ≡ o'.part → Alike o o' → calls ≡ calls'
      → FailuresLaw one.run other.run answers_equal cells_equal

-- the same of the calls of two traces
pub record TracesCompared (K : Kind) (o o' : Opening) (c : Chip) (trace : List ℕ) (answers : List Answer) (d : Chip)
    (c' : Chip) (trace' : List ℕ) (answers' : List Answer) (d' : Chip) (answers_equal cells_equal : Bool) : Type 0 where
  pub calls : List Call
  pub other_calls : List Call
  pub read : Reading trace calls
  pub other_read : Reading trace' other_calls
  pub compared : Compared K o o' c calls answers d c' other_calls answers' d' answers_equal cells_equal
