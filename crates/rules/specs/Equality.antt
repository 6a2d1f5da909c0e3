-- The two laws of equality over runs, and what stands beside them. Assumes nothing.
use Rattle.std.specs.Prelude.{◌≡◌, ℕ, ◌<◌, ◌↔◌, List, [], ◌∷◌, ◌++◌, map, Ok, slice_index_or}
use Rattle.records.specs.declared.call.Call.{Call}
use Rattle.words.specs.Kind.{Kind, KindLaws}
use Rattle.arrays.specs.Meaning.{Shape, Contents, Meaning, Inside, New}
use Rattle.rules.specs.declared.state.State.{State}
use Rattle.rules.specs.declared.control.Opening.{Opening}
use Rattle.rules.specs.Parts.{columns}
use Rattle.rules.specs.Controls.{fresh}
use Rattle.rules.specs.Running.{Chip, Event, Step, Runs, after, calls, answers, failures, opened, Alike}
use Rattle.rules.specs.Written.{Landing, programmed, filled, Lowest, said, Wrote}

-- equal in all cells
abbrev pub SameCells : Shape → Contents → Contents → Type 0
SameCells s h h' = (row column : ℕ) → Inside s row column → h.code row column ≡ h'.code row column

-- every cell has in both logs the same lowest level written
abbrev pub SameLowest : Kind → Shape → List Landing → List Landing → Type 0
SameLowest K s log log' = (row column cell : ℕ) → Inside s row column → cell < K.cells
    → (level : ℕ) × Lowest K log row column cell level × Lowest K log' row column cell level

-- the log of a run of a chip that was opened new
abbrev pub LogOf : Kind → Opening → List Event → List Landing → Type 0
LogOf K o es log = Wrote K o.part (fresh K.erased) [] (map said es) log

-- Two chips of one shape and word kind, opened new on any parts, limits and device codes, each with its own calls, are equal in all
-- cells exactly when every cell has in both the same lowest level written since its block's last landed erase, the erase included,
-- being new included.
abbrev pub LawOfCells : Type 0
LawOfCells = (K : Kind) → KindLaws K → (o o' : Opening) (m m' : Meaning) (es es' : List Event) (c c' : Chip)
    → m.holds.shape ≡ m'.holds.shape → New K m.holds → New K m'.holds
    → Runs K o (opened K m) es c → Runs K o' (opened K m') es' c'
    → (log log' : List Landing) → LogOf K o es log → LogOf K o' es' log'
    → SameCells m.holds.shape c.memory.holds c'.memory.holds ↔ SameLowest K m.holds.shape log log'

-- Two chips of one shape and one part, opened new and alike and given one list of calls, are equal in the answer of every call and in
-- all cells exactly when the arrays failed at the same calls: in all cells at the end, and in all cells after each number of calls.
abbrev pub LawOfFailures : Type 0
LawOfFailures = (K : Kind) → KindLaws K → (o o' : Opening) (m m' : Meaning) (es es' : List Event) (c c' : Chip)
    → o.part ≡ o'.part → Alike o o' → m.holds.shape ≡ m'.holds.shape → New K m.holds → New K m'.holds
    → (r : Runs K o (opened K m) es c) (r' : Runs K o' (opened K m') es' c') → calls es ≡ calls es'
    → (((answers es ≡ answers es') × SameCells m.holds.shape c.memory.holds c'.memory.holds) ↔ (failures es ≡ failures es'))
    × (((answers es ≡ answers es') × ((n : ℕ) → SameCells m.holds.shape (after r n).memory.holds (after r' n).memory.holds))
    ↔ (failures es ≡ failures es'))

-- every list of calls has a run, from every chip
abbrev pub RunsExist : Type 0
RunsExist = (K : Kind) (o : Opening) (c : Chip) (cs : List Call) → (es : List Event) × (c' : Chip) × (calls es ≡ cs) × Runs K o c es c'

-- Every run of a chip that was opened new has one log, and in each cell one lowest level, which the chip shows.
pub record OneLog (K : Kind) (o : Opening) (s : Shape) (es : List Event) (c : Chip) : Type 0 where
  pub log : List Landing
  pub its_log : LogOf K o es log
  pub only_log : (other : List Landing) → LogOf K o es other → other ≡ log
  pub shown : (row column cell : ℕ) → Inside s row column → cell < K.cells
      → Lowest K log row column cell (K.level (c.memory.holds.code row column) cell)
  pub only_level : (row column cell level : ℕ) → Inside s row column → cell < K.cells → Lowest K log row column cell level
      → level ≡ K.level (c.memory.holds.code row column) cell

abbrev pub LogsExist : Type 0
LogsExist = (K : Kind) → KindLaws K → (o : Opening) (m : Meaning) (es : List Event) (c : Chip)
    → New K m.holds → Runs K o (opened K m) es c → OneLog K o m.holds.shape es c

-- An address cycle fetches a page into the register: after it the page of the row is read out. In each cell it has the lowest level
-- written so far.
abbrev pub PagesAreLowest : Type 0
PagesAreLowest = (K : Kind) → KindLaws K → (o : Opening) (m : Meaning) (es : List Event) (e : Event) (c c' : Chip)
    → New K m.holds → Runs K o (opened K m) es c → Step K o c e c'
    → (byte value row next : ℕ) → e.call ≡ Call.Address byte → e.answer ≡ Ok value → c'.control.state ≡ State.PageOut row next
    → (log : List Landing) → LogOf K o es log
    → (column cell : ℕ) → column < columns o.part → cell < K.cells
    → Lowest K log row column cell (K.level (slice_index_or c'.control.register.codes column K.erased) cell)

pub data In (l : Landing) : List Landing → Type 0 where
  here : {ls : List Landing} → In l (l ∷ ls)
  later : {k : Landing} {ls : List Landing} → In l ls → In l (k ∷ ls)

abbrev pub OnlyPrograms : List Landing → Type 0
OnlyPrograms [] = Unit {0}
OnlyPrograms (programmed row page ∷ ls) = OnlyPrograms ls
OnlyPrograms (filled block code ∷ ls) = ⊥

-- programs landed in any order, and any number of times, write the same lowest levels
abbrev pub AnyOrder : Type 0
AnyOrder = (K : Kind) (ps qs base : List Landing) → OnlyPrograms ps → OnlyPrograms qs → ((l : Landing) → In l ps ↔ In l qs)
    → (row column cell level : ℕ) → Lowest K (ps ++ base) row column cell level → Lowest K (qs ++ base) row column cell level
