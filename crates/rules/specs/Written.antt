-- What was written, by the calls and their answers alone; and the lowest level written. Assumes nothing.
use Rattle.std.specs.Prelude.{◌≡◌, ℕ, ◌<◌, ◌≤◌, true, ◌≢◌, List, [], ◌∷◌, ◌++◌, map, take, Some, None, Ok, Err, Option, slice_index_or}
use Rattle.records.specs.declared.call.Call.{Call}
use Rattle.words.specs.Kind.{Kind}
use Rattle.arrays.specs.Meaning.{block_of}
use Rattle.rules.specs.declared.part.Part.{Part}
use Rattle.rules.specs.declared.state.Work.{Work}
use Rattle.rules.specs.declared.control.Control.{Control}
use Rattle.rules.specs.Parts.{columns}
use Rattle.rules.specs.Controls.{under}
use Rattle.rules.specs.Answering.{Answer}
use Rattle.rules.specs.Asking.{Ending, none, whole, torn, ending}
use Rattle.rules.specs.Moving.{control_after}
use Rattle.rules.specs.Running.{Event}

-- a program or copy-back with its row and its words; an erase with its block and the code that fills it
pub data Landing : Type 0 where
  programmed : ℕ → List ℕ → Landing
  filled : ℕ → ℕ → Landing

-- The code was written at the place since its block's last landed erase (that erase included), or since new, which counts as
-- written with the erased code. The newest landing is first.
pub data Written (K : Kind) (row column : ℕ) : List Landing → ℕ → Type 0 where
  being_new : Written K row column [] K.erased
  by_program : {page : List ℕ} {log : List Landing} → Written K row column (programmed row page ∷ log) (slice_index_or page column K.erased)
  before_program : {at : ℕ} {page : List ℕ} {log : List Landing} {code : ℕ}
      → Written K row column log code → Written K row column (programmed at page ∷ log) code
  by_erase : {at code : ℕ} {log : List Landing} → block_of row ≡ at → Written K row column (filled at code ∷ log) code
  before_other_erase : {at other code : ℕ} {log : List Landing}
      → block_of row ≢ at → Written K row column log code → Written K row column (filled at other ∷ log) code

-- the level is the lowest written in the cell
pub record Lowest (K : Kind) (log : List Landing) (row column cell level : ℕ) : Type 0 where
  pub some_code : (code : ℕ) × Written K row column log code × (K.level code cell ≡ level)
  pub none_lower : (code : ℕ) → Written K row column log code → level ≤ K.level code cell

-- the codes are lawful, and have in each cell the lowest level written
pub record HasLowest (K : Kind) (log : List Landing) (code : ℕ → ℕ → ℕ) : Type 0 where
  pub lawful : (row column : ℕ) → K.lawful (code row column) ≡ true
  pub lowest : (row column cell : ℕ) → cell < K.cells → Lowest K log row column cell (K.level (code row column) cell)

-- What the end of an operation writes: a program or copy-back the register's words into its row, an erase the code it fills with
-- into its block; cut off, their torn forms.
abbrev pub landed_by : Kind → Part → List ℕ → Option Work → Ending → List Landing
landed_by K p codes None e = []
landed_by K p codes (Some work) none = []
landed_by K p codes (Some (Work.Program row closes)) whole = programmed row (take (columns p) codes) ∷ []
landed_by K p codes (Some (Work.Erase block)) whole = filled block K.erased ∷ []
landed_by K p codes (Some (Work.Program row closes)) torn = programmed row (map K.torn (take (columns p) codes)) ∷ []
landed_by K p codes (Some (Work.Erase block)) torn = filled block K.torn_erase ∷ []

-- A landing is a settle, or an FFh in busy, that ends an operation and is not refused.
unfoldable pub landings : Kind → Part → Control → Call → Answer → List Landing
landings K p c call (Ok value) = landed_by K p c.register.codes (under c.state) (ending p call)
landings K p c call (Err why) = []

-- a call and its answer
pub record Said : Type 0 where
  pub call : Call
  pub answer : Answer

abbrev pub said : Event → Said
said e = record { call = e.call; answer = e.answer }

-- The calls with their answers, from a control and a log of landings, come to a log: the control moves by the rules, and a read
-- fetches codes that have in each cell the lowest level written so far. No array is looked at.
pub data Wrote (K : Kind) (p : Part) : Control → List Landing → List Said → List Landing → Type 0 where
  stop : {c : Control} {log : List Landing} → Wrote K p c log [] log
  next : {c : Control} {log log' : List Landing} {x : Said} {xs : List Said} (code : ℕ → ℕ → ℕ) → HasLowest K log code
      → Wrote K p (control_after K p code c x.call x.answer) (landings K p c x.call x.answer ++ log) xs log'
      → Wrote K p c log (x ∷ xs) log'
