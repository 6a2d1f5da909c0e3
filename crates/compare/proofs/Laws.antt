-- Two runs and two verdicts make a comparison: the laws of equality at these runs. Assumes nothing.
use Rattle.std.proofs.Common.{◌≡◌, ℕ, Bool, true, ◌↔◌, List, Decides, sym, ◌∙◌, subst}
use Rattle.records.specs.declared.call.Call.{Call}
use Rattle.words.specs.Kind.{Kind, KindLaws}
use Rattle.arrays.specs.Meaning.{Meaning}
use Rattle.rules.specs.declared.control.Opening.{Opening}
use Rattle.rules.specs.declared.control.Control.{Control}
use Rattle.rules.specs.Controls.{fresh}
use Rattle.rules.specs.Answering.{Answer}
use Rattle.rules.specs.Running.{Chip, Event, Runs, after, calls, answers, failures, opened, Alike}
use Rattle.rules.specs.Equality.{SameCells, OneLog}
use Rattle.rules.proofs.Logs.{law_of_cells, logs_exist}
use Rattle.rules.proofs.Failures.{law_of_failures}
use Rattle.compare.specs.Played.{Played}
use Rattle.compare.specs.Compared.{shape_of, EqualCells, BothNew, CellsLaw, Compared}
use Rattle.compare.proofs.Runs.{run_shape}

-- a chip with any control, and the memory
abbrev chip_of : Control → Meaning → Chip
chip_of x m = record { control = x; memory = m }

-- a run from a chip whose control is fresh is a run from an opened chip
from_opened : {K : Kind} {o : Opening} {c d : Chip} {es : List Event} → c.control ≡ fresh K.erased → Runs K o c es d → Runs K o (opened K c.memory) es d
from_opened {K} {o} {c} {d} {es} e r = subst (λ x. Runs K o (chip_of x c.memory) es d) e r

module _ {K : Kind} {o o' : Opening} {c d c' d' : Chip} {es es' : List Event} (r : Runs K o c es d) (r' : Runs K o' c' es' d') (same : shape_of c ≡ shape_of c') where
  equal_from : SameCells (shape_of c) d.memory.holds d'.memory.holds → EqualCells d.memory.holds d'.memory.holds
  equal_from h = record {
    shapes = run_shape r ∙ (same ∙ sym (run_shape r'));
    cells = subst (λ s. SameCells s d.memory.holds d'.memory.holds) (sym (run_shape r)) h;
  }

  equal_to : EqualCells d.memory.holds d'.memory.holds → SameCells (shape_of c) d.memory.holds d'.memory.holds
  equal_to h = subst (λ s. SameCells s d.memory.holds d'.memory.holds) (run_shape r) h.cells

pub cells_law : {K : Kind} → KindLaws K → {o o' : Opening} {c d c' d' : Chip} {es es' : List Event} (r : Runs K o c es d) (r' : Runs K o' c' es' d') → BothNew K c c'
    → (ce : Bool) → Decides ce (EqualCells d.memory.holds d'.memory.holds) → CellsLaw K o o' (shape_of c) es es' d d' ce
cells_law {K} L {o} {o'} {c} {d} {c'} {d'} {es} {es'} r r' b ce v =
    let q = from_opened b.one.control r in
    let q' = from_opened b.other.control r' in
    record {
      log = logs_exist K L o c.memory es d b.one.memory q;
      other_log = subst (λ s. OneLog K o' s es' d') (sym b.shapes) (logs_exist K L o' c'.memory es' d' b.other.memory q');
      law = λ l l' w w'.
          let law = law_of_cells K L o o' c.memory c'.memory es es' d d' b.shapes b.one.memory b.other.memory q q' l l' w w' in
          (λ t. law.0 (equal_to r r' b.shapes (v.0 t)), λ s. v.1 (equal_from r r' b.shapes (law.1 s)));
    }

-- what the law of failures says of two runs
abbrev Says : {K : Kind} {o o' : Opening} {c c' d d' : Chip} {es es' : List Event} (r : Runs K o c es d) (r' : Runs K o' c' es' d') → Type 0
Says {c = c} {d = d} {d' = d'} {es = es} {es' = es'} r r' =
    (((answers es ≡ answers es') × SameCells (shape_of c) d.memory.holds d'.memory.holds) ↔ (failures es ≡ failures es'))
    × (((answers es ≡ answers es') × ((n : ℕ) → SameCells (shape_of c) (after r n).memory.holds (after r' n).memory.holds))
    ↔ (failures es ≡ failures es'))

says : {K : Kind} → KindLaws K → {o o' : Opening} {c d c' d' : Chip} {es es' : List Event} (r : Runs K o c es d) (r' : Runs K o' c' es' d') → BothNew K c c'
    → o.part ≡ o'.part → Alike o o' → calls es ≡ calls es' → Says r r'
says {K} L {o} {o'} {c} {d} {c'} {d'} {es} {es'} r r' b part alike same =
    let m = c.memory in
    let m' = c'.memory in
    let P : Control → Type 0 = λ x. (q : Runs K o (chip_of x m) es d) → Says q r' in
    let Q : Control → Type 0 = λ x. (q : Runs K o (opened K m) es d) (q' : Runs K o' (chip_of x m') es' d') → Says q q' in
    let base : Q (fresh K.erased) = λ q q'. law_of_failures K L o o' m m' es es' d d' part alike b.shapes b.one.memory b.other.memory q q' same in
    let two : Q c'.control = subst Q (sym b.other.control) base in
    let one : P c.control = subst P (sym b.one.control) (λ q. two q r') in
    one r

pub compared : {K : Kind} → KindLaws K → {o o' : Opening} {c d c' d' : Chip} {cs cs' : List Call} {told told' : List Answer}
    → Played K o c cs told d → Played K o' c' cs' told' d' → (ae ce : Bool) → Decides ae (told ≡ told') → Decides ce (EqualCells d.memory.holds d'.memory.holds)
    → Compared K o o' c cs told d c' cs' told' d' ae ce
compared L p p' ae ce v w = record {
  one = p;
  other = p';
  same_answers = v;
  same_cells = w;
  law_of_cells = λ b. cells_law L p.run p'.run b ce w;
  law_of_failures = λ b part alike given.
      let s = says L p.run p'.run b part alike (p.its_calls ∙ (given ∙ sym p'.its_calls)) in
      let to : ae ≡ true → answers p.events ≡ answers p'.events = λ t. p.its_answers ∙ (v.0 t ∙ sym p'.its_answers) in
      let back : answers p.events ≡ answers p'.events → ae ≡ true = λ e. v.1 (sym p.its_answers ∙ (e ∙ p'.its_answers)) in
      record {
        at_end = (
          λ x. s.0.0 (to x.0, equal_to p.run p'.run b.shapes (w.0 x.1)),
          λ f. let y = s.0.1 f in (back y.0, w.1 (equal_from p.run p'.run b.shapes y.1)),
        );
        throughout = (λ x. s.1.0 (to x.0, x.1), λ f. let y = s.1.1 f in (back y.0, y.1));
      };
}
