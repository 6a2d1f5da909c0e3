-- In every run from new, what the array holds has in each cell the lowest level written. Assumes nothing.
use Rattle.std.proofs.Common.{◌≡◌, ℕ, ◌<◌, not, ◌↔◌, List, [], ◌++◌, map, get_or, Ok, sym, refl, ap, ◌∙◌, subst, inl, inr}
use mathlib.Core.Path.{fun_ext}
use Rattle.records.specs.declared.call.Call.{Call}
use Rattle.words.specs.Kind.{Kind, KindLaws}
use Rattle.arrays.specs.Meaning.{Shape, Meaning, New}
use Rattle.rules.specs.declared.part.Part.{Part}
use Rattle.rules.specs.declared.control.Opening.{Opening}
use Rattle.rules.specs.Moving.{control_after}
use Rattle.rules.specs.Running.{Chip, Event, Step, Runs, stop, next, opened}
use Rattle.rules.specs.Written.{Landing, Lowest, HasLowest, landings, Said, said, Wrote}
use Rattle.rules.specs.Equality.{SameCells, SameLowest, LawOfCells, LogsExist, PagesAreLowest}
use Rattle.rules.proofs.Lows.{codes_after, lowest_codes, LawfulLog, lawful_append, codes_append, codes_at, codes_lawful, lowest_is, lowest_one}
use Rattle.rules.proofs.Registers.{LawfulPage, lawful_blank, register_lawful}
use Rattle.rules.proofs.Landed.{Near, shape_kept, step_codes, landings_lawful}
use Rattle.rules.proofs.Pages.{same_moves, shows_address}

-- the array holds the lowest codes of the log, and all is lawful
record Kept (K : Kind) (p : Part) (s : Shape) (c : Chip) (log : List Landing) : Type 0 where
  shaped : c.memory.holds.shape ≡ s
  holds : (row column : ℕ) → Near p s column → c.memory.holds.code row column ≡ lowest_codes K log row column
  page : LawfulPage K c.control.register.codes
  log_lawful : LawfulLog K log

-- codes that have the lowest levels are the lowest codes
only_lowest : (K : Kind) → KindLaws K → (log : List Landing) → LawfulLog K log → (code : ℕ → ℕ → ℕ) → HasLowest K log code → code ≡ lowest_codes K log
only_lowest K L log h code low = fun_ext (λ row. fun_ext (λ column.
    L.same _ _ (low.lawful row column) (codes_lawful K L log h row column)
    (λ cell i. lowest_one K L (low.lowest row column cell i) (lowest_is K L log h row column cell i))))

at_new : (K : Kind) (L : KindLaws K) (p : Part) {m : Meaning} → New K m.holds → Kept K p m.holds.shape (opened K m) []
unfolding codes_after
at_new K L p n = record { shaped = refl; holds = λ row column near. n.codes row column; page = lawful_blank K L; log_lawful = tt }

module _ (K : Kind) (L : KindLaws K) (o : Opening) (s : Shape) where
  -- the control moves as over the lowest codes
  moves_by_log : (c : Chip) (log : List Landing) → Kept K o.part s c log → (call : Call) (a : _)
      → control_after K o.part c.memory.holds.code c.control call a ≡ control_after K o.part (lowest_codes K log) c.control call a
  moves_by_log c log k call a =
      same_moves K o.part c.memory.holds.code (lowest_codes K log) (λ row column i. k.holds row column (inl i)) c.control call a

  one : {c c' : Chip} {e : Event} → (log : List Landing) → Step K o c e c' → Kept K o.part s c log
      → Kept K o.part s c' (landings K o.part c.control e.call e.answer ++ log)
  one {c} {c'} {e} log t k =
      let ls = landings K o.part c.control e.call e.answer in
      record {
        shaped = ap (λ x. x.shape) t.performs.holding ∙ (shape_kept K (not e.failed) _ c.memory.holds ∙ k.shaped);
        holds = λ row column near. step_codes K o t row column (subst (λ x. Near o.part x column) (sym k.shaped) near)
            ∙ (codes_at K ls _ _ row column (k.holds row column near) ∙ sym (ap (λ f. f row column) (codes_append K ls log _)));
        page = rw t.moves (rw (moves_by_log c log k e.call e.answer)
            (register_lawful K L (lowest_codes K log) o c.memory.holds e.failed c.control e.call e.answer
            t.answers (codes_lawful K L log k.log_lawful) k.page));
        log_lawful = lawful_append K ls log (landings_lawful K L o.part c.control e.call e.answer k.page) k.log_lawful;
      }

  -- a replay that finds the lowest levels moves as the chip does
  replayed : {c c' : Chip} {e : Event} {log log' : List Landing} {xs : List Said} {code : ℕ → ℕ → ℕ} → Step K o c e c' → Kept K o.part s c log
      → HasLowest K log code
      → Wrote K o.part (control_after K o.part code c.control e.call e.answer) (landings K o.part c.control e.call e.answer ++ log) xs log'
      → Wrote K o.part c'.control (landings K o.part c.control e.call e.answer ++ log) xs log'
  replayed {c} {c'} {e} {log} {log'} {xs} {code} t k low v =
      subst (λ d. Wrote K o.part d (landings K o.part c.control e.call e.answer ++ log) xs log')
      (ap (λ f. control_after K o.part f c.control e.call e.answer) (only_lowest K L log k.log_lawful code low)
      ∙ (sym (moves_by_log c log k e.call e.answer) ∙ sym t.moves)) v

  same_log : {c c' : Chip} {es : List Event} → (log log' : List Landing) → Runs K o c es c' → Kept K o.part s c log
      → Wrote K o.part c.control log (map said es) log' → Kept K o.part s c' log'
  same_log log log' stop k Wrote.stop = k
  same_log {c} log log' (next {e = e} {es = es} t r) k (Wrote.next code low v) =
      same_log (landings K o.part c.control e.call e.answer ++ log) log' r (one log t k) (replayed t k low v)

  some_log : {c c' : Chip} {es : List Event} → (log : List Landing) → Runs K o c es c' → Kept K o.part s c log
      → (log' : List Landing) × Wrote K o.part c.control log (map said es) log'
  some_log log stop k = (log, Wrote.stop)
  some_log {c} log (next {e = e} {es = es} t r) k =
      let ls = landings K o.part c.control e.call e.answer in
      let x = some_log (ls ++ log) r (one log t k) in (
        x.0,
        Wrote.next (lowest_codes K log) record { lawful = codes_lawful K L log k.log_lawful; lowest = lowest_is K L log k.log_lawful }
            (subst (λ d. Wrote K o.part d (ls ++ log) (map said es) x.0) (t.moves ∙ moves_by_log c log k e.call e.answer) x.1),
      )

  -- two logs of one run are one log
  only_log : {c c' : Chip} {es : List Event} → (log log₁ log₂ : List Landing) → Runs K o c es c' → Kept K o.part s c log
      → Wrote K o.part c.control log (map said es) log₁ → Wrote K o.part c.control log (map said es) log₂ → log₁ ≡ log₂
  only_log log log₁ log₂ stop k Wrote.stop Wrote.stop = refl
  only_log {c} log log₁ log₂ (next {e = e} t r) k (Wrote.next code low v) (Wrote.next code' low' v') =
      only_log (landings K o.part c.control e.call e.answer ++ log) log₁ log₂ r (one log t k) (replayed t k low v) (replayed t k low' v')

  lowest_shown : (c : Chip) (log : List Landing) → Kept K o.part s c log → (row column cell : ℕ) → Near o.part s column → cell < K.cells
      → Lowest K log row column cell (K.level (c.memory.holds.code row column) cell)
  lowest_shown c log k row column cell near i = rw (k.holds row column near) (lowest_is K L log k.log_lawful row column cell i)

-- the register of a chip that was opened new holds lawful codes
pub register_kept : (K : Kind) (L : KindLaws K) (o : Opening) (m : Meaning) (es : List Event) (c : Chip) → New K m.holds → Runs K o (opened K m) es c
    → LawfulPage K c.control.register.codes
register_kept K L o m es c n r =
    let x = some_log K L o m.holds.shape [] r (at_new K L o.part n) in
    (same_log K L o m.holds.shape [] x.0 r (at_new K L o.part n) x.1).page

-- two chips that keep their logs
by_logs : (K : Kind) (L : KindLaws K) (o o' : Opening) (s : Shape) (c c' : Chip) (log log' : List Landing)
    → Kept K o.part s c log → Kept K o'.part s c' log'
    → SameCells s c.memory.holds c'.memory.holds ↔ SameLowest K s log log'
by_logs K L o o' s c c' log log' k k' = (
  (λ same row column cell inside i. (
    K.level (c.memory.holds.code row column) cell,
    lowest_shown K L o s c log k row column cell (inr inside.column_in) i,
    rw (same row column inside) (lowest_shown K L o' s c' log' k' row column cell (inr inside.column_in) i),
  )),
  (λ low row column inside.
      k.holds row column (inr inside.column_in)
      ∙ (L.same _ _ (codes_lawful K L log k.log_lawful row column) (codes_lawful K L log' k'.log_lawful row column)
      (λ cell i. lowest_one K L (lowest_is K L log k.log_lawful row column cell i) (low row column cell inside i).1
      ∙ lowest_one K L (low row column cell inside i).2 (lowest_is K L log' k'.log_lawful row column cell i))
      ∙ sym (k'.holds row column (inr inside.column_in)))),
)

pub law_of_cells : LawOfCells
law_of_cells K L o o' m m' es es' c c' shape n n' r r' log log' x x' =
    let s = m.holds.shape in
    let k' : Kept K o'.part s (opened K m') [] = subst (λ x. Kept K o'.part x (opened K m') []) (sym shape) (at_new K L o'.part n') in
    by_logs K L o o' s c c' log log' (same_log K L o s [] log r (at_new K L o.part n) x) (same_log K L o' s [] log' r' k' x')

pub logs_exist : LogsExist
logs_exist K L o m es c n r =
    let s = m.holds.shape in
    let k = at_new K L o.part n in
    let x = some_log K L o s [] r k in
    let kept = same_log K L o s [] x.0 r k x.1 in
    record {
      log = x.0;
      its_log = x.1;
      only_log = λ other y. only_log K L o s [] other x.0 r k y x.1;
      shown = λ row column cell inside i. lowest_shown K L o s c x.0 kept row column cell (inr inside.column_in) i;
      only_level = λ row column cell level inside i low.
          lowest_one K L low (lowest_shown K L o s c x.0 kept row column cell (inr inside.column_in) i);
    }

pub pages_are_lowest : PagesAreLowest
unfolding control_after
pages_are_lowest K L o m es e c c' n r t byte value row at call taken out log x column cell i j =
    let s = m.holds.shape in
    let kept = same_log K L o s [] log r (at_new K L o.part n) x in
    let moved : c'.control ≡ control_after K o.part c.memory.holds.code c.control (Call.Address byte) (Ok value) =
    subst (λ a. c'.control ≡ control_after K o.part c.memory.holds.code c.control (Call.Address byte) a) taken
    (subst (λ y. c'.control ≡ control_after K o.part c.memory.holds.code c.control y e.answer) call t.moves) in
    let shown : get_or c'.control.register.codes column K.erased ≡ c.memory.holds.code row column =
    ap (λ y. get_or y.register.codes column K.erased) moved
    ∙ shows_address K o.part c.memory.holds.code row at c.control byte c.control.state refl (ap (λ y. y.state) (sym moved) ∙ out) column i in
    rw shown (lowest_shown K L o s c log kept row column cell (inl i) j)
