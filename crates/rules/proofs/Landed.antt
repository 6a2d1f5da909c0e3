-- What a call does to the codes of the array is what lands. Assumes nothing.
use Rattle.std.proofs.Common.{◌≡◌, ℕ, ◌<◌, Bool, true, false, cond, not, ◌&&◌, eqb, ltb, ◌⊎◌, List, [], get_or, take, is_some, Some, None, Ok, Err, Option, refl, ap, ◌∙◌, inl, inr, arith}
use Rattle.std.proofs.lemmas.Bool.{lt-ltb, eqb-true, and_parts, not-false}
use Rattle.refusals.specs.declared.Refusal.{Refusal}
use Rattle.records.specs.declared.call.Call.{Call}
use Rattle.words.specs.Kind.{Kind, KindLaws}
use Rattle.arrays.specs.Meaning.{Shape, Contents, Operation, nothing, programs, fills, performed, block_of}
use Rattle.rules.specs.declared.part.Part.{Part}
use Rattle.rules.specs.declared.command.Command.{Command}
use Rattle.rules.specs.declared.state.Work.{Work}
use Rattle.rules.specs.declared.control.Opening.{Opening}
use Rattle.rules.specs.declared.control.Control.{Control}
use Rattle.rules.specs.Parts.{columns}
use Rattle.rules.specs.Controls.{under}
use Rattle.rules.specs.Answering.{Answer, done, unless, is_dead, answer_command, answer_cycle, answer_alive, answer}
use Rattle.rules.specs.Asking.{Ending, none, whole, torn, command_ending, cycle_ending, ending, operation_of, operation}
use Rattle.rules.specs.Running.{Chip, Event, Step}
use Rattle.rules.specs.Written.{Landing, programmed, filled, landed_by, landings}
use Rattle.rules.proofs.Lows.{code_after, codes_after, LawfulLog}
use Rattle.rules.proofs.Registers.{LawfulPage, lawful_take, lawful_torn}

-- a column of the part, or of the array
abbrev pub Near : Part → Shape → ℕ → Type 0
Near p h column = (column < columns p) ⊎ (column < h.columns)

-- a live chip's part has the array's columns
within : (K : Kind) (o : Opening) (h : Shape) (column : ℕ) → is_dead K o h ≡ false → Near o.part h column → column < h.columns
within K o h column e near =
    let c : h.columns ≡ columns o.part = eqb-true _ _ (and_parts _ _ (not-false _ e)).0 in
    elim near [ inl i ↦ omega arith | inr i ↦ i ]

-- the shape stays
pub shape_kept : (K : Kind) (d : Bool) (x : Operation) (h : Contents) → (cond d (performed K x h) h).shape ≡ h.shape
shape_kept K d x h = grind arith

-- an operation is under way, and ends
abbrev pub Ends : Option Work → Ending → Type 0
Ends None n = ⊥
Ends (Some w) none = ⊥
Ends (Some w) whole = Unit {0}
Ends (Some w) torn = Unit {0}

pub no_ends : (u : Option Work) → Ends u none → ⊥
no_ends None e = e
no_ends (Some w) e = e

-- a call that ends an operation answers by the array alone
ends_command : (o : Opening) (h : Contents) (f : Bool) (c : Control) (x : Command) → Ends (under c.state) (command_ending x)
    → answer_command o h f c x ≡ unless f Refusal.ArrayFailed done
ends_command o h f c x z = grind arith

ends_cycle : (o : Opening) (h : Contents) (f : Bool) (c : Control) (x : Option Command) → Ends (under c.state) (cycle_ending x)
    → answer_cycle o h f c x ≡ unless f Refusal.ArrayFailed done
ends_cycle o h f c x z = grind (arith, ends_command)

ends_settle : (u : Option Work) (f : Bool) → Ends u whole
    → unless (not (is_some u)) Refusal.NotBusy (unless f Refusal.ArrayFailed done) ≡ unless f Refusal.ArrayFailed done
ends_settle u f z = grind arith

pub ends_answer : (K : Kind) (o : Opening) (h : Contents) (f : Bool) (c : Control) (call : Call) → Ends (under c.state) (ending o.part call)
    → answer_alive K o h f c call ≡ unless f Refusal.ArrayFailed done
ends_answer K o h f c call z = grind (arith, ends_cycle, ends_settle)

abbrev if_taken : Answer → List Landing → List Landing
if_taken (Ok v) ls = ls
if_taken (Err why) ls = []

none_landed : (K : Kind) (h : Contents) (d : Bool) (a : Answer) → (cond d h h).code ≡ codes_after K (if_taken a []) h.code
unfolding codes_after
none_landed K h d a = grind arith

-- inside the columns the guard holds
guard : (q t : Bool) (x y : ℕ) → t ≡ true → cond (q && t) x y ≡ cond q x y
guard q t x y e = grind arith

program_at : (K : Kind) (h : Contents) (at : ℕ) (page : List ℕ) (closes : Bool) (row column : ℕ) → column < h.shape.columns
    → (performed K (programs at page closes) h).code row column ≡ code_after K (programmed at page) h.code row column
program_at K h at page closes row column i =
    guard (eqb row at) (ltb column h.shape.columns) (K.join (h.code row column) (get_or page column K.erased)) (h.code row column)
    (lt-ltb column h.shape.columns i)

fill_at : (K : Kind) (h : Contents) (at code row column : ℕ) → column < h.shape.columns
    → (performed K (fills at code) h).code row column ≡ code_after K (filled at code) h.code row column
fill_at K h at code row column i =
    guard (eqb (block_of row) at) (ltb column h.shape.columns) code (h.code row column) (lt-ltb column h.shape.columns i)

ended_by : (K : Kind) (p : Part) (r : List ℕ) (h : Contents) (u : Option Work) (n : Ending) (f : Bool) (a : Answer)
    → (Ends u n → a ≡ unless f Refusal.ArrayFailed done) → (row column : ℕ) → column < h.shape.columns
    → (cond (not f) (performed K (operation_of K p r u n) h) h).code row column ≡ codes_after K (if_taken a (landed_by K p r u n)) h.code row column
unfolding codes_after
ended_by K p r h u n f a e row column i = grind (arith, none_landed, program_at, fill_at)

landings_are : (K : Kind) (p : Part) (c : Control) (call : Call) (a : Answer)
    → landings K p c call a ≡ if_taken a (landed_by K p c.register.codes (under c.state) (ending p call))
unfolding landings
landings_are K p c call a = grind arith

ended : (K : Kind) (o : Opening) (h : Contents) (c : Control) (call : Call) (f : Bool) (a : Answer) → a ≡ answer K o h f c call
    → (row column : ℕ) → Near o.part h.shape column
    → (cond (not f) (performed K (operation K o h.shape c call) h) h).code row column
    ≡ codes_after K (landings K o.part c call a) h.code row column
unfolding answer operation codes_after
ended K o h c call f a e row column near = rw (landings_are K o.part c call a) (go (is_dead K o h.shape) refl e)
  where
    n : Ending
    n = ending o.part call

    u : Option Work
    u = under c.state

    go : (d : Bool) → is_dead K o h.shape ≡ d → a ≡ unless d Refusal.Dead (answer_alive K o h f c call)
        → (cond (not f) (performed K (cond d nothing (operation_of K o.part c.register.codes u n)) h) h).code row column
        ≡ codes_after K (if_taken a (landed_by K o.part c.register.codes u n)) h.code row column
    go true x e = rw e (ap (λ g. g row column) (none_landed K h (not f) (Err Refusal.Dead)))
    go false x e =
        ended_by K o.part c.register.codes h u n f a (λ z. e ∙ ends_answer K o h f c call z) row column (within K o h.shape column x near)

pub step_codes : (K : Kind) (o : Opening) {c c' : Chip} {e : Event} → Step K o c e c' → (row column : ℕ) → Near o.part c.memory.holds.shape column
    → c'.memory.holds.code row column
    ≡ codes_after K (landings K o.part c.control e.call e.answer) c.memory.holds.code row column
step_codes K o {c} {c'} {e} t row column near =
    ap (λ h. h.code row column) t.performs.holding
    ∙ ended K o c.memory.holds c.control e.call e.failed e.answer t.answers row column near

module _ (K : Kind) (L : KindLaws K) where
  lands_lawful : (p : Part) (u : Option Work) (e : Ending) (r : List ℕ) → LawfulPage K r → LawfulLog K (landed_by K p r u e)
  lands_lawful p None e r h = tt
  lands_lawful p (Some w) none r h = tt
  lands_lawful p (Some (Work.Program row closes)) whole r h = (lawful_take K L (columns p) r h, tt)
  lands_lawful p (Some (Work.Erase block)) whole r h = (L.erased_lawful, tt)
  lands_lawful p (Some (Work.Program row closes)) torn r h = (lawful_torn K L (take (columns p) r) (lawful_take K L (columns p) r h), tt)
  lands_lawful p (Some (Work.Erase block)) torn r h = (L.torn_erase_lawful, tt)

  pub landings_lawful : (p : Part) (c : Control) (call : Call) (a : Answer) → LawfulPage K c.register.codes → LawfulLog K (landings K p c call a)
  unfolding landings
  landings_lawful p c call (Ok v) h = lands_lawful p (under c.state) (ending p call) c.register.codes h
  landings_lawful p c call (Err why) h = tt
