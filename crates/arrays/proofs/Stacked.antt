-- A program of a row in the second array of a stack. Assumes nothing.
use Rattle.std.proofs.Common.{◌≡◌, ℕ, ◌-◌, ◌*◌, ◌<◌, ◌≤◌, Bool, true, false, cond, ◌&&◌, eqb, ltb, List, length, get_or, sym, refl, ap, ◌∙◌, ap₂, ⊎_elim, arith}
use Rattle.std.proofs.lemmas.Bool.{cond-true, cond-false, lt-ltb, le-ltb, eqb-true, eq-eqb, ne_eqb, and_left, cases_lt, cases_eq, cases_Bool}
use Rattle.words.specs.Kind.{Kind, all_lawful}
use Rattle.arrays.specs.Meaning.{Shape, Contents, Meaning, programs, asked, performed, counted, Performs}
use Rattle.arrays.specs.Stack.{stack, stack_blocks, stack_contents, at_row}
use Rattle.arrays.proofs.Asked.{contents_same}

-- both numbers moved down by one amount
eqb_down : (m a b : ℕ) → m ≤ a → m ≤ b → eqb (a - m) (b - m) ≡ eqb a b
eqb_down m a b h k = ⊎_elim
    (λ (e : a ≡ b). eq-eqb (a - m) (b - m) (ap (λ (x : ℕ). x - m) e) ∙ sym (eq-eqb a b e))
    (λ (n : a ≡ b → ⊥). ne_eqb (a - m) (b - m) (λ z. n (omega arith)) ∙ sym (ne_eqb a b n))
    (cases_eq a b)

-- where a row stands
module _ {X : Type 0} (a b : Shape) (f g : ℕ → X) (z : X) (row : ℕ) where
  outside : 32 * stack_blocks a b ≤ row → at_row a b f g z row ≡ z
  outside h = cond-false _ _ _ (le-ltb row (32 * stack_blocks a b) h)

  in_first : row < 32 * stack_blocks a b → row < 32 * a.blocks → at_row a b f g z row ≡ f row
  in_first h k = cond-true _ _ _ (lt-ltb row (32 * stack_blocks a b) h) ∙ cond-true _ _ _ (lt-ltb row (32 * a.blocks) k)

  in_second : row < 32 * stack_blocks a b → 32 * a.blocks ≤ row → at_row a b f g z row ≡ g (row - 32 * a.blocks)
  in_second h k = cond-true _ _ _ (lt-ltb row (32 * stack_blocks a b) h) ∙ cond-false _ _ _ (le-ltb row (32 * a.blocks) k)

module _ (a b : Shape) (row : ℕ) (within : row < 32 * stack_blocks a b) (second : 32 * a.blocks ≤ row) where
  abbrev below : ℕ
  below = row - 32 * a.blocks

  same_columns : a.columns ≡ b.columns
  same_columns = ⊎_elim (λ e. eqb-true _ _ e)
      (λ f. let z : stack_blocks a b ≡ 0 = cond-false _ _ _ f in absurd (omega arith))
      (cases_Bool (eqb a.columns b.columns))

  -- what a write changes at one row of the second array, it changes at that row of the stack alone
  written : (f g : ℕ → ℕ) (z : ℕ) (F : ℕ → ℕ) (P Q : ℕ → Bool)
      → ((r : ℕ) → (r ≡ row → ⊥) → P r ≡ false) → ((r : ℕ) → 32 * a.blocks ≤ r → Q (r - 32 * a.blocks) ≡ P r)
      → (r : ℕ) → at_row a b f (λ s. cond (Q s) (F (g s)) (g s)) z r ≡ cond (P r) (F (at_row a b f g z r)) (at_row a b f g z r)
  written f g z F P Q only same r = let new : ℕ → ℕ = λ s. cond (Q s) (F (g s)) (g s) in ⊎_elim
      (λ (h : r < 32 * stack_blocks a b). ⊎_elim
      (λ (k : r < 32 * a.blocks).
      let no : P r ≡ false = only r (λ e. omega arith) in
      in_first a b f new z r h k ∙ sym (cond-false (P r) _ _ no ∙ in_first a b f g z r h k))
      (λ (k : 32 * a.blocks ≤ r).
      let s : ℕ = r - 32 * a.blocks in
      in_second a b f new z r h k ∙ ap (λ (t : Bool). cond t (F (g s)) (g s)) (same r k)
      ∙ sym (ap (λ (v : ℕ). cond (P r) (F v) v) (in_second a b f g z r h k)))
      (cases_lt r (32 * a.blocks)))
      (λ (h : 32 * stack_blocks a b ≤ r).
      let no : P r ≡ false = only r (λ e. omega arith) in
      outside a b f new z r h ∙ sym (cond-false (P r) _ _ no ∙ outside a b f g z r h))
      (cases_lt r (32 * stack_blocks a b))

module _ (K : Kind) (a b : Contents) (row : ℕ) (codes : List ℕ) (closes : Bool)
    (within : row < 32 * stack_blocks a.shape b.shape) (second : 32 * a.shape.blocks ≤ row) where
  columns_test : (column : ℕ) → ltb column b.shape.columns ≡ ltb column a.shape.columns
  columns_test column = ap (ltb column) (sym (same_columns a.shape b.shape row within second))

  programmed_second : stack_contents K a (performed K (programs (row - 32 * a.shape.blocks) codes closes) b) ≡ performed K (programs row codes closes) (stack_contents K a b)
  programmed_second = contents_same refl
      (λ r column. written a.shape b.shape row within second (λ s. a.code s column) (λ s. b.code s column) K.erased
      (λ v. K.join v (get_or codes column K.erased))
      (λ s. eqb s row && ltb column a.shape.columns)
      (λ s. eqb s (row - 32 * a.shape.blocks) && ltb column b.shape.columns)
      (λ s n. and_left _ _ (ne_eqb s row n))
      (λ s k. ap₂ (λ (x y : Bool). x && y) (eqb_down (32 * a.shape.blocks) s row k second) (columns_test column)) r)
      (λ r. written a.shape b.shape row within second a.count b.count 0 (counted closes)
      (λ s. eqb s row) (λ s. eqb s (row - 32 * a.shape.blocks))
      (λ s n. ne_eqb s row n) (λ s k. eqb_down (32 * a.shape.blocks) s row k second) r)

  asked_second : (done : Bool) → stack_contents K a (asked K (programs (row - 32 * a.shape.blocks) codes closes) done b) ≡ asked K (programs row codes closes) done (stack_contents K a b)
  asked_second true = programmed_second
  asked_second false = refl

-- the second array was asked, and the stack did what it did
pub second_programs : (K : Kind) (a b b' : Meaning) (row n : ℕ) (codes : List ℕ) (closes done : Bool) → n ≡ a.holds.shape.blocks
    → row < 32 * stack_blocks a.holds.shape b.holds.shape → 32 * n ≤ row
    → Performs K (programs (row - 32 * n) codes closes) b done b' → Performs K (programs row codes closes) (stack K a b) done (stack K a b')
second_programs K a b b' row n codes closes done e within later p =
    let second : 32 * a.holds.shape.blocks ≤ row = omega arith in
    let q : Performs K (programs (row - 32 * a.holds.shape.blocks) codes closes) b done b' = rw (sym e) p in
    record {
      told = q.told ∙ sym (ap₂ (λ (x y : Bool). x && y)
          (in_second a.holds.shape b.holds.shape a.willing_row b.willing_row false row within second)
          (ap (λ (m : ℕ). eqb (length codes) m && all_lawful K codes) (same_columns a.holds.shape b.holds.shape row within second)));
      holding = ap (stack_contents K a.holds) q.holding ∙ asked_second K a.holds b.holds row codes closes within second done;
      kept = λ f. ap (stack K a) (q.kept f);
    }
