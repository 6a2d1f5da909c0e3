-- The codes that landings leave have in each cell the lowest level written. Assumes nothing.
use Rattle.std.proofs.Common.{◌≡◌, ℕ, ◌<◌, ◌≤◌, true, cond, eqb, ◌≢◌, ◌⊎◌, List, [], ◌∷◌, ◌++◌, get_or, refl, ap, subst, inl, inr, arith}
use Rattle.std.proofs.lemmas.Bool.{eqb-true, eqb-false, cond_both, cases_lt}
use Rattle.words.specs.Kind.{Kind, KindLaws}
use Rattle.arrays.specs.Meaning.{block_of}
use Rattle.rules.specs.Written.{Landing, programmed, filled, Written, being_new, by_program, before_program, by_erase, before_other_erase, Lowest}

abbrev pub IsLawful : Kind → ℕ → Type 0
IsLawful K code = K.lawful code ≡ true

-- the codes after a landing, and after a log, the newest first
abbrev pub code_after : Kind → Landing → (ℕ → ℕ → ℕ) → ℕ → ℕ → ℕ
code_after K (programmed at page) code row column =
    cond (eqb row at) (K.join (code row column) (get_or page column K.erased)) (code row column)
code_after K (filled at c) code row column = cond (eqb (block_of row) at) c (code row column)

unfoldable pub codes_after : Kind → List Landing → (ℕ → ℕ → ℕ) → ℕ → ℕ → ℕ
codes_after K [] code = code
codes_after K (l ∷ ls) code = code_after K l (codes_after K ls code)

abbrev pub lowest_codes : Kind → List Landing → ℕ → ℕ → ℕ
lowest_codes K log = codes_after K log (λ row column. K.erased)

abbrev pub LawfulLanding : Kind → Landing → Type 0
LawfulLanding K (programmed at page) = (k : ℕ) → IsLawful K (get_or page k K.erased)
LawfulLanding K (filled at c) = IsLawful K c

abbrev pub LawfulLog : Kind → List Landing → Type 0
LawfulLog K [] = Unit {0}
LawfulLog K (l ∷ ls) = LawfulLanding K l × LawfulLog K ls

pub lawful_append : (K : Kind) (xs ys : List Landing) → LawfulLog K xs → LawfulLog K ys → LawfulLog K (xs ++ ys)
lawful_append K [] ys h k = k
lawful_append K (x ∷ xs) ys h k = (h.0, lawful_append K xs ys h.1 k)

pub codes_append : (K : Kind) (xs ys : List Landing) (f : ℕ → ℕ → ℕ) → codes_after K (xs ++ ys) f ≡ codes_after K xs (codes_after K ys f)
unfolding codes_after
codes_append K [] ys f = refl
codes_append K (x ∷ xs) ys f = ap (code_after K x) (codes_append K xs ys f)

-- a place after landings depends on that place alone
pub codes_at : (K : Kind) (ls : List Landing) (f g : ℕ → ℕ → ℕ) (row column : ℕ) → f row column ≡ g row column
    → codes_after K ls f row column ≡ codes_after K ls g row column
unfolding codes_after
codes_at K [] f g row column e = e
codes_at K (programmed at page ∷ ls) f g row column e =
    ap (λ x. cond (eqb row at) (K.join x (get_or page column K.erased)) x) (codes_at K ls f g row column e)
codes_at K (filled at c ∷ ls) f g row column e = ap (λ x. cond (eqb (block_of row) at) c x) (codes_at K ls f g row column e)

-- what was written, taken apart
since_new : {K : Kind} {row column c : ℕ} → Written K row column [] c → c ≡ K.erased
since_new being_new = refl

pub since_program : {K : Kind} {row column at : ℕ} {page : List ℕ} {log : List Landing} {c : ℕ}
    → Written K row column (programmed at page ∷ log) c
    → ((row ≡ at) × (c ≡ get_or page column K.erased)) ⊎ Written K row column log c
since_program by_program = inl (refl, refl)
since_program (before_program w) = inr w

since_fill : {K : Kind} {row column at d : ℕ} {log : List Landing} {c : ℕ} → Written K row column (filled at d ∷ log) c
    → ((block_of row ≡ at) × (c ≡ d)) ⊎ ((block_of row ≢ at) × Written K row column log c)
since_fill (by_erase e) = inl (e, refl)
since_fill (before_other_erase n w) = inr (n, w)

module _ (K : Kind) (L : KindLaws K) where
  pub codes_lawful : (log : List Landing) → LawfulLog K log → (row column : ℕ) → IsLawful K (lowest_codes K log row column)
  unfolding codes_after
  codes_lawful [] h row column = L.erased_lawful
  codes_lawful (programmed at page ∷ log) h row column =
      let old = codes_lawful log h.1 row column in
      cond_both (eqb row at) _ _ (λ x. IsLawful K x) (λ _. L.join_lawful _ _ old (h.0 column)) (λ _. old)
  codes_lawful (filled at c ∷ log) h row column =
      cond_both (eqb (block_of row) at) _ _ (λ x. IsLawful K x) (λ _. h.0) (λ _. codes_lawful log h.1 row column)

  -- a program on the row: the lower of the level before and the level programmed
  on_row : (row column cell at : ℕ) (page : List ℕ) (log : List Landing) (old : ℕ) → row ≡ at
      → IsLawful K old → IsLawful K (get_or page column K.erased) → cell < K.cells → Lowest K log row column cell (K.level old cell)
      → Lowest K (programmed at page ∷ log) row column cell (K.level (K.join old (get_or page column K.erased)) cell)
  on_row row column cell at page log old e h k i low =
      let new = get_or page column K.erased in
      rw (L.join_level old (get_or page column K.erased) cell h k i) record {
        some_code = elim (cases_lt (K.level old cell) (K.level new cell)) [
          | inl lt ↦ (low.some_code.0, before_program low.some_code.1, omega (arith, low.some_code.2))
          | inr le ↦ (new, subst (λ r. Written K row column (programmed r page ∷ log) new) e by_program, omega arith)
        ];
        none_lower = λ c w. elim (since_program w) [
          | inl e ↦ rw e.1 (omega arith)
          | inr v ↦ omega (arith, low.none_lower c v)
        ];
      }

  off_row : (row column cell at : ℕ) (page : List ℕ) (log : List Landing) (v : ℕ)
      → (row ≡ at → ⊥) → Lowest K log row column cell v → Lowest K (programmed at page ∷ log) row column cell v
  off_row row column cell at page log v n low = record {
    some_code = (low.some_code.0, before_program low.some_code.1, low.some_code.2);
    none_lower = λ c w. elim (since_program w) [ inl e ↦ absurd (n e.0) | inr u ↦ low.none_lower c u ];
  }

  in_block : (row column cell at c : ℕ) (log : List Landing) → block_of row ≡ at → Lowest K (filled at c ∷ log) row column cell (K.level c cell)
  in_block row column cell at c log e = record {
    some_code = (c, by_erase e, refl);
    none_lower = λ d w. elim (since_fill w) [ inl f ↦ rw f.1 (omega arith) | inr u ↦ absurd (u.0 e) ];
  }

  off_block : (row column cell at c : ℕ) (log : List Landing) (v : ℕ) → (block_of row ≡ at → ⊥) → Lowest K log row column cell v
      → Lowest K (filled at c ∷ log) row column cell v
  off_block row column cell at c log v n low = record {
    some_code = (low.some_code.0, before_other_erase n low.some_code.1, low.some_code.2);
    none_lower = λ d w. elim (since_fill w) [ inl f ↦ absurd (n f.0) | inr u ↦ low.none_lower d u.1 ];
  }

  pub lowest_is : (log : List Landing) → LawfulLog K log → (row column cell : ℕ) → cell < K.cells
      → Lowest K log row column cell (K.level (lowest_codes K log row column) cell)
  unfolding codes_after
  lowest_is [] h row column cell i = record {
    some_code = (K.erased, being_new, refl);
    none_lower = λ c w. rw (since_new w) (omega arith);
  }
  lowest_is (programmed at page ∷ log) h row column cell i =
      let low = lowest_is log h.1 row column cell i in
      cond_both (eqb row at) _ _ (λ x. Lowest K (programmed at page ∷ log) row column cell (K.level x cell))
      (λ e. on_row row column cell at page log _ (eqb-true row at e) (codes_lawful log h.1 row column) (h.0 column) i low)
      (λ e. off_row row column cell at page log _ (eqb-false row at e) low)
  lowest_is (filled at c ∷ log) h row column cell i =
      cond_both (eqb (block_of row) at) _ _ (λ x. Lowest K (filled at c ∷ log) row column cell (K.level x cell))
      (λ e. in_block row column cell at c log (eqb-true (block_of row) at e))
      (λ e. off_block row column cell at c log _ (eqb-false (block_of row) at e) (lowest_is log h.1 row column cell i))

  pub lowest_one : {log : List Landing} {row column cell v v' : ℕ} → Lowest K log row column cell v → Lowest K log row column cell v' → v ≡ v'
  lowest_one a b =
      let x : _ ≤ _ = a.none_lower _ b.some_code.1 in
      let y : _ ≤ _ = b.none_lower _ a.some_code.1 in
      let p = a.some_code.2 in
      let q = b.some_code.2 in
      omega arith
