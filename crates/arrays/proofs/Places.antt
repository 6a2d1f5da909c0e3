-- Lemmas on lists of codes, and on writing a run of places one after another. Assumes nothing.
use Rattle.std.proofs.Common.{◌≡◌, ℕ, zero, suc, ◌+◌, ◌<◌, ◌≤◌, List, [], ◌∷◌, length, map, get_or, drop, set, replicate, ◌++◌, refl, sym, ap, subst, ◌∙◌, ⊎_elim, le_of_suc-le-suc, not-suc-le-zero, add-one, arith, length-set, get_or-set_other, get_or-set_same}
use Rattle.std.proofs.lemmas.Grind.{common_steps}
use Rattle.std.proofs.lemmas.List.{map-append, take-map, drop-map, length-map}
use Rattle.std.proofs.lemmas.Bool.{cases_lt}
use Rattle.words.specs.Kind.{Kind}
use Rattle.arrays.specs.Flat.{with_run, Joined, Put}

-- one more place of a run that is written front to back
module _ (new : List ℕ) (at i v : ℕ) (fits : at + i < length new) where
  -- below the newest place, at it, and elsewhere
  written : (f : ℕ → ℕ) → ((j : ℕ) → j < i → get_or new (at + j) 0 ≡ f j) → v ≡ f i → (j : ℕ) → j < i + 1 → get_or (set new (at + i) v) (at + j) 0 ≡ f j
  written f below here j h = ⊎_elim
      (λ (low : j < i). let ne : (at + j ≡ at + i → ⊥) = λ z. omega arith in get_or-set_other new (at + i) (at + j) v 0 ne ∙ below j low)
      (λ (high : i ≤ j). let e : j ≡ i = omega arith in rw e (get_or-set_same new (at + i) v 0 fits ∙ here))
      (cases_lt j i)

  other : (old : List ℕ) (j : ℕ) → (j ≡ at + i → ⊥) → get_or new j 0 ≡ get_or old j 0 → get_or (set new (at + i) v) j 0 ≡ get_or old j 0
  other old j ne e = get_or-set_other new (at + i) j v 0 ne ∙ e

  pub joined_more : (K : Kind) (old cs : List ℕ) → Joined K old new at cs i → v ≡ K.join (get_or new (at + i) 0) (get_or cs i K.erased)
      → Joined K old (set new (at + i) v) at cs (i + 1)
  joined_more K old cs h e = record {
    len = length-set new (at + i) v ∙ h.len;
    inside = written (λ j. K.join (get_or old (at + j) 0) (get_or cs j K.erased)) h.inside
        (e ∙ ap (λ (x : ℕ). K.join x (get_or cs i K.erased)) (h.after (at + i) (omega arith)));
    before = λ j p. other old j (λ z. omega arith) (h.before j p);
    after = λ j p. other old j (λ z. omega arith) (h.after j (omega arith));
  }

-- one more place of a run of one value
run_next : {X : Type 0} (xs : List X) (i : ℕ) (v : X) → i < length xs → set (replicate i v ++ drop i xs) i v ≡ replicate (suc i) v ++ drop (suc i) xs
run_next [] i v h = absurd (not-suc-le-zero h)
run_next (x ∷ xs) zero v h = refl
run_next (x ∷ xs) (suc i) v h = ap (λ (l : List _). v ∷ l) (run_next xs i v (le_of_suc-le-suc h))

pub run_more : {X : Type 0} (xs : List X) (i : ℕ) (v : X) → i < length xs → set (replicate i v ++ drop i xs) i v ≡ replicate (i + 1) v ++ drop (i + 1) xs
run_more xs i v h = rw (add-one i) (run_next xs i v h)

map_same : {X : Type 0} (f : X → ℕ) (n : ℕ) (v : X) → map f (replicate n v) ≡ replicate n (f v)
map_same f zero v = refl
map_same f (suc n) v = ap (λ (l : List ℕ). f v ∷ l) (map_same f n v)

pub map_run : {X : Type 0} (f : X → ℕ) (xs : List X) (at n : ℕ) (v : X) → map f (with_run xs at n v) ≡ with_run (map f xs) at n (f v)
map_run f xs at n v = simp (map-append, take-map, drop-map, map_same) refl

pub put_run : (xs : List ℕ) (at n v : ℕ) → at + n ≤ length xs → Put xs (with_run xs at n v) at n v
put_run xs at n v h = record {
  len = grind (arith, common_steps);
  inside = λ i p. grind (arith, common_steps);
  before = λ j p. grind (arith, common_steps);
  after = λ j p. grind (arith, common_steps);
}

-- a run of one value in stored words, as their codes see it
pub put_codes : {X : Type 0} (f : X → ℕ) (old new : List X) (at n : ℕ) (v : X) → at + n ≤ length old → new ≡ with_run old at n v → Put (map f old) (map f new) at n (f v)
put_codes f old new at n v h e =
    subst (λ (l : List ℕ). Put (map f old) l at n (f v)) (sym (ap (map f) e ∙ map_run f old at n v)) (put_run (map f old) at n (f v) (omega (arith, length-map old f)))

pub put_counts : (old new : List ℕ) (at n v : ℕ) → at + n ≤ length old → new ≡ with_run old at n v → Put old new at n v
put_counts old new at n v h e = subst (λ (l : List ℕ). Put old l at n v) (sym e) (put_run old at n v h)
