-- Counting places and answers along a list. Assumes nothing.
use Rattle.std.proofs.Common.{◌≡◌, ℕ, zero, suc, ◌+◌, ◌*◌, ◌<◌, ◌≤◌, ◌≢◌, Bool, true, false, cond, not, eqb, sum, map, List, [], ◌∷◌, length, Some, None, Option, MatchOption, is_ok, Ok, Err, refl, ap, ◌∙◌, subst, add-one, zero-add, arith}
use Rattle.std.specs.Int.{from_bool}
use Rattle.std.specs.List.{range_with_len}
use Rattle.std.proofs.lemmas.List.Sums.{sum_by-cons}
use Rattle.std.proofs.lemmas.List.FromFn.{sum_by-map-range_with_len_more}
use Rattle.std.proofs.Math.Nat.{mul-le-mul_right}
use Rattle.arrays.specs.Meaning.{Contents}
use Rattle.rules.specs.Answering.{Answer}
use Rattle.compare.specs.Differences.{FirstApart, count_apart, count_rows}
use Rattle.compare.specs.Played.{count_taken, count_refused}

pub taken_summed : (xs : List Answer) → sum (map (λ a. from_bool (is_ok a)) xs) ≡ count_taken xs
taken_summed [] = refl
taken_summed (Ok v ∷ xs) =
    let before = taken_summed xs in
    let more : sum (map (λ (a : Answer). from_bool (is_ok a)) (Ok v ∷ xs)) ≡ 1 + sum (map (λ (a : Answer). from_bool (is_ok a)) xs) = sum_by-cons (λ (x : ℕ). x) 1 (map (λ (a : Answer). from_bool (is_ok a)) xs) in
    omega (arith, before, more)
taken_summed (Err w ∷ xs) =
    let before = taken_summed xs in
    let same : sum (map (λ (a : Answer). from_bool (is_ok a)) (Err w ∷ xs)) ≡ 0 + sum (map (λ (a : Answer). from_bool (is_ok a)) xs) = sum_by-cons (λ (x : ℕ). x) 0 (map (λ (a : Answer). from_bool (is_ok a)) xs) in
    omega (arith, before, same)

-- every call was taken or refused
pub all_answered : (xs : List Answer) → count_taken xs + count_refused xs ≡ length xs
all_answered [] = refl
all_answered (Ok v ∷ xs) = let h = all_answered xs in omega arith
all_answered (Err w ∷ xs) = let h = all_answered xs in omega arith

-- the first of the numbers below n at which two lists of codes differ
pub first_apart : (f g : ℕ → ℕ) (n : ℕ) (r : Option ℕ)
    → MatchOption r ((k : ℕ) → 0 ≤ k → k < n → f k ≡ g k) (λ i. (0 ≤ i) × (i < n) × (f i ≢ g i) × ((k : ℕ) → 0 ≤ k → k < i → f k ≡ g k)) → FirstApart f g n r
first_apart f g n None h = λ k l. h k (omega arith) l
first_apart f g n (Some i) h = (h.1, h.2, λ k l. h.3 k (omega arith) l)

turned : (same : Bool) → from_bool (not same) ≡ cond same 0 1
turned true = refl
turned false = refl

pub apart_summed : (f g : ℕ → ℕ) (n : ℕ) → sum (map (λ k. from_bool (not (eqb (f k) (g k)))) (range_with_len 0 n)) ≡ count_apart f g n
apart_summed f g zero = refl
apart_summed f g (suc n) =
    let one : ℕ → ℕ = λ k. from_bool (not (eqb (f k) (g k))) in
    let more = sum_by-map-range_with_len_more (λ (x : ℕ). x) one 0 n n (zero-add n) in
    let before = apart_summed f g n in
    let here = turned (eqb (f n) (g n)) in
    subst (λ (m : ℕ). sum (map one (range_with_len 0 m)) ≡ count_apart f g (suc n)) (add-one n)
    (more ∙ omega (arith, before, here))

pub apart_small : (f g : ℕ → ℕ) (n : ℕ) → count_apart f g n ≤ n
apart_small f g zero = omega arith
apart_small f g (suc n) = let h = apart_small f g n in elim (eqb (f n) (g n)) as (λ b. count_apart f g n + cond b 0 1 ≤ suc n) [ true ↦ omega arith | false ↦ omega arith ]

module _ (h h' : Contents) (columns from : ℕ) where
  pub rows_summed : (n : ℕ) → sum (map (λ row. count_apart (h.code row) (h'.code row) columns) (range_with_len from n)) ≡ count_rows h h' columns from n
  rows_summed zero = refl
  rows_summed (suc n) =
      let more = sum_by-map-range_with_len_more (λ (x : ℕ). x) (λ row. count_apart (h.code row) (h'.code row) columns) from n (from + n) refl in
      let before = rows_summed n in
      subst (λ (m : ℕ). sum (map (λ row. count_apart (h.code row) (h'.code row) columns) (range_with_len from m)) ≡ count_rows h h' columns from (suc n)) (add-one n)
      (more ∙ ap (λ (m : ℕ). m + count_apart (h.code (from + n)) (h'.code (from + n)) columns) before)

  rows_small : (n : ℕ) → count_rows h h' columns from n ≤ n * columns
  rows_small zero = omega arith
  rows_small (suc n) = let before = rows_small n in let here = apart_small (h.code (from + n)) (h'.code (from + n)) columns in omega (arith, before, here)

  pub few_rows : (n m : ℕ) → n ≤ m → count_rows h h' columns from n ≤ m * columns
  few_rows n m l = let small = rows_small n in let more = mul-le-mul_right columns l in omega (arith, small, more)
