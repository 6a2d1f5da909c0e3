-- What is left of a flat array's memory stays at a program and at a fill. Assumes nothing.
use Rattle.std.proofs.Common.{◌≡◌, ℕ, ◌+◌, ◌-◌, ◌*◌, ◌<◌, ◌≤◌, List, length, get_or, set, sym, ap, ◌∙◌, ap₂, arith, length-set, get_or-set_other}
use mathlib.Core.Path.{fun_ext}
use Rattle.std.proofs.lemmas.Nat.{mul-le}
use Rattle.words.specs.Kind.{Kind}
use Rattle.arrays.specs.Flat.{flat_blocks, flat_places, flat_rows, Joined, Put, Beyond}
use Rattle.arrays.specs.Rest.{Lent, Rest, lent, both, behind, after, flat_lent}

module _ (w c columns : ℕ) (cs cs' ns ns' : List ℕ) (words : length cs' ≡ length cs) (counts : length ns' ≡ length ns)
    (codes_kept : (i : ℕ) → flat_places columns cs ns ≤ i → get_or cs' i 0 ≡ get_or cs i 0)
    (counts_kept : (i : ℕ) → flat_rows columns cs ns ≤ i → get_or ns' i 0 ≡ get_or ns i 0) where
  size_kept : flat_blocks columns (length cs') (length ns') ≡ flat_blocks columns (length cs) (length ns)
  size_kept = ap₂ (flat_blocks columns) words counts

  codes_after : after (flat_places columns cs' ns') cs' ≡ after (flat_places columns cs ns) cs
  codes_after = ap (λ (m : ℕ). after (m * (32 * columns)) cs') size_kept ∙ fun_ext (λ i. codes_kept _ (omega arith))

  counts_after : after (flat_rows columns cs' ns') ns' ≡ after (flat_rows columns cs ns) ns
  counts_after = ap (λ (m : ℕ). after (32 * m) ns') size_kept ∙ fun_ext (λ i. counts_kept _ (omega arith))

  pub lent_kept : lent (flat_lent w c columns cs' ns') ≡ lent (flat_lent w c columns cs ns)
  lent_kept i = lent record {
    words_name = w;
    counts_name = c;
    columns = columns;
    words_length = words i;
    counts_length = counts i;
    words_beyond = codes_after i;
    counts_beyond = counts_after i;
  }

pub rest_programmed : (K : Kind) (w c columns : ℕ) (cs cs' ns ns' : List ℕ) (row v : ℕ) (codes : List ℕ) → row < flat_rows columns cs ns
    → Joined K cs cs' (row * columns) codes columns → ns' ≡ set ns row v → lent (flat_lent w c columns cs' ns') ≡ lent (flat_lent w c columns cs ns)
rest_programmed K w c columns cs cs' ns ns' row v codes h joined counts =
    lent_kept w c columns cs cs' ns ns' joined.len (ap length counts ∙ length-set ns row v)
    (λ i p. joined.after i (omega (arith, mul-le (row + 1) columns (flat_rows columns cs ns) columns (omega arith) (omega arith))))
    (λ i p. let ne : (i ≡ row → ⊥) = λ z. omega arith in ap (λ (l : List ℕ). get_or l i 0) counts ∙ get_or-set_other ns row i v 0 ne)

pub rest_filled : (w c columns : ℕ) (cs cs' ns ns' : List ℕ) (block v : ℕ) → block < flat_blocks columns (length cs) (length ns)
    → Put cs cs' (block * 32 * columns) (32 * columns) v → Put ns ns' (block * 32) 32 0 → lent (flat_lent w c columns cs' ns') ≡ lent (flat_lent w c columns cs ns)
rest_filled w c columns cs cs' ns ns' block v h codes counts =
    lent_kept w c columns cs cs' ns ns' codes.len counts.len
    (λ i p. codes.after i (omega (arith, mul-le (block + 1) (32 * columns) (flat_blocks columns (length cs) (length ns)) (32 * columns) (omega arith) (omega arith))))
    (λ i p. counts.after i (omega arith))

-- the memory of a flat array, and of the first flat array of any other
abbrev pub lent_of : Rest → Lent
lent_of (lent l) = l
lent_of (both a b) = lent_of a
lent_of (behind n a) = lent_of a

-- one place of two lists, read after their first n and m
shifted : (n m : ℕ) (xs ys : List ℕ) (i : ℕ) → n ≡ m → m ≤ i → after n xs ≡ after m ys → get_or xs i 0 ≡ get_or ys i 0
shifted n m xs ys i e h p =
    let j : ℕ = i - m in
    let here : m + j ≡ i = omega arith in
    let there : n + j ≡ i = omega arith in
    sym (ap (λ (x : ℕ). get_or xs x 0) there) ∙ ap (λ (f : ℕ → ℕ). f j) p ∙ ap (λ (x : ℕ). get_or ys x 0) here

-- memory of which the rest is as it was keeps its lengths and what lies beyond the shape
module _ (w c w' c' n n' : ℕ) (cs ns cs' ns' : List ℕ) (e : lent (flat_lent w' c' n' cs' ns') ≡ lent (flat_lent w c n cs ns)) where
  pub same_columns : n' ≡ n
  same_columns = ap (λ r. (lent_of r).columns) e

  pub rest_beyond : Beyond n cs ns cs' ns'
  rest_beyond =
      let p : length cs' ≡ length cs = ap (λ r. (lent_of r).words_length) e in
      let q : length ns' ≡ length ns = ap (λ r. (lent_of r).counts_length) e in
      let size : flat_blocks n' (length cs') (length ns') ≡ flat_blocks n (length cs) (length ns) = rw (same_columns, p, q) in
      let places : flat_places n' cs' ns' ≡ flat_places n cs ns = rw (same_columns, p, q) in
      record {
        codes_length = p;
        counts_length = q;
        codes_kept = λ i h. shifted _ (flat_places n cs ns) cs' cs i places h (ap (λ r. (lent_of r).words_beyond) e);
        counts_kept = λ i h. shifted _ (flat_rows n cs ns) ns' ns i (ap (λ (x : ℕ). 32 * x) size) h (ap (λ r. (lent_of r).counts_beyond) e);
      }
