-- The laws of the doubting byte. Assumes nothing.
use Rattle.std.specs.Prelude.{◌≡◌, ℕ, ◌+◌, ◌-◌, ◌*◌, ◌<◌, ◌≤◌, min, max, true, refl}
use Rattle.std.proofs.Common.{sym, ap, ap₂, ◌∙◌, arith}
use Rattle.std.specs.Int.Bits.{bit_and, bit_or, bit_xor, and_lt}
use Rattle.std.proofs.lemmas.Nat.{or_lt, xor_lt}
use Rattle.std.proofs.lemmas.Bool.{ltb-true, lt-ltb, eqb-true, eq-eqb, and_parts, and_from}
use Rattle.std.specs.Int.{bit_at}
use Rattle.std.proofs.lemmas.Nat.Bits.{bit_at_and, bit_at_or, bit_at_ones, bit_at-zero, same_from_bits_below}
use Rattle.words.specs.Bits.{bit_le, bit_of_xor}
use Rattle.words.specs.Kind.{KindLaws}
use Rattle.words.specs.Kinds.{erased_cells, doubtful_cells, joined_doubt, doubting_kind, Doubted}

-- two bytes with no set bit in common
pub record Apart (b d : ℕ) : Type 0 where
  pub low : b < 256
  pub high : d < 256
  pub apart : bit_and b d ≡ 0

-- the bytes of a lawful code
pub bytes_of : (c : ℕ) → doubting_kind.lawful c ≡ true → Apart (erased_cells c) (doubtful_cells c)
bytes_of c l =
    let p = and_parts _ _ l in
    let small = ltb-true c 65536 p.0 in
    record { low = omega arith; high = omega arith; apart = eqb-true _ 0 p.1 }

-- a bit is not set in both
apart_bit : (b d i : ℕ) → Apart b d → min (bit_at b i) (bit_at d i) ≡ 0
apart_bit b d i a = sym (bit_at_and b d i) ∙ ap (λ (x : ℕ). bit_at x i) a.apart ∙ bit_at-zero i

bits_apart : (b d : ℕ) → b < 256 → d < 256 → ((i : ℕ) → min (bit_at b i) (bit_at d i) ≡ 0) → Apart b d
bits_apart b d hb hd e = record {
  low = hb;
  high = hd;
  apart = same_from_bits_below 8 (bit_and b d) 0 (and_lt 8 b d hb hd) (omega arith) (λ i h. bit_at_and b d i ∙ e i ∙ sym (bit_at-zero i));
}

-- two bytes that are equal to such bytes
pub apart_as : {b d b' d' : ℕ} → b' ≡ b → d' ≡ d → Apart b d → Apart b' d'
apart_as e f a = rw (e, f) a

-- a code made of two bytes
module _ (b d : ℕ) (a : Apart b d) where
  low_of : erased_cells (b + 256 * d) ≡ b
  low_of = let h = a.low in omega arith

  high_of : doubtful_cells (b + 256 * d) ≡ d
  high_of = let h = a.low in omega arith

  pub made_level : (i : ℕ) → doubting_kind.level (b + 256 * d) i ≡ 2 * bit_at b i + bit_at d i
  made_level i = rw (low_of, high_of)

  pub made_lawful : doubting_kind.lawful (b + 256 * d) ≡ true
  made_lawful =
      let e : bit_and (erased_cells (b + 256 * d)) (doubtful_cells (b + 256 * d)) ≡ 0 = rw (low_of, high_of) a.apart in
      let small : b + 256 * d < 65536 = let h = a.low in let k = a.high in omega arith in
      and_from _ _ (lt-ltb (b + 256 * d) 65536 small) (eq-eqb _ 0 e)

-- the arithmetic of one cell
either_bit : (p q : ℕ) → min p q ≡ 0 → max p q ≡ p + q
either_bit p q h = omega arith

one_bit : (p q : ℕ) → p ≤ 1 → q ≤ 1 → min p q ≡ 0 → p + q ≤ 1
one_bit p q hp hq h = omega arith

left_over : (x y : ℕ) → y ≤ x → max x y - min x y ≡ x - y
left_over x y h = omega arith

lower_apart : (p q r s : ℕ) → p + q ≤ 1 → r + s ≤ 1 → min (min p r) (min (p + q) (r + s) - min p r) ≡ 0
lower_apart p q r s a b = omega arith

lower_level : (p q r s : ℕ) → p + q ≤ 1 → r + s ≤ 1 → 2 * min p r + (min (p + q) (r + s) - min p r) ≡ min (2 * p + q) (2 * r + s)
lower_level p q r s a b = omega arith

-- the join, over the bytes of both sides
module _ (b d b' d' : ℕ) (x : Apart b d) (y : Apart b' d') where
  one_left : (i : ℕ) → bit_at b i + bit_at d i ≤ 1
  one_left i = one_bit (bit_at b i) (bit_at d i) (bit_le b i) (bit_le d i) (apart_bit b d i x)

  one_right : (i : ℕ) → bit_at b' i + bit_at d' i ≤ 1
  one_right i = one_bit (bit_at b' i) (bit_at d' i) (bit_le b' i) (bit_le d' i) (apart_bit b' d' i y)

  -- the cells that are at least doubtful on both sides
  both_bit : (i : ℕ) → bit_at (bit_and (bit_or b d) (bit_or b' d')) i ≡ min (bit_at b i + bit_at d i) (bit_at b' i + bit_at d' i)
  both_bit i =
      let p : bit_at (bit_or b d) i ≡ bit_at b i + bit_at d i = bit_at_or b d i ∙ either_bit (bit_at b i) (bit_at d i) (apart_bit b d i x) in
      let q : bit_at (bit_or b' d') i ≡ bit_at b' i + bit_at d' i = bit_at_or b' d' i ∙ either_bit (bit_at b' i) (bit_at d' i) (apart_bit b' d' i y) in
      bit_at_and (bit_or b d) (bit_or b' d') i ∙ ap₂ min p q

  doubt_bit : (i : ℕ) → bit_at (joined_doubt b d b' d') i ≡ min (bit_at b i + bit_at d i) (bit_at b' i + bit_at d' i) - min (bit_at b i) (bit_at b' i)
  doubt_bit i =
      bit_of_xor (bit_and (bit_or b d) (bit_or b' d')) (bit_and b b') i
      ∙ ap₂ (λ (u v : ℕ). max u v - min u v) (both_bit i) (bit_at_and b b' i)
      ∙ left_over (min (bit_at b i + bit_at d i) (bit_at b' i + bit_at d' i)) (min (bit_at b i) (bit_at b' i)) (omega arith)

  pub joined_apart : Apart (bit_and b b') (joined_doubt b d b' d')
  joined_apart =
      let low = and_lt 8 b b' x.low y.low in
      let high = xor_lt 8 _ _ (and_lt 8 _ _ (or_lt 8 b d x.low x.high) (or_lt 8 b' d' y.low y.high)) low in
      bits_apart _ _ low high
      (λ i. ap₂ min (bit_at_and b b' i) (doubt_bit i) ∙ lower_apart (bit_at b i) (bit_at d i) (bit_at b' i) (bit_at d' i) (one_left i) (one_right i))

  joined_level : (i : ℕ) → 2 * bit_at (bit_and b b') i + bit_at (joined_doubt b d b' d') i ≡ min (2 * bit_at b i + bit_at d i) (2 * bit_at b' i + bit_at d' i)
  joined_level i =
      ap₂ (λ (u v : ℕ). 2 * u + v) (bit_at_and b b' i) (doubt_bit i)
      ∙ lower_level (bit_at b i) (bit_at d i) (bit_at b' i) (bit_at d' i) (one_left i) (one_right i)

  -- the code of the joined bytes is the join of the codes
  pub joined_code : {b'' d'' : ℕ} → b'' ≡ bit_and b b' → d'' ≡ joined_doubt b d b' d' → b'' + 256 * d'' ≡ doubting_kind.join (b + 256 * d) (b' + 256 * d')
  joined_code e f = rw (e, f, low_of b d x, high_of b d x, low_of b' d' y, high_of b' d' y)

-- the torn form: what is not erased is in doubt
module _ (b : ℕ) (h : b < 256) where
  flipped : (i : ℕ) → i < 8 → bit_at (bit_xor b 255) i ≡ 1 - bit_at b i
  flipped i l = omega (arith, bit_of_xor b 255 i, bit_at_ones 8 i l, bit_le b i)

  pub torn_apart : Apart b (bit_xor b 255)
  torn_apart =
      let high = xor_lt 8 b 255 h (omega arith) in
      record {
        low = h;
        high = high;
        apart = same_from_bits_below 8 (bit_and b (bit_xor b 255)) 0 (and_lt 8 b _ h high) (omega arith)
            (λ i l. bit_at_and b (bit_xor b 255) i ∙ omega (arith, flipped i l, bit_le b i) ∙ sym (bit_at-zero i));
      }

  torn_level : (i : ℕ) → i < 8 → doubting_kind.level (b + 256 * bit_xor b 255) i ≡ 1 + bit_at b i
  torn_level i l = omega (arith, made_level b (bit_xor b 255) torn_apart i, flipped i l, bit_le b i)

-- The torn form of a code keeps the erased cells; it raises the lowest level and keeps the others.
module _ (b d t : ℕ) (a : Apart b d) (e : t ≡ bit_xor b 255) where
  pub torn_code : b + 256 * t ≡ doubting_kind.torn (b + 256 * d)
  torn_code = rw (e, low_of b d a)

  pub torn_doubts : Doubted (b + 256 * d) (b + 256 * t)
  torn_doubts = rw e record {
    raised = λ i l z. omega (arith, torn_level b a.low i l, made_level b d a i);
    kept = λ i l z. omega (arith, torn_level b a.low i l, made_level b d a i, bit_le b i, bit_le d i, apart_bit b d i a);
  }

pub doubting_laws : KindLaws doubting_kind
doubting_laws = record {
  small = λ c l. ltb-true c 65536 (and_parts _ _ l).0;
  within = λ c i l _. omega (arith, bit_le (erased_cells c) i, bit_le (doubtful_cells c) i, apart_bit (erased_cells c) (doubtful_cells c) i (bytes_of c l));
  same = λ a b la lb e.
      let x = bytes_of a la in
      let y = bytes_of b lb in
      let parts : (i : ℕ) → i < 8 → (bit_at (erased_cells a) i ≡ bit_at (erased_cells b) i) × (bit_at (doubtful_cells a) i ≡ bit_at (doubtful_cells b) i) =
      λ i h.
      let l = e i h in
      let p = bit_le (erased_cells a) i in
      let q = bit_le (erased_cells b) i in
      let r = bit_le (doubtful_cells a) i in
      let s = bit_le (doubtful_cells b) i in
      (omega arith, omega arith) in
      let low : erased_cells a ≡ erased_cells b = same_from_bits_below 8 _ _ x.low y.low (λ i h. (parts i h).0) in
      let high : doubtful_cells a ≡ doubtful_cells b = same_from_bits_below 8 _ _ x.high y.high (λ i h. (parts i h).1) in
      omega arith;
  join_lawful = λ a b la lb. made_lawful _ _ (joined_apart _ _ _ _ (bytes_of a la) (bytes_of b lb));
  join_level = λ a b i la lb _.
      let x = bytes_of a la in
      let y = bytes_of b lb in
      made_level _ _ (joined_apart _ _ _ _ x y) i ∙ joined_level _ _ _ _ x y i;
  erased_lawful = refl;
  erased_top = λ i h. omega (arith, bit_at_ones 8 i h, bit_at-zero i);
  torn_lawful = λ c l. made_lawful _ _ (torn_apart (erased_cells c) (bytes_of c l).low);
  torn_erase_lawful = refl;
}
