-- The laws of words whose cells are their bits, at every width up to 16. Assumes nothing.
use Rattle.std.specs.Prelude.{◌≡◌, ℕ, ◌-◌, ◌%◌, ◌^◌, ◌<◌, ◌≤◌, true}
use Rattle.std.proofs.Common.{arith, pow_mono, pow_pos}
use Rattle.std.specs.Int.Bits.{bit_and, and_lt}
use Rattle.std.proofs.lemmas.Nat.{mod_below}
use Rattle.std.proofs.lemmas.Bool.{ltb-true, lt-ltb}
use Rattle.std.proofs.lemmas.Nat.Bits.{bit_at_and, bit_at_ones, same_from_bits_below}
use Rattle.words.specs.Bits.{bit_le}
use Rattle.words.specs.Kind.{KindLaws}
use Rattle.words.specs.Kinds.{binary_kind}

-- what fits n bits is lawful
pub fits_lawful : (n c : ℕ) → c < 2 ^ n → (binary_kind n).lawful c ≡ true
fits_lawful n c h = lt-ltb c (2 ^ n) h

lawful_fits : (n c : ℕ) → (binary_kind n).lawful c ≡ true → c < 2 ^ n
lawful_fits n c h = ltb-true c (2 ^ n) h

pub binary_laws : (n : ℕ) → n ≤ 16 → KindLaws (binary_kind n)
binary_laws n h =
    let ones : (binary_kind n).lawful (2 ^ n - 1) ≡ true = fits_lawful n (2 ^ n - 1) (omega (arith, pow_pos n)) in
    record {
      small = λ c l. let p : 2 ^ n ≤ 2 ^ 16 = pow_mono h in omega (arith, lawful_fits n c l);
      within = λ c i _ _. bit_le c i;
      same = λ a b la lb e. same_from_bits_below n a b (lawful_fits n a la) (lawful_fits n b lb) e;
      join_lawful = λ a b la lb. fits_lawful n (bit_and a b) (and_lt n a b (lawful_fits n a la) (lawful_fits n b lb));
      join_level = λ a b i _ _ _. bit_at_and a b i;
      erased_lawful = ones;
      erased_top = λ i q. bit_at_ones n i q;
      torn_lawful = λ c l. l;
      torn_erase_lawful = ones;
    }

-- a stored number, cut to n bits, is lawful
pub cut_lawful : (n x : ℕ) → (binary_kind n).lawful (x % 2 ^ n) ≡ true
cut_lawful n x = fits_lawful n (x % 2 ^ n) (mod_below x (2 ^ n) (pow_pos n))
