-- What the library does not say of the single bits of a number. Assumes nothing.
use Rattle.std.specs.Prelude.{◌≡◌, ℕ, zero, suc, ◌-◌, ◌/◌, ◌%◌, ◌^◌, ◌<◌, ◌≤◌, min, max, refl}
use Rattle.std.proofs.Common.{sym, ap, ◌∙◌, one-add, arith}
use Rattle.std.specs.Int.{bit_at}
use Rattle.std.specs.Int.Bits.{bit_and, bit_or, bit_xor, differ, and_step, or_step, xor_step}
use Rattle.std.proofs.lemmas.Nat.{shr-shr, xor_shr}
use Rattle.std.proofs.lemmas.Nat.Bits.{bit_at-lt}

pub bit_le : (n i : ℕ) → bit_at n i ≤ 1
bit_le n i = omega (arith, bit_at-lt n i)

and_odd : (a b : ℕ) → bit_and a b % 2 ≡ min (a % 2) (b % 2)
and_odd a b = omega (arith, and_step a b)

or_odd : (a b : ℕ) → bit_or a b % 2 ≡ max (a % 2) (b % 2)
or_odd a b = omega (arith, or_step a b)

-- two digits that differ
differ_is : (a b : ℕ) → a < 2 → b < 2 → differ a b ≡ max a b - min a b
differ_is zero zero h k = refl
differ_is zero (suc zero) h k = refl
differ_is (suc zero) zero h k = refl
differ_is (suc zero) (suc zero) h k = refl
differ_is zero (suc (suc b)) h k = absurd (omega arith)
differ_is (suc zero) (suc (suc b)) h k = absurd (omega arith)
differ_is (suc (suc a)) b h k = absurd (omega arith)

xor_odd : (a b : ℕ) → bit_xor a b % 2 ≡ max (a % 2) (b % 2) - min (a % 2) (b % 2)
xor_odd a b = omega (arith, xor_step a b, differ_is (a % 2) (b % 2) (omega arith) (omega arith))

-- bit i + 1 of n is bit i of its half
bit_suc : (n i : ℕ) → bit_at n (suc i) ≡ bit_at (n / 2) i
bit_suc n i = ap (λ (x : ℕ). n / 2 ^ x % 2) (sym (one-add i)) ∙ ap (λ (x : ℕ). x % 2) (sym (shr-shr n 1 i))

pub bit_of_xor : (a b i : ℕ) → bit_at (bit_xor a b) i ≡ max (bit_at a i) (bit_at b i) - min (bit_at a i) (bit_at b i)
bit_of_xor a b i = ap (λ (x : ℕ). x % 2) (xor_shr a b i) ∙ xor_odd (a / 2 ^ i) (b / 2 ^ i)
