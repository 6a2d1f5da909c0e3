-- What `{:02X}` and `{:04X}` print of a byte and of a code. Assumes nothing.
use Rattle.std.proofs.Common.{◌≡◌, ℕ, suc, ◌-◌, ◌/◌, ◌%◌, ◌^◌, ◌<◌, ◌≤◌, Bool, true, false, cond, eqb, List, [], ◌∷◌, ◌++◌, sym, ap, ◌∙◌, arith, eq-eqb, ne_eqb}
use Rattle.std.proofs.Math.Logic.{⊎_elim}
use Rattle.std.proofs.Math.Utf8.{encode}
use Rattle.std.proofs.lemmas.Bool.{cases_lt}
use Rattle.std.proofs.lemmas.Bool.Decides.{nat_tests}
use Rattle.std.proofs.lemmas.Str.{encode_ascii}
use Rattle.std.proofs.lemmas.Fmt as fmt
use Rattle.std.specs.Fmt.{digits, digits_onto, padded_integral, char_count, format_spec}
use Rattle.records.specs.Texts.{hex_digit, hex_byte}

ascii : (d : ℕ) → d < 16 → hex_digit d < 128
ascii d h = grind (arith, nat_tests)

one_byte : (d : ℕ) → d < 16 → encode (hex_digit d) ≡ hex_digit d ∷ []
one_byte d h = encode_ascii (hex_digit d) (ascii d h)

byte_digits : (n : ℕ) → n < 256 → hex_byte n ≡ hex_digit (n / 16) ∷ hex_digit (n % 16) ∷ []
byte_digits n h = rw (one_byte (n / 16) (omega arith), one_byte (n % 16) (omega arith))

pub byte_printed : (n : ℕ) → n < 256 → padded_integral (format_spec 32 0 4 2 (2 ^ 64 - 1)) false [] (digits 16 true n) ≡ hex_byte n
byte_printed n h = fmt.hex_byte true n h ∙ sym (byte_digits n h)

code_digits : (n : ℕ) → n < 65536 → hex_byte (n / 256) ++ hex_byte (n % 256) ≡ hex_digit (n / 256 / 16) ∷ hex_digit (n / 256 % 16) ∷ hex_digit (n % 256 / 16) ∷ hex_digit (n % 256 % 16) ∷ []
code_digits n h = rw (byte_digits (n / 256) (omega arith), byte_digits (n % 256) (omega arith))

-- one digit of at most k + 1, before those that follow it
module _ (k n : ℕ) (acc : List ℕ) where
  by_test : (t : Bool) → eqb (n / 16) 0 ≡ t → digits_onto (suc k) 16 true n acc ≡ cond t (hex_digit (n % 16) ∷ acc) (digits_onto k 16 true (n / 16) (hex_digit (n % 16) ∷ acc))
  by_test t e = ap (λ (b : Bool). cond b (hex_digit (n % 16) ∷ acc) (digits_onto k 16 true (n / 16) (hex_digit (n % 16) ∷ acc))) e

  last : n / 16 ≡ 0 → digits_onto (suc k) 16 true n acc ≡ hex_digit (n % 16) ∷ acc
  last e = by_test true (eq-eqb _ 0 e)

  more : (n / 16 ≡ 0 → ⊥) → digits_onto (suc k) 16 true n acc ≡ digits_onto k 16 true (n / 16) (hex_digit (n % 16) ∷ acc)
  more e = by_test false (ne_eqb _ 0 e)

three_digits : (n : ℕ) → 256 ≤ n → n < 4096 → digits 16 true n ≡ hex_digit (n / 16 / 16 % 16) ∷ hex_digit (n / 16 % 16) ∷ hex_digit (n % 16) ∷ []
unfolding digits
three_digits n large small = more 63 n _ (omega arith) ∙ more 62 (n / 16) _ (omega arith) ∙ last 61 (n / 16 / 16) _ (omega arith)

four_digits : (n : ℕ) → 4096 ≤ n → n < 65536 → digits 16 true n ≡ hex_digit (n / 16 / 16 / 16 % 16) ∷ hex_digit (n / 16 / 16 % 16) ∷ hex_digit (n / 16 % 16) ∷ hex_digit (n % 16) ∷ []
unfolding digits
four_digits n large small = more 63 n _ (omega arith) ∙ more 62 (n / 16) _ (omega arith) ∙ more 61 (n / 16 / 16) _ (omega arith) ∙ last 60 (n / 16 / 16 / 16) _ (omega arith)

padded : (n : ℕ) → n < 65536 → padded_integral (format_spec 32 0 4 4 (2 ^ 64 - 1)) false [] (digits 16 true n) ≡ hex_digit (n / 256 / 16) ∷ hex_digit (n / 256 % 16) ∷ hex_digit (n % 256 / 16) ∷ hex_digit (n % 256 % 16) ∷ []
unfolding padded_integral char_count
padded n h =
    let low : n % 256 % 16 ≡ n % 16 = omega arith in
    let second : n % 256 / 16 ≡ n / 16 % 16 = omega arith in
    let third : n / 256 % 16 ≡ n / 16 / 16 % 16 = omega arith in
    let high : n / 256 / 16 ≡ n / 16 / 16 / 16 % 16 = omega arith in
    rw (low, second, third, high)
    (⊎_elim
    (λ one. let a : n / 16 ≡ 0 = omega arith in let b : n % 16 ≡ n = omega arith in rw (fmt.hex_one_digit true n one, a, b))
    (λ more. ⊎_elim
    (λ two. let a : n / 16 / 16 ≡ 0 = omega arith in let b : n / 16 % 16 ≡ n / 16 = omega arith in rw (fmt.hex_two_digits true n more two, a, b))
    (λ more. ⊎_elim
    (λ three. let a : n / 16 / 16 / 16 ≡ 0 = omega arith in rw (three_digits n more three, a))
    (λ four. rw (four_digits n four h))
    (cases_lt n 4096)) (cases_lt n 256)) (cases_lt n 16))

pub code_printed : (n : ℕ) → n < 65536 → padded_integral (format_spec 32 0 4 4 (2 ^ 64 - 1)) false [] (digits 16 true n) ≡ hex_byte (n / 256) ++ hex_byte (n % 256)
code_printed n h = padded n h ∙ sym (code_digits n h)
