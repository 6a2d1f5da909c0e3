-- A call as text for people. Assumes nothing.
use Rattle.std.specs.Prelude.{ℕ, ◌+◌, ◌/◌, ◌%◌, cond, List, ◌++◌, codes, decimal, nat_lt}
use Rattle.std.proofs.Math.Utf8.{encode}
use Rattle.records.specs.declared.call.Call.{Call}
use Rattle.records.specs.declared.call.Call.TheVariants.{Command, Address, Write, Read, Protect, Settle, Look}

-- a hexadecimal digit, 0 to 9 and A to F
abbrev pub hex_digit : ℕ → ℕ
hex_digit n = cond (nat_lt n 10) (48 + n) (55 + n)

-- a byte as two hexadecimal digits; `encode` gives the bytes of a character
abbrev pub hex_byte : ℕ → List ℕ
hex_byte n = encode (hex_digit (n / 16)) ++ encode (hex_digit (n % 16))

-- the mark and the payload, as 'CM 80' or 'LK row 12 column 3'
abbrev pub text_of : Call → List ℕ
text_of (Command byte) = codes "CM " ++ hex_byte byte
text_of (Address byte) = codes "AD " ++ hex_byte byte
text_of (Write code) = codes "DI " ++ (hex_byte (code / 256) ++ hex_byte (code % 256))
text_of Read = codes "DO"
text_of (Protect level) = codes "WP " ++ hex_byte level
text_of Settle = codes "ST"
text_of (Look row column) = codes "LK row " ++ (decimal row ++ (codes " column " ++ decimal column))
