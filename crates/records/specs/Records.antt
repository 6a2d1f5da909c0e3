-- The record of a call: its bytes, and the first record of a trace. Assumes nothing.
use Rattle.std.specs.Prelude.{◌≡◌, ℕ, ◌+◌, ◌*◌, ◌/◌, ◌%◌, Bool, true, cond, ◌&&◌, List, [], ◌∷◌, ◌++◌, Some, None, Option, ◌==◌, nat_lt}
use Rattle.records.specs.declared.call.Call.{Call}
use Rattle.records.specs.declared.call.Call.TheVariants.{Command, Address, Write, Read, Protect, Settle, Look}

-- the bytes of a call's record: a mark of two letters, then the payload, low byte first. The marks are CM, AD, DI, DO, WP, ST and LK.
-- The highest part of a number is not cut to a byte, so the list gives back every number; of a row of 2^24 or more it is no list of bytes.
abbrev pub record_of : Call → List ℕ
record_of (Command byte) = 67 ∷ 77 ∷ byte ∷ []
record_of (Address byte) = 65 ∷ 68 ∷ byte ∷ []
record_of (Write code) = 68 ∷ 73 ∷ code % 256 ∷ code / 256 ∷ []
record_of Read = 68 ∷ 79 ∷ []
record_of (Protect level) = 87 ∷ 80 ∷ level ∷ []
record_of Settle = 83 ∷ 84 ∷ []
record_of (Look row column) = 76 ∷ 75 ∷ row % 256 ∷ row / 256 % 256 ∷ row / 65536 ∷ column % 256 ∷ column / 256 ∷ []

-- a call can be written unless it looks at a row of 2^24 or more, for which three bytes are too few
abbrev pub writable : Call → Bool
writable (Command byte) = true
writable (Address byte) = true
writable (Write code) = true
writable Read = true
writable (Protect level) = true
writable Settle = true
writable (Look row column) = nat_lt row 16777216

-- a call and the bytes that follow its record, or none
abbrev pub First : Type 0
First = Option (Call × List ℕ)

-- the payloads, after their marks
abbrev pub byte_payload : (ℕ → Call) → List ℕ → First
byte_payload call [] = None
byte_payload call (byte ∷ rest) = Some (call byte, rest)

abbrev pub code_payload : List ℕ → First
code_payload [] = None
code_payload (low ∷ []) = None
code_payload (low ∷ high ∷ rest) = Some (Write (low + 256 * high), rest)

abbrev pub place_payload : List ℕ → First
place_payload [] = None
place_payload (r0 ∷ []) = None
place_payload (r0 ∷ r1 ∷ []) = None
place_payload (r0 ∷ r1 ∷ r2 ∷ []) = None
place_payload (r0 ∷ r1 ∷ r2 ∷ c0 ∷ []) = None
place_payload (r0 ∷ r1 ∷ r2 ∷ c0 ∷ c1 ∷ rest) = Some (Look (r0 + 256 * r1 + 65536 * r2) (c0 + 256 * c1), rest)

-- whether two letters are this mark
abbrev pub marks : ℕ → ℕ → ℕ → ℕ → Bool
marks m n a b = m == a && n == b

-- the first record of a trace; none where its mark is unknown or it is short
abbrev pub first : List ℕ → First
first [] = None
first (m ∷ []) = None
first (m ∷ n ∷ rest) =
    cond (marks m n 67 77) (byte_payload Command rest)
    (cond (marks m n 65 68) (byte_payload Address rest)
    (cond (marks m n 68 73) (code_payload rest)
    (cond (marks m n 68 79) (Some (Read, rest))
    (cond (marks m n 87 80) (byte_payload Protect rest)
    (cond (marks m n 83 84) (Some (Settle, rest))
    (cond (marks m n 76 75) (place_payload rest) None))))))

-- the trace begins with the record of the call, which can be written, and the rest follows
pub record Begins (trace : List ℕ) (call : Call) (rest : List ℕ) : Type 0 where
  pub joins : trace ≡ record_of call ++ rest
  pub narrow : writable call ≡ true
