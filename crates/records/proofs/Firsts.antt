-- The first record of a trace that begins with the record of a call. Assumes nothing.
use Rattle.std.proofs.Common.{◌≡◌, ℕ, ◌+◌, ◌*◌, ◌/◌, ◌%◌, List, ◌++◌, Some, refl, ap, arith}
use Rattle.records.specs.declared.call.Call.{Call}
use Rattle.records.specs.declared.call.Call.TheVariants.{Command, Address, Write, Read, Protect, Settle, Look}
use Rattle.records.specs.Records.{First, record_of, first}

-- a record is read as its call, whatever follows
pub first_joined : (call : Call) (rest : List ℕ) → ◌≡◌ {A = First} (first (record_of call ++ rest)) (Some (call, rest))
first_joined (Command byte) rest = refl
first_joined (Address byte) rest = refl
first_joined (Write code) rest =
    let whole : code % 256 + 256 * (code / 256) ≡ code = omega arith in
    ap (λ (c : ℕ). Some (Write c, rest)) whole
first_joined Read rest = refl
first_joined (Protect level) rest = refl
first_joined Settle rest = refl
first_joined (Look row column) rest =
    let rows : row % 256 + 256 * (row / 256 % 256) + 65536 * (row / 65536) ≡ row = omega arith in
    let columns : column % 256 + 256 * (column / 256) ≡ column = omega arith in
    cc
