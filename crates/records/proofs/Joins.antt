-- Joined records are read as their calls. Assumes nothing.
use Rattle.std.proofs.Common.{◌≡◌, ℕ, zero, suc, ◌+◌, ◌-◌, ◌<◌, ◌≤◌, List, [], ◌∷◌, ◌++◌, length, None, Ok, Err, sym, refl, ap, ◌∙◌, append_assoc, append-nil, arith, length-append}
use Rattle.records.specs.declared.call.Call.{Call}
use Rattle.records.specs.declared.call.Call.TheVariants.{Command, Address, Write, Read, Protect, Settle, Look}
use Rattle.records.specs.Records.{First, record_of, first}
use Rattle.records.specs.Readings.{joined, Reading, Outcome, after, at_end, go_on, read_most, reading}
use Rattle.records.proofs.Firsts.{first_joined}

-- the mark alone has two bytes
two_or_more : (call : Call) → 2 ≤ length (record_of call)
two_or_more (Command b) = omega arith
two_or_more (Address b) = omega arith
two_or_more (Write b) = omega arith
two_or_more Read = omega arith
two_or_more (Protect b) = omega arith
two_or_more Settle = omega arith
two_or_more (Look r c) = omega arith

-- calls in front of an outcome
abbrev afters : List Call → Outcome → Outcome
afters [] o = o
afters (c ∷ cs) o = after c (afters cs o)

-- more fuel than records
read_joined : (cs : List Call) (k n : ℕ) (rest : List ℕ) → n ≡ length cs + k → read_most n (joined cs ++ rest) ≡ afters cs (read_most k rest)
unfolding read_most
read_joined [] k n rest e = let z : n ≡ k = omega arith in ap (λ (m : ℕ). read_most m rest) z
read_joined (c ∷ cs) k zero rest e = absurd (omega arith)
read_joined (c ∷ cs) k (suc n) rest e =
    let tail = joined cs ++ rest in
    ap (λ (t : List ℕ). read_most (suc n) t) (append_assoc (record_of c) (joined cs) rest)
    ∙ ap (λ (f : First). go_on (read_most n) (at_end (record_of c ++ tail)) f) (first_joined c tail)
    ∙ ap (after c) (read_joined cs k n rest (omega arith))

-- where no record begins, the reading ends
read_end : (k : ℕ) (rest : List ℕ) → first rest ≡ None → read_most k rest ≡ at_end rest
unfolding read_most
read_end zero rest e = refl
read_end (suc k) rest e = ap (λ (f : First). go_on (read_most k) (at_end rest) f) e

fewer : (cs : List Call) → length cs ≤ length (joined cs)
fewer [] = omega arith
fewer (c ∷ cs) = omega (arith, length-append (record_of c) (joined cs), two_or_more c, fewer cs)

reading_ends : (cs : List Call) (rest : List ℕ) → first rest ≡ None → reading (joined cs ++ rest) ≡ afters cs (at_end rest)
unfolding reading
reading_ends cs rest e =
    let k = length (joined cs ++ rest) - length cs in
    let sum : length (joined cs ++ rest) ≡ length cs + k = omega (arith, length-append (joined cs) rest, fewer cs) in
    read_joined cs k (length (joined cs ++ rest)) rest sum ∙ ap (afters cs) (read_end k rest e)

afters_ok : (cs : List Call) → ◌≡◌ {A = Outcome} (afters cs (Ok [])) (Ok cs)
afters_ok [] = refl
afters_ok (c ∷ cs) = ap (after c) (afters_ok cs)

afters_err : (cs : List Call) → ◌≡◌ {A = Outcome} (afters cs (Err 0)) (Err (length (joined cs)))
afters_err [] = refl
afters_err (c ∷ cs) = ap (after c) (afters_err cs) ∙ ap (λ (n : ℕ). Err n) (sym (length-append (record_of c) (joined cs)))

-- joined records, and nothing more, are read as their calls
pub reading_joined : (cs : List Call) → ◌≡◌ {A = Outcome} (reading (joined cs)) (Ok cs)
reading_joined cs = ap reading (sym (append-nil (joined cs))) ∙ reading_ends cs [] refl ∙ afters_ok cs

-- a bad record after joined records
pub reading_broken : (cs : List Call) (rest : List ℕ) → 0 < length rest → first rest ≡ None → ◌≡◌ {A = Outcome} (reading (joined cs ++ rest)) (Err (length (joined cs)))
reading_broken cs [] h e = absurd (omega arith)
reading_broken cs (b ∷ rest) h e = reading_ends cs (b ∷ rest) e ∙ afters_err cs

-- two readings of one trace are the same
pub one_reading : (t : List ℕ) (cs ds : List Call) → Reading t cs → Reading t ds → cs ≡ ds
one_reading t cs ds p q =
    let a = reading_joined cs in
    let b = reading_joined ds in
    let same : reading (joined cs) ≡ reading (joined ds) = ap reading (sym p ∙ q) in
    cc

-- a trace whose reading is refused has none
pub no_reading : (t : List ℕ) (n : ℕ) (cs : List Call) → reading t ≡ Err n → Reading t cs → ⊥
no_reading t n cs e p =
    let a = reading_joined cs in
    let same : reading t ≡ reading (joined cs) = ap reading p in
    let z : ◌≡◌ {A = ℕ} 0 1 = cc in
    omega arith
