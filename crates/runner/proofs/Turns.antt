-- What one turn of `run` keeps, and how it ends. Assumes nothing.
use Rattle.std.proofs.Common.{◌≡◌, ℕ, ◌+◌, ◌-◌, ◌<◌, ◌≤◌, true, false, not, ◌&&◌, eqb, leb, ◌⊎◌, List, [], ◌∷◌, ◌++◌, length, take, drop, Some, None, Ok, Err, sym, refl, ap, ◌∙◌, subst, inl, inr, ⊎_elim, append_assoc, arith, length-append, length-drop, eqb-true, leb-false, leb-true}
use borrow.Author.Tests.{eqb-false}
use Rattle.std.proofs.lemmas.Bool.{and_parts, and_cases, not-true, not-false}
use Rattle.std.proofs.lemmas.List.{take_at, drop_at, drop-drop, length-take-le, take-append-drop}
use Rattle.records.specs.Records.{first}
use Rattle.words.specs.Kind.{Kind}
use Rattle.rules.specs.declared.control.Opening.{Opening}
use Rattle.rules.specs.Answering.{Answer}
use Rattle.rules.specs.Running.{Chip, Event, Step}
use Rattle.runner.specs.Results.{result_bytes, bad_bytes}
use Rattle.runner.specs.Played.{Plays, ended, bad, one, Ran}

pub four : (a : Answer) → length (result_bytes a) ≡ 4
four (Ok v) = refl
four (Err e) = refl

-- one more record is looked at
pub record Turn (left : List ℕ) (room : ℕ) : Type 0 where
  pub some : 0 < length left
  pub roomy : 4 ≤ room

pub goes : (left : List ℕ) (room : ℕ) → true ≡ (not (eqb (length left) 0) && leb 4 room) → Turn left room
goes left room e =
    let p = and_parts _ _ (sym e) in
    let some : (length left ≡ 0 → ⊥) = eqb-false (length left) 0 (not-true (eqb (length left) 0) p.0) in
    record { some = omega (arith, some); roomy = leb-true 4 room p.1 }

pub stops : (left : List ℕ) (room : ℕ) → false ≡ (not (eqb (length left) 0) && leb 4 room) → (length left ≡ 0) ⊎ (room < 4)
stops left room e =
    ⊎_elim (λ p. inl (eqb-true (length left) 0 (not-false (eqb (length left) 0) p))) (λ q. inr (leb-false 4 room q)) (and_cases (not (eqb (length left) 0)) (leb 4 room) (sym e))

-- the front of what is written, and what follows it
module _ (out bytes tail : List ℕ) (w k : ℕ) (within : w ≤ length out) (size : length bytes ≡ k) where
  len : length (take w out ++ bytes) ≡ w + k
  len = length-append (take w out) bytes ∙ ap (λ (n : ℕ). n + length bytes) (length-take-le w out within) ∙ ap (λ (n : ℕ). w + n) size

  front : take (w + k) (take w out ++ (bytes ++ tail)) ≡ take w out ++ bytes
  front = ap (take (w + k)) (sym (append_assoc (take w out) bytes tail)) ∙ take_at (take w out ++ bytes) tail (w + k) len

  back : drop (w + k) (take w out ++ (bytes ++ tail)) ≡ tail
  back = ap (drop (w + k)) (sym (append_assoc (take w out) bytes tail)) ∙ drop_at (take w out ++ bytes) tail (w + k) len

module _ (K : Kind) (o : Opening) where
  -- So far c₀ went to c and t₀ to rest, and `written` result bytes stand at the front of out. What the rest comes to, the whole comes to with that in front.
  pub record Sofar (c0 : Chip) (t0 out0 : List ℕ) (c : Chip) (rest out : List ℕ) (written : ℕ) : Type 0 where
    pub shorter : length rest ≤ length t0
    pub room : written ≤ length out0
    pub same : length out ≡ length out0
    pub kept : drop written out ≡ drop written out0
    pub before : List Event
    pub goes_on : (es : List Event) (bytes : List ℕ) (used : ℕ) (n : Chip) → Plays K o c rest (length out0 - written) es bytes used n
        → Plays K o c0 t0 (length out0) (before ++ es) (take written out ++ bytes) ((length t0 - length rest) + used) n

  pub start : (c : Chip) (t out : List ℕ) → Sofar c t out c t out 0
  start c t out = record {
    shorter = omega arith;
    room = omega arith;
    same = refl;
    kept = refl;
    before = [];
    goes_on = λ es bytes used n p.
        let r : length out - 0 ≡ length out = omega arith in
        let u : used ≡ (length t - length t) + used = omega arith in
        subst (λ (k : ℕ). Plays K o c t (length out) es bytes k n) u (subst (λ (k : ℕ). Plays K o c t k es bytes used n) r p);
  }

  module _ (c0 : Chip) (t0 out0 : List ℕ) (c : Chip) (rest out : List ℕ) (written : ℕ) (so : Sofar c0 t0 out0 c rest out written) where
    within : written ≤ length out
    within = omega (arith, so.same, so.room)

    -- what lies past k more bytes is as it was
    past : (k : ℕ) → drop (written + k) out ≡ drop (written + k) out0
    past k = sym (drop-drop k written out) ∙ ap (drop k) so.kept ∙ drop-drop k written out0

    pub one_more : (e : Event) (c' : Chip) (next after : List ℕ) → 4 ≤ length out0 - written → first rest ≡ Some (e.call, next) → length next < length rest
        → Step K o c e c' → after ≡ take written out ++ (result_bytes e.answer ++ drop (written + 4) out) → Sofar c0 t0 out0 c' next after (written + 4)
    one_more e c' next after h f less s told =
        let bs : List ℕ = result_bytes e.answer in
        let fr : take (written + 4) after ≡ take written out ++ bs = ap (take (written + 4)) told ∙ front out bs (drop (written + 4) out) written 4 within (four e.answer) in
        let bk : drop (written + 4) after ≡ drop (written + 4) out = ap (drop (written + 4)) told ∙ back out bs (drop (written + 4) out) written 4 within (four e.answer) in
        record {
          shorter = omega (arith, so.shorter);
          room = omega arith;
          same =
              ap length told ∙ length-append (take written out) (bs ++ drop (written + 4) out)
              ∙ (let p = length-take-le written out within in
              let q = length-append bs (drop (written + 4) out) in
              let d = length-drop (written + 4) out in
              omega (arith, p, q, d, four e.answer, so.same, so.room));
          kept = bk ∙ past 4;
          before = so.before ++ (e ∷ []);
          goes_on = λ es bytes used n p.
              let r : length out0 - (written + 4) ≡ (length out0 - written) - 4 = omega arith in
              let p2 = subst (λ (k : ℕ). Plays K o c' next k es bytes used n) r p in
              let q = so.goes_on (e ∷ es) (bs ++ bytes) ((length rest - length next) + used) n (one h f s p2) in
              let u : (length t0 - length rest) + ((length rest - length next) + used) ≡ (length t0 - length next) + used = omega (arith, so.shorter) in
              let b : take written out ++ (bs ++ bytes) ≡ take (written + 4) after ++ bytes = sym (append_assoc (take written out) bs bytes) ∙ ap (λ (l : List ℕ). l ++ bytes) (sym fr) in
              let v : so.before ++ (e ∷ es) ≡ (so.before ++ (e ∷ [])) ++ es = sym (append_assoc so.before (e ∷ []) es) in
              subst (λ (l : List Event). Plays K o c0 t0 (length out0) l (take (written + 4) after ++ bytes) ((length t0 - length next) + used) n) v
              (subst (λ (l : List ℕ). Plays K o c0 t0 (length out0) (so.before ++ (e ∷ es)) l ((length t0 - length next) + used) n) b
              (subst (λ (k : ℕ). Plays K o c0 t0 (length out0) (so.before ++ (e ∷ es)) (take written out ++ (bs ++ bytes)) k n) u q));
        }

    -- the run ends here, with these bytes more
    pub finish : (bytes after : List ℕ) (k : ℕ) → Plays K o c rest (length out0 - written) [] bytes 0 c → length bytes ≡ k
        → after ≡ take written out ++ (bytes ++ drop (written + k) out) → Ran K o c0 t0 out0 (length t0 - length rest) (written + k) after c
    finish bytes after k p size told = record {
      events = so.before ++ [];
      bytes = take written out ++ bytes;
      plays =
          let u : (length t0 - length rest) + 0 ≡ length t0 - length rest = omega arith in
          subst (λ (i : ℕ). Plays K o c0 t0 (length out0) (so.before ++ []) (take written out ++ bytes) i c) u (so.goes_on [] bytes 0 c p);
      count = sym (len out bytes [] written k within size);
      stands = told ∙ sym (append_assoc (take written out) bytes (drop (written + k) out)) ∙ ap (λ (l : List ℕ). (take written out ++ bytes) ++ l) (past k);
    }

    -- nothing more is written
    pub no_more : Plays K o c rest (length out0 - written) [] [] 0 c → Ran K o c0 t0 out0 (length t0 - length rest) written out c
    no_more p =
        let z : written + 0 ≡ written = omega arith in
        let told : out ≡ take written out ++ drop (written + 0) out = sym (take-append-drop written out) ∙ ap (λ (n : ℕ). take written out ++ drop n out) (sym z) in
        subst (λ (k : ℕ). Ran K o c0 t0 out0 (length t0 - length rest) k out c) z (finish [] out 0 p refl told)

  pub plays_bad : (c : Chip) (t : List ℕ) (room : ℕ) → 4 ≤ room → 0 < length t → first t ≡ None → Plays K o c t room [] bad_bytes 0 c
  plays_bad c (b ∷ t) room h l e = bad h e
  plays_bad c [] room h l e = absurd (omega arith)

  pub plays_ended : (c : Chip) (t : List ℕ) (room : ℕ) → length t ≡ 0 → Plays K o c t room [] [] 0 c
  plays_ended c [] room e = ended
  plays_ended c (b ∷ t) room e = absurd (omega arith)
