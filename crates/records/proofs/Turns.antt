-- What one turn of the writer keeps, and what its ends come to. Assumes nothing.
use Rattle.std.proofs.Common.{◌≡◌, ℕ, ◌+◌, ◌-◌, ◌<◌, ◌≤◌, Bool, true, false, cond, leb, List, [], ◌∷◌, ◌++◌, length, get_or, take, drop, Some, None, Ok, Option, sym, refl, ap, ◌∙◌, subst, append_assoc, arith, length-append, leb-true}
use Rattle.std.proofs.lemmas.List.{take_at, drop_at, drop-drop, take_more, drop_more, drop_all}
use Rattle.std.proofs.lemmas.Bool.{and_parts}
use Rattle.records.specs.declared.call.Call.{Call}
use Rattle.records.specs.declared.call.Call.TheVariants.{Command}
use Rattle.records.specs.Records.{record_of, writable}
use Rattle.records.specs.Readings.{joined, Reading, Outcome, reading}
use Rattle.records.specs.Writings.{fits, size_in, how_many}
use Rattle.records.proofs.Joins.{reading_joined, one_reading}
use Rattle.records.proofs.Progress.{joined_push}

-- so many calls are written, in so many bytes
pub record Wrote (calls : List Call) (was : List ℕ) (count written : ℕ) (out : List ℕ) : Type 0 where
  pub within : count ≤ length calls
  pub bytes : written ≡ length (joined (take count calls))
  pub room : written ≤ length was
  pub stands : out ≡ joined (take count calls) ++ drop written was
  -- what is to come is as if the writer began here
  pub to_come : how_many calls (length was) ≡ count + how_many (drop count calls) (length was - written)

start : (calls : List Call) (out : List ℕ) → Wrote calls out 0 0 out
start calls out = record {
  within = omega arith;
  bytes = refl;
  room = omega arith;
  stands = refl;
  to_come =
      let r : length out ≡ length out - 0 = omega arith in
      let z : how_many calls (length out - 0) ≡ 0 + how_many calls (length out - 0) = omega arith in
      ap (how_many calls) r ∙ z;
}

-- what a size in a room says of its call
pub sized : (b : Bool) (k n : ℕ) → ◌≡◌ {A = Option ℕ} (Some n) (cond b (Some k) None) → (b ≡ true) × (n ≡ k)
sized true k n e = (refl, cc)
sized false k n e = absurd (let z : ◌≡◌ {A = ℕ} 0 1 = cc in omega arith)

unsized : (b : Bool) (k : ℕ) → ◌≡◌ {A = Option ℕ} None (cond b (Some k) None) → b ≡ false
unsized true k e = absurd (let z : ◌≡◌ {A = ℕ} 0 1 = cc in omega arith)
unsized false k e = refl

module _ (calls : List Call) (was : List ℕ) (count written : ℕ) (out : List ℕ) (so : Wrote calls was count written out) where
  abbrev left : ℕ
  left = length was - written

  front : take written out ≡ joined (take count calls)
  front = ap (take written) so.stands ∙ take_at (joined (take count calls)) (drop written was) written (sym so.bytes)

  back : drop written out ≡ drop written was
  back = ap (drop written) so.stands ∙ drop_at (joined (take count calls)) (drop written was) written (sym so.bytes)

  -- what becomes of the next call
  step : (call : Call) (b : Bool) → count < length calls → get_or calls count (Command 0) ≡ call → fits call left ≡ b → how_many (drop count calls) left ≡ cond b (1 + how_many (drop (count + 1) calls) (left - length (record_of call))) 0
  unfolding how_many
  step call b h e f =
      ap (λ (cs : List Call). how_many cs left) (drop_more calls count (Command 0) h ∙ ap (λ (c : Call). c ∷ drop (count + 1) calls) e)
      ∙ ap (λ (v : Bool). cond v (1 + how_many (drop (count + 1) calls) (left - length (record_of call))) 0) f

  one_more : (call : Call) (size : ℕ) (after : List ℕ) → count < length calls → get_or calls count (Command 0) ≡ call → Some size ≡ size_in call left → after ≡ take written out ++ (record_of call ++ drop (written + length (record_of call)) out) → Wrote calls was (count + 1) (written + size) after
  one_more call size after h e f a =
      let found = sized (fits call left) (length (record_of call)) size f in
      let s = found.1 in
      let long = leb-true (length (record_of call)) left (and_parts (writable call) (leb (length (record_of call)) left) found.0).1 in
      let rec = record_of call in
      let more : joined (take (count + 1) calls) ≡ joined (take count calls) ++ rec = ap joined (take_more calls count (Command 0) h ∙ ap (λ (c : Call). take count calls ++ c ∷ []) e) ∙ joined_push (take count calls) call in
      let sums : length (joined (take (count + 1) calls)) ≡ length (joined (take count calls)) + length rec = ap length more ∙ length-append (joined (take count calls)) rec in
      let past : drop (written + length rec) out ≡ drop (written + size) was =
      sym (drop-drop (length rec) written out) ∙ ap (drop (length rec)) back ∙ drop-drop (length rec) written was ∙ ap (λ (n : ℕ). drop (written + n) was) (sym s) in
      let rooms : left - length rec ≡ length was - (written + size) = omega arith in
      record {
        within = omega arith;
        bytes = omega (arith, so.bytes);
        room = omega (arith, so.room);
        stands =
            a ∙ ap (λ (l : List ℕ). l ++ (rec ++ drop (written + length rec) out)) front
            ∙ ap (λ (l : List ℕ). joined (take count calls) ++ (rec ++ l)) past
            ∙ sym (append_assoc (joined (take count calls)) rec (drop (written + size) was))
            ∙ ap (λ (l : List ℕ). l ++ drop (written + size) was) (sym more);
        to_come =
            let turn = step call true h e found.0 ∙ ap (λ (n : ℕ). 1 + how_many (drop (count + 1) calls) n) rooms in
            omega (arith, so.to_come, turn);
      }

  -- nothing more is written
  ends : how_many (drop count calls) left ≡ 0 → count ≡ how_many calls (length was)
  ends z = omega (arith, so.to_come)

  stops : count < length calls → None ≡ size_in (get_or calls count (Command 0)) left → count ≡ how_many calls (length was)
  stops h e =
      let call = get_or calls count (Command 0) in
      ends (step call false h refl (unsized (fits call left) (length (record_of call)) e))

  all_done : length calls ≤ count → count ≡ how_many calls (length was)
  unfolding how_many
  all_done h = ends (ap (λ (cs : List Call). how_many cs left) (drop_all count calls h))

-- what is promised of the bytes, at this count
pub record Stands (calls : List Call) (was : List ℕ) (count written : ℕ) (out : List ℕ) : Type 0 where
  pub bytes : written ≡ length (joined (take count calls))
  pub after : out ≡ joined (take count calls) ++ drop written was
  pub back : ◌≡◌ {A = Outcome} (reading (take written out)) (Ok (take count calls))
  pub only : (others : List Call) → Reading (take written out) others → others ≡ take count calls

-- what the writer needs where it stops, before a call or after the last
pub record Turn (calls : List Call) (was : List ℕ) (count written : ℕ) (out : List ℕ) : Type 0 where
  pub wrote : Wrote calls was count written out
  pub room : written ≤ length was
  pub within : count ≤ length calls
  pub stands : Stands calls was count written out
  pub stop : count < length calls → ◌≡◌ {A = Option ℕ} None (size_in (get_or calls count (Command 0)) (length was - written)) → count ≡ how_many calls (length was)
  pub all : length calls ≤ count → (length calls ≡ how_many calls (length was)) × Stands calls was (length calls) written out

module _ (calls : List Call) (was : List ℕ) (count written : ℕ) (out : List ℕ) where
  turn : Wrote calls was count written out → Turn calls was count written out
  turn so =
      let f = front calls was count written out so in
      let stands : Stands calls was count written out = record {
        bytes = so.bytes;
        after = so.stands;
        back = ap reading f ∙ reading_joined (take count calls);
        only = λ others p. one_reading (take written out) others (take count calls) p f;
      } in
      record {
        wrote = so;
        room = so.room;
        within = so.within;
        stands = stands;
        stop = stops calls was count written out so;
        all = λ h.
            let same : count ≡ length calls = omega (arith, so.within) in
            (sym same ∙ all_done calls was count written out so h, subst (λ (n : ℕ). Stands calls was n written out) same stands);
      }

pub turn_first : (calls : List Call) (out : List ℕ) → Turn calls out 0 0 out
turn_first calls out = turn calls out 0 0 out (start calls out)

pub turn_more : (calls : List Call) (was : List ℕ) (count written : ℕ) (out : List ℕ) (size : ℕ) (after : List ℕ) → Turn calls was count written out → count < length calls → Some size ≡ size_in (get_or calls count (Command 0)) (length was - written) → after ≡ take written out ++ (record_of (get_or calls count (Command 0)) ++ drop (written + length (record_of (get_or calls count (Command 0)))) out) → Turn calls was (count + 1) (written + size) after
turn_more calls was count written out size after t h f a =
    turn calls was (count + 1) (written + size) after (one_more calls was count written out t.wrote (get_or calls count (Command 0)) size after h refl f a)
