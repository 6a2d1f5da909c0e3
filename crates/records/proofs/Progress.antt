-- What one turn of the reader keeps, and what its ends come to. Assumes nothing.
use Rattle.std.proofs.Common.{◌≡◌, ℕ, ◌-◌, ◌<◌, true, List, [], ◌∷◌, ◌++◌, length, take, drop, is_some, Some, None, Ok, Err, sym, refl, ap, ◌∙◌, append_assoc, append-nil, arith, length-append}
use Rattle.std.proofs.lemmas.List.{take_at, drop_at}
use Rattle.std.proofs.lemmas.Bool.{and_parts, and_from}
use Rattle.records.specs.declared.call.Call.{Call}
use Rattle.records.specs.Records.{First, record_of, writable, first, Begins}
use Rattle.records.specs.Readings.{joined, Reading, all_writable, Outcome, reading, Breaks, Starves}
use Rattle.records.proofs.Joins.{reading_joined, reading_broken, one_reading, no_reading}

-- the calls so far are read, and the rest is left
pub record Sofar (trace rest : List ℕ) (calls : List Call) : Type 0 where
  pub joins : trace ≡ joined calls ++ rest
  pub narrow : all_writable calls ≡ true

pub joined_push : (cs : List Call) (c : Call) → joined (cs ++ c ∷ []) ≡ joined cs ++ record_of c
joined_push [] c = append-nil (record_of c)
joined_push (d ∷ cs) c = ap (λ (l : List ℕ). record_of d ++ l) (joined_push cs c) ∙ sym (append_assoc (record_of d) (joined cs) (record_of c))

writable_push : (cs : List Call) (c : Call) → all_writable cs ≡ true → writable c ≡ true → all_writable (cs ++ c ∷ []) ≡ true
writable_push [] c h e = and_from (writable c) true e refl
writable_push (d ∷ cs) c h e =
    let both = and_parts (writable d) (all_writable cs) h in
    and_from (writable d) (all_writable (cs ++ c ∷ [])) both.0 (writable_push cs c both.1 e)

start : (t : List ℕ) → Sofar t t []
start t = record { joins = refl; narrow = refl }

one_more : (t rest next : List ℕ) (cs : List Call) (c : Call) → Sofar t rest cs → Begins rest c next → Sofar t next (cs ++ c ∷ [])
one_more t rest next cs c so b = record {
  joins =
      so.joins ∙ ap (λ (l : List ℕ). joined cs ++ l) b.joins ∙ sym (append_assoc (joined cs) (record_of c) next)
      ∙ ap (λ (l : List ℕ). l ++ next) (sym (joined_push cs c));
  narrow = writable_push cs c so.narrow b.narrow;
}

accepted : (t rest : List ℕ) (cs : List Call) → Sofar t rest cs → rest ≡ [] → Reading t cs
accepted t rest cs so e = so.joins ∙ ap (λ (l : List ℕ). joined cs ++ l) e ∙ append-nil (joined cs)

read_whole : (t : List ℕ) (cs : List Call) → Reading t cs → ◌≡◌ {A = Outcome} (reading t) (Ok cs)
read_whole t cs p = ap reading p ∙ reading_joined cs

module _ (t rest : List ℕ) (cs : List Call) (so : Sofar t rest cs) where
  -- how far it came
  count : length (joined cs) ≡ length t - length rest
  count = omega (arith, ap length so.joins, length-append (joined cs) rest)

  front : Reading (take (length t - length rest) t) cs
  front = ap (take (length t - length rest)) so.joins ∙ take_at (joined cs) rest (length t - length rest) count

  back : drop (length t - length rest) t ≡ rest
  back = ap (drop (length t - length rest)) so.joins ∙ drop_at (joined cs) rest (length t - length rest) count

  broken : 0 < length rest → first rest ≡ None → Breaks t (length t - length rest)
  broken h e =
      let value : ◌≡◌ {A = Outcome} (reading t) (Err (length t - length rest)) = ap reading so.joins ∙ reading_broken cs rest h e ∙ ap (λ (n : ℕ). Err n) count in
      record {
        value = value;
        unread = λ ds p. no_reading t (length t - length rest) ds value p;
        before = cs;
        front = front;
        left = omega (arith, ap length so.joins, length-append (joined cs) rest);
        bad = ap first back ∙ e;
      }

  starved : (p : Call × List ℕ) → first rest ≡ Some p → Starves t (length t - length rest)
  starved p e = record {
    before = cs;
    front = front;
    next = ap (λ (f : First). is_some f) (ap first back ∙ e);
  }

-- what the reader needs where it stops, for each way to stop
pub record Turn (trace rest : List ℕ) (calls : List Call) : Type 0 where
  pub sofar : Sofar trace rest calls
  pub value : rest ≡ [] → ◌≡◌ {A = Outcome} (reading trace) (Ok calls)
  pub whole : rest ≡ [] → Reading trace calls
  pub narrow : all_writable calls ≡ true
  pub breaks : 0 < length rest → ◌≡◌ {A = First} (first rest) None → Breaks trace (length trace - length rest)
  pub starves : (p : Call × List ℕ) → ◌≡◌ {A = First} (first rest) (Some p) → Starves trace (length trace - length rest)
  pub one : (cs ds : List Call) → Reading trace cs → Reading trace ds → cs ≡ ds

turn : (trace rest : List ℕ) (calls : List Call) → Sofar trace rest calls → Turn trace rest calls
turn trace rest calls so =
    let whole : rest ≡ [] → Reading trace calls = accepted trace rest calls so in
    record {
      sofar = so;
      value = λ e. read_whole trace calls (whole e);
      whole = whole;
      narrow = so.narrow;
      breaks = broken trace rest calls so;
      starves = starved trace rest calls so;
      one = one_reading trace;
    }

pub turn_first : (trace : List ℕ) → Turn trace trace []
turn_first trace = turn trace trace [] (start trace)

pub turn_more : (trace rest next : List ℕ) (calls : List Call) (call : Call) → Turn trace rest calls → Begins rest call next → Turn trace next (calls ++ call ∷ [])
turn_more trace rest next calls call t b = turn trace next (calls ++ call ∷ []) (one_more trace rest next calls call t.sofar b)
