-- An accepted trace with room for its results is played whole. Assumes nothing.
use Rattle.std.proofs.Common.{◌≡◌, ℕ, ◌*◌, ◌≤◌, List, [], ◌∷◌, ◌++◌, length, drop, Some, None, sym, refl, ap, ◌∙◌, arith, length-append}
use Rattle.records.specs.declared.call.Call.{Call}
use Rattle.records.specs.Records.{First, record_of, first}
use Rattle.records.specs.Readings.{joined}
use Rattle.records.proofs.Firsts.{first_joined}
use Rattle.words.specs.Kind.{Kind}
use Rattle.rules.specs.declared.control.Opening.{Opening}
use Rattle.rules.specs.Running.{Chip, Event, Runs, stop, next, calls, answers}
use Rattle.runner.specs.Results.{result_bytes, all_results}
use Rattle.runner.specs.Played.{Plays, full, ended, bad, one, Ran, AcceptedIsPlayed}
use Rattle.runner.proofs.Turns.{four}

-- how an accepted trace was played
record Whole (K : Kind) (o : Opening) (c : Chip) (trace : List ℕ) (cs : List Call) (es : List Event) (bytes : List ℕ) (used : ℕ) (c' : Chip) : Type 0 where
  pub runs : Runs K o c es c'
  pub played : calls es ≡ cs
  pub all_used : used ≡ length trace
  pub told : bytes ≡ all_results (answers es)

-- a trace cannot both begin with a record and not
none_begins : (t : List ℕ) (call : Call) (cs : List Call) → t ≡ joined (call ∷ cs) → first t ≡ None → ⊥
none_begins t call cs e n =
    let f : ◌≡◌ {A = First} None (Some (call, joined cs)) = sym n ∙ ap first e ∙ first_joined call (joined cs) in
    let z : ◌≡◌ {A = ℕ} 0 1 = cc in
    omega arith

some_begins : (t : List ℕ) (call : Call) (rest : List ℕ) → t ≡ [] → first t ≡ Some (call, rest) → ⊥
some_begins t call rest e f =
    let g : ◌≡◌ {A = First} None (Some (call, rest)) = sym (ap first e) ∙ f in
    let z : ◌≡◌ {A = ℕ} 0 1 = cc in
    omega arith

module _ (K : Kind) (o : Opening) where
  played_whole : {c c' : Chip} {t : List ℕ} {room used : ℕ} {es : List Event} {bytes : List ℕ} → Plays K o c t room es bytes used c'
      → (cs : List Call) → t ≡ joined cs → 4 * length cs ≤ room → Whole K o c t cs es bytes used c'
  played_whole (full h) [] e r = record { runs = stop; played = refl; all_used = sym (ap length e); told = refl }
  played_whole (full h) (call ∷ cs) e r = absurd (omega arith)
  played_whole ended [] e r = record { runs = stop; played = refl; all_used = refl; told = refl }
  played_whole ended (call ∷ cs) e r = absurd (none_begins [] call cs e refl)
  played_whole (bad h f) [] e r = absurd (omega (arith, ap length e))
  played_whole (bad h f) (call ∷ cs) e r = absurd (none_begins _ call cs e f)
  played_whole (one h f s p) [] e r = absurd (some_begins _ _ _ e f)
  played_whole (one {trace = t} {rest = rest} {e = v} {es = es} h f s p) (call ∷ cs) e r =
      let same : ◌≡◌ {A = First} (Some (v.call, rest)) (Some (call, joined cs)) = sym f ∙ ap first e ∙ first_joined call (joined cs) in
      let both : ◌≡◌ {A = Call × List ℕ} (v.call, rest) (call, joined cs) = cc in
      let its : v.call ≡ call = ap (λ p. p.0) both in
      let left : rest ≡ joined cs = ap (λ p. p.1) both in
      let w = played_whole p cs left (omega arith) in
      record {
        runs = next s w.runs;
        played = cc;
        all_used = omega (arith, w.all_used, ap length e, length-append (record_of call) (joined cs), ap length left);
        told = ap (λ (l : List ℕ). result_bytes v.answer ++ l) w.told;
      }

  four_each : (es : List Event) → length (all_results (answers es)) ≡ 4 * length (calls es)
  four_each [] = refl
  four_each (e ∷ es) = omega (arith, length-append (result_bytes e.answer) (all_results (answers es)), four e.answer, four_each es)

  pub accepted : (c : Chip) (t out : List ℕ) (used written : ℕ) (after : List ℕ) (c' : Chip)
      → Ran K o c t out used written after c' → AcceptedIsPlayed K o c t out used written after c'
  accepted c t out used written after c' ran cs e r =
      let w = played_whole ran.plays cs e r in
      record {
        events = ran.events;
        runs = w.runs;
        played = w.played;
        whole = w.all_used;
        four_each = ran.count ∙ ap length w.told ∙ four_each ran.events ∙ ap (λ (l : List Call). 4 * length l) w.played;
        told = ran.stands ∙ ap (λ (l : List ℕ). l ++ drop written out) w.told;
      }
