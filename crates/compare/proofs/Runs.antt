-- Runs: one step more at the end, and the shape, which stays. Assumes nothing.
use Rattle.std.proofs.Common.{◌≡◌, not, List, [], ◌∷◌, ◌++◌, refl, ap, ◌∙◌}
use Rattle.std.proofs.lemmas.List.{map-append}
use Rattle.records.specs.declared.call.Call.{Call}
use Rattle.words.specs.Kind.{Kind}
use Rattle.rules.specs.declared.control.Opening.{Opening}
use Rattle.rules.specs.Answering.{Answer}
use Rattle.rules.specs.Running.{Chip, Event, Step, Runs, stop, next}
use Rattle.rules.proofs.Landed.{shape_kept}
use Rattle.compare.specs.Played.{Played}
use Rattle.compare.specs.Compared.{shape_of}

runs_more : {K : Kind} {o : Opening} {c c' c'' : Chip} {e : Event} {es : List Event} → Runs K o c es c' → Step K o c' e c'' → Runs K o c (es ++ e ∷ []) c''
runs_more stop t = next t stop
runs_more (next s r) t = next s (runs_more r t)

-- one call more at the end
pub played_more : {K : Kind} {o : Opening} {c c' c'' : Chip} {given : List Call} {told : List Answer} → Played K o c given told c'
    → (e : Event) → Step K o c' e c'' → Played K o c (given ++ e.call ∷ []) (told ++ e.answer ∷ []) c''
played_more {given = given} {told = told} p e t = record {
  events = p.events ++ e ∷ [];
  run = runs_more p.run t;
  its_calls = map-append (λ x. x.call) p.events (e ∷ []) ∙ ap (λ l. l ++ e.call ∷ []) p.its_calls;
  its_answers = map-append (λ x. x.answer) p.events (e ∷ []) ∙ ap (λ l. l ++ e.answer ∷ []) p.its_answers;
}

pub run_shape : {K : Kind} {o : Opening} {c d : Chip} {es : List Event} → Runs K o c es d → shape_of d ≡ shape_of c
run_shape stop = refl
run_shape {K} (next {c = c} {e = e} t r) = run_shape r ∙ (ap (λ x. x.shape) t.performs.holding ∙ shape_kept K (not e.failed) _ c.memory.holds)
