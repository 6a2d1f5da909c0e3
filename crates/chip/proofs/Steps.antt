-- A call is a step of the rules. Assumes nothing.
use Rattle.std.proofs.Common.{◌≡◌, ℕ, cond, not, List, Option, sym, ap, ◌∙◌, subst, arith}
use Rattle.std.proofs.Math.Bool.{not-not}
use Rattle.refusals.specs.declared.Refusal.{Refusal}
use Rattle.records.specs.declared.call.Call.{Call}
use Rattle.words.specs.Kind.{Kind}
use Rattle.arrays.specs.Meaning.{nothing, accepts, Performs}
use Rattle.rules.specs.declared.part.Part.{Part}
use Rattle.rules.specs.declared.state.Work.{Work}
use Rattle.rules.specs.declared.control.Opening.{Opening}
use Rattle.rules.specs.declared.control.Control.{Control}
use Rattle.rules.specs.Controls.{under}
use Rattle.rules.specs.Answering.{Answer, is_dead, answer}
use Rattle.rules.specs.Asking.{Ending, ending, operation_of, operation}
use Rattle.rules.specs.Moving.{refused_after, control_after}
use Rattle.rules.specs.Running.{Chip as Seen, Step}
use Rattle.chip.specs.Calls.{asks_of, asks, refused, moved, event, Called, CallsAreSteps}

same_asking : (K : Kind) (p : Part) (codes : List ℕ) (e : Ending) (w : Option Work) → asks_of K p codes e w ≡ operation_of K p codes w e
same_asking K p codes e w = grind arith

same_operation : (K : Kind) (o : Opening) (c : Seen) (call : Call) → asks K o c call ≡ operation K o c.memory.holds.shape c.control call
unfolding operation
same_operation K o c call =
    ap (cond (is_dead K o c.memory.holds.shape) nothing)
    (same_asking K o.part c.control.register.codes (ending o.part call) (under c.control.state))

same_refusal : (p : Part) (c : Control) (call : Call) (why : Refusal) → refused (ending p call) c why ≡ refused_after p c call why
same_refusal p c call why = grind arith

same_move : (K : Kind) (p : Part) (code : ℕ → ℕ → ℕ) (c : Control) (call : Call) (a : Answer) → moved K p code c call a ≡ control_after K p code c call a
unfolding control_after
same_move K p code c call a = grind (arith, same_refusal)

pub step_of : {K : Kind} {o : Opening} {c : Seen} {call : Call} {a : Answer} {c' : Seen} → Called K o c call a c' → Step K o c (event K o c call a) c'
unfolding answer
step_of {K} {o} {c} {call} {a} {c'} t =
    let e = same_operation K o c call in
    let same : accepts K c.memory (asks K o c call) ≡ accepts K c.memory (operation K o c.memory.holds.shape c.control call) = ap (accepts K c.memory) e in
    record {
      performs =
          subst (λ b. Performs K (operation K o c.memory.holds.shape c.control call) c.memory b c'.memory) (same ∙ sym (not-not _))
          (subst (λ x. Performs K x c.memory (accepts K c.memory (asks K o c call)) c'.memory) e t.performs);
      idle = λ z. t.idle (e ∙ z);
      answers = subst (λ b. a ≡ answer K o c.memory.holds (not b) c.control call) same t.answers;
      moves = t.moves ∙ same_move K o.part c.memory.holds.code c.control call a;
    }

pub call_of : {K : Kind} {o : Opening} {c : Seen} {call : Call} {a : Answer} {c' : Seen} → Step K o c (event K o c call a) c' → Called K o c call a c'
unfolding answer
call_of {K} {o} {c} {call} {a} {c'} t =
    let e = same_operation K o c call in
    let same : accepts K c.memory (asks K o c call) ≡ accepts K c.memory (operation K o c.memory.holds.shape c.control call) = ap (accepts K c.memory) e in
    record {
      answers = subst (λ b. a ≡ answer K o c.memory.holds (not b) c.control call) (sym same) t.answers;
      moves = t.moves ∙ sym (same_move K o.part c.memory.holds.code c.control call a);
      performs =
          subst (λ b. Performs K (asks K o c call) c.memory b c'.memory) (not-not _ ∙ sym same)
          (subst (λ x. Performs K x c.memory (not (event K o c call a).failed) c'.memory) (sym e) t.performs);
      idle = λ z. t.idle (sym e ∙ z);
    }

pub calls_are_steps : CallsAreSteps
calls_are_steps K o c call a c' = (step_of, call_of)
