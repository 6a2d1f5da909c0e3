-- What settle and FFh leave. Assumes nothing.
use Rattle.std.proofs.Common.{◌≡◌, ℕ, Bool, true, false, refl, ap, ◌∙◌}
use Rattle.refusals.specs.declared.Refusal.{Refusal}
use Rattle.records.specs.declared.call.Call.{Call}
use Rattle.words.specs.Kind.{Kind}
use Rattle.arrays.specs.Meaning.{Contents}
use Rattle.rules.specs.declared.state.State.{State}
use Rattle.rules.specs.declared.control.Opening.{Opening}
use Rattle.rules.specs.declared.control.Control.{Control}
use Rattle.rules.specs.Controls.{is_busy}
use Rattle.rules.specs.Controls.{with_state, with_fail}
use Rattle.rules.specs.Answering.{Answer, unless, done, is_dead, answer}
use Rattle.rules.specs.Moving.{after_reset, control_after}
use Rattle.rules.specs.Running.{Chip, Event, Step}
use Rattle.rules.specs.Conduct.{SettleEndsBusy, ResetAlwaysResets}

-- the answer of a call that the array decides
abbrev told : Bool → Answer
told failed = unless failed Refusal.ArrayFailed done

module _ (K : Kind) (o : Opening) where
  settle_answer : (h : Contents) (f : Bool) (c : Control) → is_dead K o h.shape ≡ false → is_busy c.state ≡ true → answer K o h f c Call.Settle ≡ told f
  unfolding answer
  settle_answer h f c alive busy = rw (alive, busy)

  reset_answer : (h : Contents) (f : Bool) (c : Control) → is_dead K o h.shape ≡ false → answer K o h f c (Call.Command 0xFF) ≡ told f
  unfolding answer
  reset_answer h f c alive = rw alive

  settle_moves : (code : ℕ → ℕ → ℕ) (c : Control) (f : Bool) → control_after K o.part code c Call.Settle (told f) ≡ with_fail (with_state c State.Status) f
  unfolding control_after
  settle_moves code c true = refl
  settle_moves code c false = refl

  reset_moves : (code : ℕ → ℕ → ℕ) (c : Control) (f : Bool) → control_after K o.part code c (Call.Command 0xFF) (told f) ≡ after_reset c
  unfolding control_after
  reset_moves code c true = refl
  reset_moves code c false = refl

  -- a step of a known call
  module _ (c c' : Chip) (e : Event) (t : Step K o c e c') (call : Call) (is : e.call ≡ call) where
    its_answer : (a : Answer) → answer K o c.memory.holds e.failed c.control call ≡ a → e.answer ≡ a
    its_answer a p = t.answers ∙ ap (λ x. answer K o c.memory.holds e.failed c.control x) is ∙ p

    its_control : (a : Answer) (d : Control) → e.answer ≡ a → control_after K o.part c.memory.holds.code c.control call a ≡ d → c'.control ≡ d
    its_control a d p q =
        t.moves ∙ ap (λ x. control_after K o.part c.memory.holds.code c.control x e.answer) is
        ∙ ap (λ x. control_after K o.part c.memory.holds.code c.control call x) p ∙ q

pub settle_ends_busy : SettleEndsBusy
settle_ends_busy K o c c' e t alive busy is =
    let a = its_answer K o c c' e t Call.Settle is (told e.failed) (settle_answer K o c.memory.holds e.failed c.control alive busy) in
    let m = its_control K o c c' e t Call.Settle is (told e.failed) _ a (settle_moves K o c.memory.holds.code c.control e.failed) in
    record {
      answer = a;
      status = ap (λ x. x.state) m;
      fail = ap (λ x. x.fail) m;
      pointer = ap (λ x. x.pointer) m;
      kept = record { register = ap (λ x. x.register) m; wp = ap (λ x. x.wp) m; tight = ap (λ x. x.tight) m; range = ap (λ x. x.range) m };
    }

pub reset_always_resets : ResetAlwaysResets
reset_always_resets K o c c' e t alive is =
    let a = its_answer K o c c' e t (Call.Command 0xFF) is (told e.failed) (reset_answer K o c.memory.holds e.failed c.control alive) in
    let m = its_control K o c c' e t (Call.Command 0xFF) is (told e.failed) _ a (reset_moves K o c.memory.holds.code c.control e.failed) in
    record {
      answer = a;
      waits = ap (λ x. x.state) m;
      fail = ap (λ x. x.fail) m;
      pointer = ap (λ x. x.pointer) m;
      kept = record { register = ap (λ x. x.register) m; wp = ap (λ x. x.wp) m; tight = ap (λ x. x.tight) m; range = ap (λ x. x.range) m };
    }
