use Rattle.std.proofs.Common.{◌-◌, ◌≤◌, length, sym, refl, ◌∙◌, subst, ⊎_elim, arith}
use Rattle.rules.specs.declared.control.Opening.{Opening}
use Rattle.rules.specs.Running.{Step}
use Rattle.chip.specs.Calls.{seen, event}
use Rattle.runner.specs.Results.{bad_bytes}
use Rattle.runner.specs.Played.{full}
use Rattle.runner.proofs.Turns.{goes, stops, one_more, finish, no_more, plays_bad, plays_ended}
use Rattle.runner.proofs.Accepted.{accepted}
use Rattle.runner.proofs.running.run.Goals as goal

pub returns-in_default-clause-ran : goal.returns-in_default-clause-ran
returns-in_default-clause-ran g c =
    let K = g.A.Stored.Word.kind in
    let m = g.A.CellArray.meaning in
    let o = c.args.chip.now.opening in
    let so = c.loop-left.invariant.0 in
    let turn = goes c.loop-left.left.now (length c.loop-left.results - c.loop-left.written) c.loop-left-test.ensures in
    let room : 4 ≤ length c.args.results.now - c.loop-left.written = omega (arith, turn.roomy, so.same) in
    let ran = finish K o _ _ _ _ _ _ _ so bad_bytes c.stop_at_bad.new.results 4 (plays_bad K o _ _ _ room turn.some (sym c.in_default.ensures.value)) refl c.stop_at_bad.ensures.told in
    rw (c.stop_at_bad.ensures.used, c.stop_at_bad.ensures.count) ran

pub returns-in_default-clause-accepted : goal.returns-in_default-clause-accepted
returns-in_default-clause-accepted g c = accepted g.A.Stored.Word.kind c.args.chip.now.opening _ _ _ _ _ _ _ (returns-in_default-clause-ran g c)

pub loop-left-preserved : goal.loop-left-preserved
loop-left-preserved g c =
    let K = g.A.Stored.Word.kind in
    let m = g.A.CellArray.meaning in
    let o = c.args.chip.now.opening in
    let so = c.loop-left.invariant.0 in
    let turn = goes c.loop-left.left.now (length c.loop-left.results - c.loop-left.written) c.loop-left-test.ensures in
    let room : 4 ≤ length c.args.results.now - c.loop-left.written = omega (arith, turn.roomy, so.same) in
    let was = seen m c.loop-left.chip in
    let is = seen m c.play-answer.new.self in
    let call = c.in-Some.call in
    let answer = c.play-answer.result in
    let step = subst (λ (p : Opening). Step K p was (event K p was call answer) is) c.loop-left.invariant.2 c.play-answer.ensures.step in
    let more = one_more K o _ _ _ _ _ _ _ so (event K o was call answer) is c.in-Some.next.now c.tell-written.new.results room
    (sym c.in-Some.ensures.value) c.in-Some.ensures.shorter step c.tell-written.ensures.told in
    (rw c.tell-written.ensures.count more, c.play-answer.ensures.rest ∙ c.loop-left.invariant.1, c.play-answer.ensures.opening ∙ c.loop-left.invariant.2)

pub returns-clause-ran : goal.returns-clause-ran
returns-clause-ran g c =
    let K = g.A.Stored.Word.kind in
    let o = c.args.chip.now.opening in
    let so = c.loop-left.invariant.0 in
    ⊎_elim
    (λ e. no_more K o _ _ _ _ _ _ _ so (plays_ended K o _ _ _ e))
    (λ h. no_more K o _ _ _ _ _ _ _ so (full (omega (arith, h, so.same))))
    (stops c.loop-left.left.now (length c.loop-left.results - c.loop-left.written) c.loop-left-test.ensures)

pub returns-clause-accepted : goal.returns-clause-accepted
returns-clause-accepted g c = accepted g.A.Stored.Word.kind c.args.chip.now.opening _ _ _ _ _ _ _ (returns-clause-ran g c)
