use Rattle.std.proofs.Common.{List, [], ◌∷◌, ◌++◌, length, get_or, take, vec_items, sym, refl, ap, ◌∙◌, subst, arith}
use Rattle.std.proofs.lemmas.List.{take_more}
use Rattle.records.specs.declared.call.Call.{Call}
use Rattle.rules.specs.declared.control.Opening.{Opening}
use Rattle.rules.specs.Answering.{Answer}
use Rattle.rules.specs.Running.{Step, stop}
use Rattle.chip.specs.Calls.{seen, event}
use Rattle.compare.specs.Played.{Played}
use Rattle.compare.proofs.Runs.{played_more}
use Rattle.compare.proofs.playing.play_all.Goals as goal

pub loop-call-init : goal.loop-call-init
loop-call-init g c = (
  omega arith,
  c.args.room.ok.0 ∙ ap length c.requires.empty,
  c.requires.roomy,
  refl,
  refl,
  record { events = []; run = stop; its_calls = refl; its_answers = sym c.requires.empty },
)

pub loop-call-preserved : goal.loop-call-preserved
loop-call-preserved g c =
    let K = g.A.Stored.Word.kind in
    let see = seen g.A.CellArray.meaning in
    let calls = c.args.calls.now in
    let i = c.loop-call.call-index in
    let call = get_or calls i (Call.Command 0) in
    let before = see c.loop-call.chip in
    let after = see c.play-answer.new.self in
    let o = c.args.chip.now.opening in
    let a = c.play-answer.result in
    let step = subst (λ (x : Opening). Step K x before (event K x before call a) after) c.loop-call.invariant.3 c.play-answer.ensures.step in
    let more = played_more c.loop-call.invariant.5 (event K o before call a) step in (
      omega arith,
      omega (arith, c.push_reserved.ensures.len),
      omega (arith, c.push_reserved.ensures.capacity),
      c.play-answer.ensures.opening ∙ c.loop-call.invariant.3,
      c.play-answer.ensures.rest ∙ c.loop-call.invariant.4,
      subst (λ (cs : List Call). Played K o (see c.args.chip.now) cs (vec_items c.push_reserved.new.self) after)
          (sym (take_more calls i (Call.Command 0) c.loop-call-test.true))
          (subst (λ (xs : List Answer). Played K o (see c.args.chip.now) (take i calls ++ call ∷ []) xs after) (sym c.push_reserved.ensures.items) more),
    )
