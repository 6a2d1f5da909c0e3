use Rattle.std.proofs.Common.{ℕ, map, sym, ap, ◌∙◌}
use Rattle.arrays.specs.Meaning.{Contents, Operation, programs, fills, accepts, asked, always_willing}
use Rattle.arrays.specs.Flat.{flat_contents}
use Rattle.arrays.proofs.Rests.{same_columns, rest_beyond}
use Rattle.arrays.proofs.job.ask.Goals as goal

pub returns-clause-done : goal.returns-clause-done
returns-clause-done g c =
    let K = g.W.Word.kind in
    let f = g.W.Word.code in
    let old = c.args.array.now in
    let new = c.fill-filled.new.self in
    let program : Operation = programs c.args.page.row c.args.page.codes.now c.args.page.closes in
    let fill : Operation = fills c.args.fill.block c.args.fill.code in
    let first = c.program-programmed.ensures.done in
    let second = c.fill-filled.ensures.done in
    let e = c.fill-filled.ensures.rest ∙ c.program-programmed.ensures.rest in
    record {
      first_told = first.told;
      second_told = second.told ∙ ap (λ (h : Contents). accepts K (always_willing h) fill) first.holding;
      holding = sym (ap (λ (n : ℕ). flat_contents K n (map f new.words.now) new.counts.now) (same_columns _ _ _ _ _ _ _ _ _ _ e))
          ∙ second.holding ∙ ap (asked K fill c.fill-filled.result) first.holding;
      beyond = rest_beyond _ _ _ _ _ _ (map f old.words.now) old.counts.now (map f new.words.now) new.counts.now e;
    }
