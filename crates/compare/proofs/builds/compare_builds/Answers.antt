use Rattle.std.proofs.Common.{map, vec_items, subst}
use Rattle.arrays.specs.Meaning.{Meaning}
use Rattle.arrays.specs.Flat.{flat, flat_shape}
use Rattle.arrays.specs.declared.flat.FlatArray.{FlatArray}
use Rattle.rules.specs.declared.control.Opening.{Opening}
use Rattle.rules.specs.Parts.{columns}
use Rattle.rules.specs.Running.{Chip as Seen}
use Rattle.chip.specs.Calls.{seen}
use Rattle.compare.specs.Compared.{TracesCompared}
use Rattle.compare.specs.Built.{new_chip}
use Rattle.compare.proofs.NewChips.{built, beyond_kept}
use Rattle.compare.proofs.builds.compare_builds.Goals as goal

pub returns-clause-built : goal.returns-clause-built
returns-clause-built g c =
    let K = g.W.Word.kind in
    let o = c.args.opening in
    let one = c.open_new-one.ensures in
    let other = c.open_new-other.ensures in
    let means : FlatArray g.row.W.Denot → Meaning = λ x. flat K x.columns (map g.W.Word.code x.words.now) x.counts.now in
    let s = flat_shape (columns o.part) (map g.W.Word.code c.args.one.words.now) c.args.one.counts.now in
    let s' = flat_shape (columns o.part) (map g.W.Word.code c.args.other.words.now) c.args.other.counts.now in
    let traces = λ (p q : Opening) (x y : Seen). TracesCompared K p q x c.args.one.trace.now (vec_items c.in_ok-comparison.comparison.answers)
    (seen means c.compare_traces.new.one) y c.args.other.trace.now (vec_items c.in_ok-comparison.comparison.other_answers)
    (seen means c.compare_traces.new.other) c.in_ok-comparison.comparison.answers_equal c.in_ok-comparison.comparison.cells_equal in
    let before = seen means c.open_new-one.result in
    let other_before = seen means c.open_new-other.result in
    let t0 : traces c.open_new-one.result.opening c.open_new-other.result.opening before other_before = c.in_ok-comparison.ensures.compared in
    let t1 : traces o c.open_new-other.result.opening before other_before = subst (λ (p : Opening). traces p c.open_new-other.result.opening before other_before) one.opening t0 in
    let t2 : traces o o before other_before = subst (λ (q : Opening). traces o q before other_before) other.opening t1 in
    let t3 : traces o o (new_chip K s) other_before = subst (λ (x : Seen). traces o o x other_before) one.new t2 in
    let t4 : traces o o (new_chip K s) (new_chip K s') = subst (λ (y : Seen). traces o o (new_chip K s) y) other.new t3 in
    built o s s' t4

pub returns-clause-beyond : goal.returns-clause-beyond
returns-clause-beyond g c =
    let f = g.W.Word.code in
    let was = c.open_new-one.result.array in
    let is = c.compare_traces.new.one.array in
    beyond_kept _ _ _ _ _ _ _ (map f c.args.one.words.now) c.args.one.counts.now (map f was.words.now) was.counts.now (map f is.words.now) is.counts.now
    c.open_new-one.ensures.columns c.open_new-one.ensures.beyond c.in_ok-comparison.ensures.rest

pub returns-clause-other_beyond : goal.returns-clause-other_beyond
returns-clause-other_beyond g c =
    let f = g.W.Word.code in
    let was = c.open_new-other.result.array in
    let is = c.compare_traces.new.other.array in
    beyond_kept _ _ _ _ _ _ _ (map f c.args.other.words.now) c.args.other.counts.now (map f was.words.now) was.counts.now (map f is.words.now) is.counts.now
    c.open_new-other.ensures.columns c.open_new-other.ensures.beyond c.in_ok-comparison.ensures.other_rest
