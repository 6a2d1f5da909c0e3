use Rattle.std.proofs.Common.{◌≡◌, Decides, vec_items, rules, sym, ap, ◌∙◌, subst}
use Rattle.compare.specs.Compared.{EqualCells}
use Rattle.compare.proofs.Runs.{run_shape}
use Rattle.compare.proofs.Laws.{compared}
use Rattle.compare.proofs.compare.compare_calls.Goals as goal

pub same_arrays-cells_equal-requires : goal.same_arrays-cells_equal-requires
same_arrays-cells_equal-requires g c =
    let blocks = λ (a : g.row.A.Denot). (g.A.CellArray.meaning a).holds.shape.blocks in
    let given : c.in_ok-blocks.blocks ≡ blocks c.array.result.now = search rules in
    given ∙ (ap blocks c.array.ensures ∙ (sym (ap (λ s. s.blocks) (run_shape c.play_all-answers.ensures.played.run)) ∙ sym (ap blocks c.array-2.ensures)))

pub returns-clause-compared : goal.returns-clause-compared
returns-clause-compared g c =
    let v = c.same_answers-answers_equal.result in
    let w = c.same_arrays-cells_equal.result in
    let holds = λ (a : g.row.A.Denot). (g.A.CellArray.meaning a).holds in
    let other_holds = λ (b : g.row.B.Denot). (g.B.CellArray.meaning b).holds in
    let cells : Decides w (EqualCells (holds c.play_all-answers.new.chip.array) (other_holds c.play_all-other_answers.new.chip.array)) =
    subst (λ (a : g.row.A.Denot). Decides w (EqualCells (holds a) (other_holds c.play_all-other_answers.new.chip.array))) c.array-2.ensures
    (subst (λ (b : g.row.B.Denot). Decides w (EqualCells (holds c.array-2.result.now) (other_holds b))) c.array-3.ensures c.same_arrays-cells_equal.ensures) in
    let same : Decides v (vec_items c.play_all-answers.result ≡ vec_items c.play_all-other_answers.result) = search rules in
    compared g.A.Stored.Word.laws c.play_all-answers.ensures.played c.play_all-other_answers.ensures.played v w same cells
