use Rattle.std.proofs.Common.{ℕ, ◌+◌, ◌<◌, map, length, sym, ap, ◌∙◌, ap₂, arith}
use Rattle.std.proofs.lemmas.List.{map-set, get_or-map, get_or_default, length-map}
use Rattle.arrays.proofs.Places.{joined_more}
use Rattle.arrays.proofs.memory.join_row.Goals as goal

pub loop-i-preserved : goal.loop-i-preserved
loop-i-preserved g c =
    let K = g.W.Word.kind in
    let f = g.W.Word.code in
    let ws = c.loop-i.words in
    let i = c.loop-i.i in
    let p : ℕ = c.args.at + i in
    let v = c.joined.result in
    let fits : p < length ws = omega arith in
    let word = ap f c.index-words-at.is ∙ sym (get_or-map f ws p c.index-words-at.result 0 fits) in
    rw (map-set f ws p v)
    (joined_more (map f ws) c.args.at i (f v) (omega (arith, length-map ws f)) K _ c.args.codes.now c.loop-i.invariant
    (c.joined.ensures ∙ ap₂ K.join word (get_or_default c.args.codes.now i 0 K.erased c.loop-i-test.true)))
