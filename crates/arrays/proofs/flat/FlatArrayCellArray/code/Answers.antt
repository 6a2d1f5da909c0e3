use Rattle.std.proofs.Common.{map, length, sym, arith}
use Rattle.std.proofs.lemmas.List.{length-map}
use Rattle.std.proofs.lemmas.Bool.{ltb-true}
use Rattle.arrays.proofs.Flats.{place_fits}
use Rattle.arrays.proofs.flat.FlatArrayCellArray.code.Goals as goal

pub code_at-requires : goal.code_at-requires
code_at-requires g c =
    let s = c.args.self.now in
    let f = g.W.Word.code in
    let inside = ltb-true _ _ (sym c.if-not-has_row.ensures) in
    omega (
      arith,
      place_fits s.columns (length (map f s.words.now)) (length s.counts.now) c.args.row c.args.column (omega arith) (omega arith),
      length-map s.words.now f,
    )
