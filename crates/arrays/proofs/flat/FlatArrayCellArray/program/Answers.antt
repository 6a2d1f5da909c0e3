use Rattle.std.proofs.Common.{ℕ, ◌*◌, ◌<◌, eqb, map, length, sym, subst, arith}
use Rattle.std.proofs.lemmas.List.{length-map}
use Rattle.std.proofs.lemmas.Bool.{and_from, and_parts, lt-ltb, ltb-true, eqb-true}
use Rattle.words.specs.Kind.{all_lawful}
use Rattle.arrays.specs.Flat.{flat_rows, Joined}
use Rattle.arrays.proofs.Asked.{accepted}
use Rattle.arrays.proofs.Flats.{row_fits, flat_programmed}
use Rattle.arrays.proofs.Rests.{rest_programmed}
use Rattle.arrays.proofs.flat.FlatArrayCellArray.program.Goals as goal

pub join_row-requires-clause-fits : goal.join_row-requires-clause-fits
join_row-requires-clause-fits g c =
    let s = c.args.self.now in
    let f = g.W.Word.code in
    let inside = ltb-true _ _ (sym c.if-not-has_row.ensures) in
    let page = and_parts (eqb (length c.args.codes.now) s.columns) (all_lawful g.W.Word.kind c.args.codes.now) (sym c.if-not-is_page.ensures) in
    omega (
      arith,
      row_fits s.columns (length (map f s.words.now)) (length s.counts.now) c.args.row (omega arith),
      length-map s.words.now f,
      eqb-true (length c.args.codes.now) s.columns page.0,
    )

pub returns : goal.returns
returns g c =
    let s = c.args.self.now in
    let K = g.W.Word.kind in
    let f = g.W.Word.code in
    let cs = map f s.words.now in
    let cs' = map f c.join_row.new.words in
    let inside = ltb-true _ _ (sym c.if-not-has_row.ensures) in
    let within : c.args.row < flat_rows s.columns cs s.counts.now = omega arith in
    let page = sym c.if-not-is_page.ensures in
    let joined = subst (λ (m : ℕ). Joined K cs cs' (c.args.row * s.columns) c.args.codes.now m) (eqb-true _ _ (and_parts _ _ page).0) c.join_row.ensures in
    record {
      done = accepted K _ _ _ (and_from _ _ (lt-ltb c.args.row _ within) page)
          (flat_programmed K s.columns cs cs' s.counts.now c.count_program.new.counts c.args.row c.args.codes.now c.args.closes within joined c.count_program.ensures);
      rest = rest_programmed K s.words.ghost_name s.counts.ghost_name s.columns cs cs' s.counts.now c.count_program.new.counts c.args.row _ c.args.codes.now
          within joined c.count_program.ensures;
    }
