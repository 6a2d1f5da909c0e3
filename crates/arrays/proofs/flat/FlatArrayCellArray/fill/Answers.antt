use Rattle.std.proofs.Common.{◌≡◌, ℕ, ◌*◌, ◌<◌, map, length, subst, arith}
use Rattle.std.proofs.lemmas.List.{length-map}
use Rattle.std.proofs.lemmas.Bool.{and_from, lt-ltb}
use Rattle.arrays.specs.Flat.{flat_blocks, Put}
use Rattle.arrays.proofs.Asked.{accepted}
use Rattle.arrays.proofs.Places.{put_codes, put_counts}
use Rattle.arrays.proofs.Flats.{block_fits, counts_fit, flat_filled}
use Rattle.arrays.proofs.Rests.{rest_filled}
use Rattle.arrays.proofs.flat.FlatArrayCellArray.fill.Goals as goal

pub returns : goal.returns
returns g c =
    let s = c.args.self.now in
    let K = g.W.Word.kind in
    let f = g.W.Word.code in
    let cs = map f s.words.now in
    let cs' = map f c.put_block.new.places in
    let ns' = c.put_block-2.new.places in
    let within : c.args.block < flat_blocks s.columns (length cs) (length s.counts.now) = omega arith in
    let put = subst (λ (v : ℕ). Put cs cs' (c.args.block * 32 * s.columns) (32 * s.columns) v) c.in-Ok.ensures.1
    (put_codes f s.words.now c.put_block.new.places _ _ c.in-Ok.word
    (omega (arith, block_fits s.columns (length cs) (length s.counts.now) c.args.block within, length-map s.words.now f)) c.put_block.ensures) in
    let at : c.args.block * 32 * 1 ≡ c.args.block * 32 = omega arith in
    let zeroed = subst (λ (p : ℕ). Put s.counts.now ns' p 32 0) at
    (put_counts s.counts.now ns' (c.args.block * 32 * 1) 32 0 (omega (arith, counts_fit s.columns (length cs) (length s.counts.now))) c.put_block-2.ensures) in
    record {
      done = accepted K _ _ _ (and_from _ _ (lt-ltb c.args.block _ within) c.in-Ok.ensures.0)
          (flat_filled K s.columns cs cs' s.counts.now ns' c.args.block c.args.code within put zeroed);
      rest = rest_filled s.words.ghost_name s.counts.ghost_name s.columns cs cs' s.counts.now ns' c.args.block c.args.code within put zeroed;
    }
