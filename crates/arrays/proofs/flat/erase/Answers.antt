use Rattle.std.proofs.Common.{◌≡◌, ℕ, ◌*◌, min, map, length, ◌∙◌, subst, arith}
use Rattle.std.proofs.lemmas.List.{length-map}
use Rattle.arrays.specs.Flat.{flat_blocks, flat_places, flat_rows, Put}
use Rattle.arrays.proofs.Places.{put_codes, put_counts}
use Rattle.arrays.proofs.Flats.{places, blocks_fit, counts_fit, blocks_of_codes, flat_erased}
use Rattle.arrays.proofs.flat.erase.Goals as goal

-- the number of places that are erased
extent : (n m columns words counts : ℕ) → n ≡ flat_blocks columns words counts → m ≡ min columns 4096 → n * (32 * m) ≡ flat_blocks columns words counts * (32 * columns)
extent n m columns words counts e w = rw (e, w) (places columns words counts)

pub returns : goal.returns
returns g c =
    let a = c.args in
    let K = g.W.Word.kind in
    let f = g.W.Word.code in
    let cs = map f a.words.now in
    let cs' = map f c.put_first_blocks.new.places in
    let size = c.room-n.ensures ∙ blocks_of_codes f a.columns a.words.now (length a.counts.now) in
    let span = extent c.room-n.result c.min-width.result a.columns (length cs) (length a.counts.now) size c.min-width.ensures in
    let erased = put_codes f a.words.now c.put_first_blocks.new.places 0 _ c.erased.result
    (omega (arith, span, blocks_fit a.columns (length cs) (length a.counts.now), length-map a.words.now f)) c.put_first_blocks.ensures in
    let erases = subst (λ (v : ℕ). Put cs cs' 0 (flat_places a.columns cs a.counts.now) v) c.erased.ensures
    (subst (λ (n : ℕ). Put cs cs' 0 n (f c.erased.result)) span erased) in
    let rows : c.room-n.result * (32 * 1) ≡ flat_rows a.columns cs a.counts.now = omega (arith, size) in
    let zeroed = put_counts a.counts.now c.put_first_blocks-2.new.places 0 _ 0 (omega (arith, rows, counts_fit a.columns (length cs) (length a.counts.now))) c.put_first_blocks-2.ensures in
    let zeroes = subst (λ (n : ℕ). Put a.counts.now c.put_first_blocks-2.new.places 0 n 0) rows zeroed in
    record { erases = erases; zeroes = zeroes; new = flat_erased K a.columns cs cs' a.counts.now c.put_first_blocks-2.new.places erases zeroes }
