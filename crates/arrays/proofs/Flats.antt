-- The flat array's meaning: its laws, and what its two writes come to. Assumes nothing.
use Rattle.std.proofs.Common.{◌≡◌, ℕ, zero, suc, ◌+◌, ◌*◌, ◌/◌, ◌%◌, ◌<◌, ◌≤◌, min, Bool, true, false, cond, ◌&&◌, ltb, leb, List, [], ◌∷◌, map, length, get_or, set, sym, refl, ap, ◌∙◌, ap₂, ⊎_elim, le_of_suc-le-suc, not-suc-le-zero, add-mul, arith, length-set, get_or-set_other, get_or-set_same}
use Rattle.std.proofs.lemmas.Bool.{and_parts, and_from, and_left, and_right, cond-true, cond-false, cond_both, lt-ltb, le-ltb, ltb-true, leb-true, cases_lt, cases_order}
use Rattle.std.proofs.lemmas.Nat.{mul-add-lt, mul-le, div-add-mod'}
use Rattle.std.proofs.lemmas.List.{length-map}
use Rattle.words.specs.Kind.{Kind, KindLaws}
use Rattle.arrays.specs.Meaning.{MeaningLaws, programs, fills, performed, counted, block_of, New, new_contents}
use Rattle.arrays.specs.Flat.{flat, flat_contents, flat_shape, flat_blocks, flat_places, flat_rows, Joined, Put}
use Rattle.arrays.proofs.Asked.{contents_same, shape_same, at_place, at_row}

cond_cong : {X : Type 0} (t : Bool) (x y e : X) → (t ≡ true → x ≡ y) → cond t x e ≡ cond t y e
cond_cong true x y e h = h refl
cond_cong false x y e h = refl

-- what is stored is lawful
map_lawful : {X : Type 0} (K : Kind) (f : X → ℕ) → ((x : X) → K.lawful (f x) ≡ true) → (ws : List X) (i : ℕ) → i < length (map f ws) → K.lawful (get_or (map f ws) i 0) ≡ true
map_lawful K f p [] i h = absurd (not-suc-le-zero h)
map_lawful K f p (w ∷ ws) zero h = p w
map_lawful K f p (w ∷ ws) (suc i) h = map_lawful K f p ws i (le_of_suc-le-suc h)

-- the blocks that memory has room for
module _ (columns words counts : ℕ) where
  abbrev n : ℕ
  n = flat_blocks columns words counts

  by_words : n ≤ words / (32 * columns)
  by_words = cond_both (ltb 0 columns && leb columns 4096) _ 0 (λ x. x ≤ words / (32 * columns)) (λ e. omega arith) (λ e. omega arith)

  by_counts : n ≤ counts / 32
  by_counts = cond_both (ltb 0 columns && leb columns 4096) _ 0 (λ x. x ≤ counts / 32) (λ e. omega arith) (λ e. omega arith)

  pub blocks_fit : n * (32 * columns) ≤ words
  blocks_fit = omega (arith, mul-le n (32 * columns) (words / (32 * columns)) (32 * columns) by_words (omega arith), div-add-mod' words (32 * columns))

  pub counts_fit : 32 * n ≤ counts
  counts_fit = omega (arith, by_counts)

  pub place_fits : (row column : ℕ) → row < 32 * n → column < columns → row * columns + column < words
  place_fits row column h p = omega (arith, mul-add-lt row columns column (32 * n) h p, blocks_fit)

  pub row_fits : (row : ℕ) → row < 32 * n → row * columns + columns ≤ words
  row_fits row h = omega (arith, blocks_fit, mul-le (row + 1) columns (32 * n) columns (omega arith) (omega arith))

  pub block_fits : (block : ℕ) → block < n → block * 32 * columns + 32 * columns ≤ words
  block_fits block h = omega (arith, blocks_fit, mul-le (block + 1) (32 * columns) n (32 * columns) (omega arith) (omega arith))

  -- the places of the shape, with the columns cut so that the product fits
  pub places : n * (32 * min columns 4096) ≡ n * (32 * columns)
  places =
      cond_both (ltb 0 columns && leb columns 4096) (min (min (words / (32 * columns)) (counts / 32)) 4096) 0 (λ x. x * (32 * min columns 4096) ≡ x * (32 * columns))
      (λ e. let h : columns ≤ 4096 = leb-true columns 4096 (and_parts _ _ e).1 in
      let m : min columns 4096 ≡ columns = omega arith in
      ap (λ (y : ℕ). min (min (words / (32 * columns)) (counts / 32)) 4096 * (32 * y)) m)
      (λ e. omega arith)

-- the blocks of stored words are those of their codes
pub blocks_of_codes : {X : Type 0} (f : X → ℕ) (columns : ℕ) (ws : List X) (m : ℕ) → flat_blocks columns (length ws) m ≡ flat_blocks columns (length (map f ws)) m
blocks_of_codes f columns ws m = ap (λ (k : ℕ). flat_blocks columns k m) (sym (length-map ws f))

-- a flat array at a place
module _ (K : Kind) (columns : ℕ) (cs ns : List ℕ) where
  abbrev size : ℕ
  size = flat_blocks columns (length cs) (length ns)

  pub code_in : (row column : ℕ) → row < 32 * size → column < columns → (flat K columns cs ns).holds.code row column ≡ get_or cs (row * columns + column) 0
  code_in row column h p = cond-true _ _ _ (and_from _ _ (lt-ltb row (32 * size) h) (lt-ltb column columns p))

  pub code_no_row : (row column : ℕ) → 32 * size ≤ row → (flat K columns cs ns).holds.code row column ≡ K.erased
  code_no_row row column h = cond-false _ _ _ (and_left _ _ (le-ltb row (32 * size) h))

  pub code_no_column : (row column : ℕ) → columns ≤ column → (flat K columns cs ns).holds.code row column ≡ K.erased
  code_no_column row column h = cond-false _ _ _ (and_right _ _ (le-ltb column columns h))

  pub count_in : (row : ℕ) → row < 32 * size → (flat K columns cs ns).holds.count row ≡ min 15 (get_or ns row 0)
  count_in row h = cond-true _ _ _ (lt-ltb row (32 * size) h)

  pub count_out : (row : ℕ) → 32 * size ≤ row → (flat K columns cs ns).holds.count row ≡ 0
  count_out row h = cond-false _ _ _ (le-ltb row (32 * size) h)

  codes_laws : KindLaws K → ((i : ℕ) → i < length cs → K.lawful (get_or cs i 0) ≡ true) → MeaningLaws K (flat K columns cs ns)
  codes_laws laws stored = record {
    lawful = λ row column. cond_both (ltb row (32 * size) && ltb column columns) (get_or cs (row * columns + column) 0) K.erased (λ x. K.lawful x ≡ true)
        (λ e. let b = and_parts _ _ e in stored (row * columns + column) (place_fits columns (length cs) (length ns) row column (ltb-true _ _ b.0) (ltb-true _ _ b.1)))
        (λ e. laws.erased_lawful);
    few = λ row. cond_both (ltb row (32 * size)) (min 15 (get_or ns row 0)) 0 (λ x. x ≤ 15) (λ e. omega arith) (λ e. omega arith);
    no_row = code_no_row;
    no_column = code_no_column;
    no_count = count_out;
    row_within = λ row e. ltb-true row (32 * size) e;
    block_within = λ block e. ltb-true block size e;
  }

pub flat_laws : {X : Type 0} (K : Kind) (f : X → ℕ) → KindLaws K → ((x : X) → K.lawful (f x) ≡ true) → (columns : ℕ) (ws : List X) (ns : List ℕ) → MeaningLaws K (flat K columns (map f ws) ns)
flat_laws K f laws stored columns ws ns = codes_laws K columns (map f ws) ns laws (map_lawful K f stored ws)

-- memory with as much room as before
module _ (K : Kind) (columns : ℕ) (cs cs' ns ns' : List ℕ) (size : flat_blocks columns (length cs') (length ns') ≡ flat_blocks columns (length cs) (length ns)) where
  -- a code outside the n rows from a first one on, where the codes before them and after them are as they were
  code_kept : (first n row column : ℕ) → ((j : ℕ) → j < first * columns → get_or cs' j 0 ≡ get_or cs j 0)
      → ((j : ℕ) → first * columns + n * columns ≤ j → get_or cs' j 0 ≡ get_or cs j 0)
      → (column < columns → first ≤ row → row < first + n → ⊥) → (flat K columns cs' ns').holds.code row column ≡ (flat K columns cs ns).holds.code row column
  code_kept first n row column before after out =
      ap (λ (m : ℕ). cond (ltb row (32 * m) && ltb column columns) (get_or cs' (row * columns + column) 0) K.erased) size
      ∙ cond_cong (ltb row (flat_rows columns cs ns) && ltb column columns) _ _ _
      (λ t. let p : column < columns = ltb-true column columns (and_parts _ _ t).1 in
      ⊎_elim
      (λ (low : row < first). before (row * columns + column) (omega (arith, mul-add-lt row columns column first low p)))
      (λ (from : first ≤ row). ⊎_elim
      (λ (to : row < first + n). absurd (out p from to))
      (λ (high : first + n ≤ row). after (row * columns + column) (omega (arith, add-mul first n columns, mul-le (first + n) columns row columns high (omega arith))))
      (cases_lt row (first + n)))
      (cases_lt row first))

  count_kept : (row : ℕ) → get_or ns' row 0 ≡ get_or ns row 0 → (flat K columns cs' ns').holds.count row ≡ (flat K columns cs ns).holds.count row
  count_kept row e = ap₂ (λ (m x : ℕ). cond (ltb row (32 * m)) (min 15 x) 0) size e

capped : (closes : Bool) (m : ℕ) → min 15 (counted closes m) ≡ counted closes m
capped true m = refl
capped false m = omega arith

-- after a program of one row
module _ (K : Kind) (columns : ℕ) (cs cs' ns ns' : List ℕ) (at : ℕ) (codes : List ℕ) (closes : Bool)
    (within : at < flat_rows columns cs ns)
    (joined : Joined K cs cs' (at * columns) codes columns)
    (counts : ns' ≡ set ns at (counted closes (min 15 (get_or ns at 0)))) where
  programmed_size : flat_blocks columns (length cs') (length ns') ≡ flat_blocks columns (length cs) (length ns)
  programmed_size = ap₂ (flat_blocks columns) joined.len (ap length counts ∙ length-set ns at _)

  abbrev still : (row : ℕ) → row < flat_rows columns cs ns → row < flat_rows columns cs' ns'
  still row h = rw programmed_size h

  programmed_code : (row column : ℕ) → (flat K columns cs' ns').holds.code row column ≡ (performed K (programs at codes closes) (flat K columns cs ns).holds).code row column
  programmed_code row column = at_place row at column columns _ _ _
      (λ e p. let h : row < flat_rows columns cs ns = rw e within in
      code_in K columns cs' ns' row column (still row h) p
      ∙ ap (λ (r : ℕ). get_or cs' (r * columns + column) 0) e ∙ joined.inside column p
      ∙ ap (λ (r : ℕ). K.join (get_or cs (r * columns + column) 0) (get_or codes column K.erased)) (sym e)
      ∙ ap (λ (x : ℕ). K.join x (get_or codes column K.erased)) (sym (code_in K columns cs ns row column h p)))
      (λ ne. code_kept K columns cs cs' ns ns' programmed_size at 1 row column joined.before (λ j p. joined.after j (omega (arith, p))) (λ p from to. ne (omega arith) p))

  new_count : min 15 (get_or ns' at 0) ≡ counted closes (min 15 (get_or ns at 0))
  new_count =
      ap (λ (l : List ℕ). min 15 (get_or l at 0)) counts
      ∙ ap (min 15) (get_or-set_same ns at _ 0 (omega (arith, counts_fit columns (length cs) (length ns)))) ∙ capped closes (min 15 (get_or ns at 0))

  programmed_count : (row : ℕ) → (flat K columns cs' ns').holds.count row ≡ (performed K (programs at codes closes) (flat K columns cs ns).holds).count row
  programmed_count row = at_row row at _ _ _
      (λ e. let h : row < flat_rows columns cs ns = rw e within in
      count_in K columns cs' ns' row (still row h) ∙ ap (λ (r : ℕ). min 15 (get_or ns' r 0)) e ∙ new_count
      ∙ ap (λ (r : ℕ). counted closes (min 15 (get_or ns r 0))) (sym e) ∙ ap (counted closes) (sym (count_in K columns cs ns row h)))
      (λ ne. count_kept K columns cs cs' ns ns' programmed_size row (ap (λ (l : List ℕ). get_or l row 0) counts ∙ get_or-set_other ns at row _ 0 ne))

  pub flat_programmed : (flat K columns cs' ns').holds ≡ performed K (programs at codes closes) (flat K columns cs ns).holds
  flat_programmed = contents_same (shape_same columns programmed_size) programmed_code programmed_count

-- where a row of a block stands among the block's places
block_place : (row block columns column : ℕ) → block_of row ≡ block → row * columns + column ≡ block * 32 * columns + (row % 32 * columns + column)
block_place row block columns column e =
    let split : row ≡ block * 32 + row % 32 = omega arith in
    omega (arith, ap (λ (x : ℕ). x * columns) split, add-mul (block * 32) (row % 32) columns)

-- after a fill of one block
module _ (K : Kind) (columns : ℕ) (cs cs' ns ns' : List ℕ) (block value : ℕ)
    (within : block < flat_blocks columns (length cs) (length ns))
    (codes : Put cs cs' (block * 32 * columns) (32 * columns) value)
    (counts : Put ns ns' (block * 32) 32 0) where
  filled_size : flat_blocks columns (length cs') (length ns') ≡ flat_blocks columns (length cs) (length ns)
  filled_size = ap₂ (flat_blocks columns) codes.len counts.len

  in_block : (row : ℕ) → block_of row ≡ block → row < flat_rows columns cs' ns'
  in_block row e = let h : row < flat_rows columns cs ns = omega arith in rw filled_size h

  filled_code : (row column : ℕ) → (flat K columns cs' ns').holds.code row column ≡ (performed K (fills block value) (flat K columns cs ns).holds).code row column
  filled_code row column = at_place (block_of row) block column columns _ _ _
      (λ e p. code_in K columns cs' ns' row column (in_block row e) p ∙ ap (λ (x : ℕ). get_or cs' x 0) (block_place row block columns column e)
      ∙ codes.inside (row % 32 * columns + column) (omega (arith, mul-add-lt (row % 32) columns column 32 (omega arith) p)))
      (λ ne. code_kept K columns cs cs' ns ns' filled_size (block * 32) 32 row column codes.before codes.after (λ p from to. ne (omega arith) p))

  filled_count : (row : ℕ) → (flat K columns cs' ns').holds.count row ≡ (performed K (fills block value) (flat K columns cs ns).holds).count row
  filled_count row = at_row (block_of row) block _ _ _
      (λ e. let place : row ≡ block * 32 + row % 32 = omega arith in
      count_in K columns cs' ns' row (in_block row e) ∙ ap (λ (x : ℕ). min 15 (get_or ns' x 0)) place ∙ ap (min 15) (counts.inside (row % 32) (omega arith)))
      (λ ne. count_kept K columns cs cs' ns ns' filled_size row
      (⊎_elim (λ (e : block_of row ≡ block). absurd (ne e))
      (⊎_elim
      (λ (low : block_of row < block). counts.before row (omega arith))
      (λ (high : block < block_of row). counts.after row (omega arith)))
      (cases_order (block_of row) block)))

  pub flat_filled : (flat K columns cs' ns').holds ≡ performed K (fills block value) (flat K columns cs ns).holds
  flat_filled = contents_same (shape_same columns filled_size) filled_code filled_count

-- memory that was erased is new
pub flat_new : (K : Kind) (columns : ℕ) (cs cs' ns ns' : List ℕ)
    → Put cs cs' 0 (flat_places columns cs ns) K.erased → Put ns ns' 0 (flat_rows columns cs ns) 0
    → New K (flat K columns cs' ns').holds
flat_new K columns cs cs' ns ns' codes counts =
    let size : flat_blocks columns (length cs') (length ns') ≡ flat_blocks columns (length cs) (length ns) = ap₂ (flat_blocks columns) codes.len counts.len in
    let m : ℕ = flat_blocks columns (length cs) (length ns) in
    record {
      codes = λ row column.
          cond_both (ltb row (flat_rows columns cs' ns') && ltb column columns) (get_or cs' (row * columns + column) 0) K.erased (λ x. x ≡ K.erased)
          (λ t. let p : column < columns = ltb-true column columns (and_parts _ _ t).1 in
          let h : row < flat_rows columns cs' ns' = ltb-true _ _ (and_parts _ _ t).0 in
          let k : row < 32 * m = rw (sym size) h in
          ap (λ (x : ℕ). get_or cs' x 0) (omega arith) ∙ codes.inside (row * columns + column) (omega (arith, mul-add-lt row columns column (32 * m) k p)))
          (λ f. refl);
      counts = λ row.
          cond_both (ltb row (flat_rows columns cs' ns')) (min 15 (get_or ns' row 0)) 0 (λ x. x ≡ 0)
          (λ t. let h : row < flat_rows columns cs' ns' = ltb-true _ _ t in
          let k : row < 32 * m = rw (sym size) h in
          ap (λ (x : ℕ). min 15 (get_or ns' x 0)) (omega arith) ∙ ap (min 15) (counts.inside row k))
          (λ f. refl);
    }

-- the same, as an equation
pub flat_erased : (K : Kind) (columns : ℕ) (cs cs' ns ns' : List ℕ)
    → Put cs cs' 0 (flat_places columns cs ns) K.erased → Put ns ns' 0 (flat_rows columns cs ns) 0
    → flat_contents K columns cs' ns' ≡ new_contents K (flat_shape columns cs ns)
flat_erased K columns cs cs' ns ns' codes counts =
    let new = flat_new K columns cs cs' ns ns' codes counts in
    contents_same (shape_same columns (ap₂ (flat_blocks columns) codes.len counts.len)) new.codes new.counts
