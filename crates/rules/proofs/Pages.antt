-- The page that a read fetches: what it depends on, and what it shows. Assumes nothing.
use Rattle.std.proofs.Common.{◌≡◌, ℕ, zero, suc, ◌+◌, ◌-◌, ◌<◌, ◌≤◌, Bool, cond, ◌++◌, map, length, get_or, replicate, refl, ap, ◌∙◌, inl, inr, arith, length-append}
use lib.ListN.{length-replicate}
use Rattle.std.specs.List.{range_with_len}
use Rattle.std.proofs.lemmas.List.{get_or_append_left, get_or-append_right, get_or-replicate, get_or_past}
use Rattle.std.proofs.lemmas.Bool.{cases_lt}
use Rattle.std.proofs.lemmas.List.FromFn.{length-map-range_with_len, get_or-map-range_with_len}
use Rattle.records.specs.declared.call.Call.{Call}
use Rattle.words.specs.Kind.{Kind}
use Rattle.rules.specs.declared.part.Part.{Part}
use Rattle.rules.specs.declared.part.Part.TheVariants.{K9K1208, K9K1216, K9F2808}
use Rattle.rules.specs.declared.state.Aim.{Aim}
use Rattle.rules.specs.declared.state.State.{State}
use Rattle.rules.specs.declared.control.Control.{Control}
use Rattle.rules.specs.Parts.{columns}
use Rattle.rules.specs.Controls.{places, page_of, with_state}
use Rattle.rules.specs.Answering.{Answer}
use Rattle.rules.specs.Moving.{arrived, address_after, control_after}

same_each : (f g : ℕ → ℕ) (a n : ℕ) → ((k : ℕ) → a ≤ k → k < a + n → f k ≡ g k) → map f (range_with_len a n) ≡ map g (range_with_len a n)
same_each f g a zero h = refl
same_each f g a (suc n) h =
    let first : f a ≡ g a = h a (omega arith) (omega arith) in
    let rest : map f (range_with_len (a + 1) n) ≡ map g (range_with_len (a + 1) n) = same_each f g (a + 1) n (λ k low high. h k (omega arith) (omega arith)) in
    cc

same_page : (p : Part) (e : ℕ) (f g : ℕ → ℕ) → ((k : ℕ) → k < columns p → f k ≡ g k) → page_of p e f ≡ page_of p e g
unfolding page_of
same_page p e f g h =
    ap (λ xs. xs ++ replicate (places - columns p) e) (same_each f g 0 (columns p) (λ k low high. h k (omega arith)))

pub page_at : (p : Part) (e : ℕ) (f : ℕ → ℕ) (k : ℕ) → k < columns p → get_or (page_of p e f) k e ≡ f k
unfolding page_of
page_at p e f k h =
    get_or_append_left (map f (range_with_len 0 (columns p))) (replicate (places - columns p) e) e k (rw (length-map-range_with_len f 0 (columns p)) h)
    ∙ get_or-map-range_with_len f 0 (columns p) k k e h (omega arith)

pub few_columns : (p : Part) → columns p ≤ 528
few_columns K9K1208 = omega arith
few_columns K9K1216 = omega arith
few_columns K9F2808 = omega arith

pub each_erased : (n e k : ℕ) → get_or (replicate n e) k e ≡ e
each_erased n e k = elim (cases_lt k n) [
  | inl h ↦ get_or-replicate n k e e h
  | inr h ↦ get_or_past (replicate n e) k e (rw length-replicate h)
]

-- a page has as many places as the register
pub page_long : (p : Part) (e : ℕ) (f : ℕ → ℕ) → length (page_of p e f) ≡ 528
unfolding page_of
page_long p e f =
    length-append (map f (range_with_len 0 (columns p))) (replicate (places - columns p) e)
    ∙ (let a = length-map-range_with_len f 0 (columns p) in
    let b = length-replicate (places - columns p) e in
    let c = few_columns p in
    omega arith)

pub page_beyond : (p : Part) (e : ℕ) (f : ℕ → ℕ) (k : ℕ) → columns p ≤ k → get_or (page_of p e f) k e ≡ e
unfolding page_of
page_beyond p e f k h =
    get_or-append_right (map f (range_with_len 0 (columns p))) (replicate (places - columns p) e) (columns p) k e (length-map-range_with_len f 0 (columns p)) h
    ∙ each_erased (places - columns p) e (k - columns p)

-- Two arrays that show the same at the part's columns move a control alike.
module _ (K : Kind) (p : Part) (f g : ℕ → ℕ → ℕ) (same : (row column : ℕ) → column < columns p → f row column ≡ g row column) where
  same_arrived : (c : Control) (row : ℕ) (a : Aim) → arrived K p f c row a ≡ arrived K p g c row a
  same_arrived c row a = let h = same_page p K.erased (f row) (g row) (same row) in grind arith

  same_address : (c : Control) (b : ℕ) (s : State) → address_after K p f c b s ≡ address_after K p g c b s
  same_address c b s = grind (arith, same_arrived)

  pub same_moves : (c : Control) (call : Call) (a : Answer) → control_after K p f c call a ≡ control_after K p g c call a
  unfolding control_after
  same_moves c call a = grind (arith, same_address)

-- An address cycle after which a page is read out has put the page's codes into the register.
module _ (K : Kind) (p : Part) (code : ℕ → ℕ → ℕ) (row next : ℕ) where
  -- a control in which, if a page is read out, the register shows it
  abbrev Shows : Control → Type 0
  Shows c = c.state ≡ State.PageOut row next → (column : ℕ) → column < columns p → get_or c.register.codes column K.erased ≡ code row column

  shows_arrived : (c : Control) (at : ℕ) (a : Aim) → Shows (arrived K p code c at a)
  shows_arrived c at a e k h = let z = page_at p K.erased (code at) k h in grind arith

  shows_row : (c : Control) (last : Bool) (at : ℕ) (a : Aim) (s : State) → (s ≡ State.PageOut row next → ⊥)
      → Shows (cond last (arrived K p code c at a) (with_state c s))
  shows_row c last at a s other e k h = let z = shows_arrived c at a in grind arith

  pub shows_address : (c : Control) (b : ℕ) (s : State) → c.state ≡ s → Shows (address_after K p code c b s)
  shows_address c b s q e k h = grind (arith, shows_row)
