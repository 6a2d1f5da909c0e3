-- The worked cases, computed. Assumes nothing.
use Rattle.std.proofs.Common.{◌≡◌, false, not, [], ◌∷◌, sym, refl, ap, subst}
use Rattle.std.proofs.Math.Bool.{not-not}
use Rattle.words.specs.Kind.{Kind}
use Rattle.arrays.specs.Meaning.{Contents, Operation, nothing, accepts, asked, Performs, always_willing}
use Rattle.rules.specs.Controls.{blank, page_of}
use Rattle.rules.specs.Answering.{answer}
use Rattle.rules.specs.Asking.{operation}
use Rattle.rules.specs.Moving.{control_after}
use Rattle.rules.specs.Running.{stop, next}
use Rattle.rules.specs.Bench.{Bench, play, answer_at, contents_at, control_at, chip_at, PlayIsARun}

pub bench : Bench
unfolding play answer operation control_after blank page_of
bench = record {
  joins = refl;
  joins_back = refl;
  doubts = refl;
  last_column = refl;
  last_row = refl;
  row_wraps = refl;
  limit = refl;
  unlocks = refl;
  no_unlock = refl;
  planes = refl;
  busy = refl;
  falls_back = refl;
  wide = refl;
  erases = refl;
  locked = refl;
  copies = refl;
  far_planes = refl;
}

-- an array that fails is left as it is
left : (K : Kind) (x : Operation) (h : Contents) → not (not (accepts K (always_willing h) x)) ≡ false
    → asked K x (not (not (accepts K (always_willing h) x))) h ≡ h
left K x h e = ap (λ b. asked K x b h) e

performs : (K : Kind) (x : Operation) (h : Contents)
    → Performs K x (always_willing h) (not (not (accepts K (always_willing h) x))) (always_willing (asked K x (not (not (accepts K (always_willing h) x))) h))
performs K x h = record {
  told = not-not (accepts K (always_willing h) x);
  holding = refl;
  kept = λ e. ap always_willing (left K x h e);
}

idle : (K : Kind) (x : Operation) (h : Contents) → x ≡ nothing
    → always_willing (asked K x (not (not (accepts K (always_willing h) x))) h) ≡ always_willing h
idle K x h e = subst (λ y. always_willing (asked K y (not (not (accepts K (always_willing h) y))) h) ≡ always_willing h) (sym e) refl

pub play_is_a_run : PlayIsARun
unfolding play
play_is_a_run K o h c [] = (chip_at h c, stop, refl)
play_is_a_run K o h c (call ∷ cs) =
    let r = play_is_a_run K o (contents_at K o h c call) (control_at K o h c call) cs in
    let x = operation K o h.shape c call in
    (r.0, next record { performs = performs K x h; idle = idle K x h; answers = refl; moves = refl } r.1, ap (λ xs. answer_at K o h c call ∷ xs) r.2)
