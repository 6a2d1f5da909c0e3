-- An array that a closure makes place by place, where each call leaves the closure as it was.
use Rattle.std.proofs.Common.{◌≡◌, ℕ, zero, suc, ◌+◌, ◌<◌, List, slice_index_or, subst, arith, ◌∙◌}
use Rattle.std.specs.Array.{IsFromFnResultFrom, IsFromFnResult}
use Rattle.std.specs.Fn.{Called}
use denote.Param.Members.{Mut}

module _ {F B : Type 0} (g : Mut F (ℕ × Unit {0}) B) (f : F) (value : ℕ → B) (pure : (i : ℕ) (y : B) (q : F) → Called g f (i, tt) y q → (q ≡ f) × (y ≡ value i)) (d : B) where
  made_from : (ys : List B) (i n : ℕ) → IsFromFnResultFrom g f ys i n → (k : ℕ) → k < n → slice_index_or ys (i + k) d ≡ value (i + k)
  made_from ys i zero made k h = absurd (omega arith)
  made_from ys i (suc n) (q, y, at, called, rest) zero h =
      let same : i + 0 ≡ i = omega arith in
      rw same (at.1 d ∙ (pure i y q called).1)
  made_from ys i (suc n) (q, y, at, called, rest) (suc k) h =
      let on : IsFromFnResultFrom g f ys (i + 1) n = subst (λ q. IsFromFnResultFrom g q ys (i + 1) n) (pure i y q called).0 rest in
      let same : i + suc k ≡ i + 1 + k = omega arith in
      rw same (made_from ys (i + 1) n on k (omega arith))

pub made_at : {F B : Type 0} {g : Mut F (ℕ × Unit {0}) B} {f : F} {ys : List B} {n : ℕ} → IsFromFnResult g f ys n → (value : ℕ → B) →
    ((i : ℕ) (y : B) (q : F) → Called g f (i, tt) y q → (q ≡ f) × (y ≡ value i)) → (d : B) (k : ℕ) → k < n → slice_index_or ys k d ≡ value k
made_at {g = g} {f = f} {ys = ys} {n = n} made value pure d k h =
    let same : 0 + k ≡ k = omega arith in
    subst (λ i. slice_index_or ys i d ≡ value i) same (made_from g f value pure d ys 0 n made.each k h)
