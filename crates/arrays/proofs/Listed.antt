-- Whether a block is in a list, by a fold over all of it. Assumes nothing.
use Rattle.std.proofs.Common.{◌≡◌, ℕ, Bool, true, false, ◌||◌, eqb, List, [], ◌∷◌, refl, ◌∙◌}
use Rattle.std.specs.List.{fold}
use Rattle.arrays.specs.Defect.{listed}

turned : (a b c : Bool) → (b || (a || c)) ≡ ((a || b) || c)
turned true true c = refl
turned true false c = refl
turned false true c = refl
turned false false c = refl

pub folded : (list : List ℕ) (block : ℕ) (found : Bool) → fold (λ f b. eqb b block || f) found list ≡ (listed list block || found)
folded [] block found = refl
folded (x ∷ list) block found = folded list block (eqb x block || found) ∙ turned (eqb x block) (listed list block) found
