-- The names of the parts. Assumes nothing.
use Rattle.std.specs.Prelude.{◌≡◌, ◌≢◌, ℕ, List, Result, Ok, MatchResult, codes}
use Rattle.rules.specs.declared.part.Part.{Part}
use Rattle.rules.specs.declared.part.Part.TheVariants.{K9K1208, K9K1216, K9F2808}
use Rattle.rules.specs.declared.part.UnknownPart.{UnknownPart}

-- the bytes of a part's name
abbrev pub part_name : Part → List ℕ
part_name K9K1208 = codes "K9K1208"
part_name K9K1216 = codes "K9K1216"
part_name K9F2808 = codes "K9F2808"

-- a text that is read as a part is the part's name; a text that is refused is the name of none
abbrev pub IsRead : {E : Type 0} → List ℕ → Result Part E → Type 0
IsRead text r = MatchResult r (λ p. text ≡ part_name p) (λ _. (p : Part) → text ≢ part_name p)

-- a part's name reads back as the part, and as no other
abbrev pub NamesReadBack : Type 0
NamesReadBack = (p : Part) (r : Result Part UnknownPart) → IsRead (part_name p) r → r ≡ Ok p
