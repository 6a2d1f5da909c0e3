-- Why no record begins where a trace is bad. Assumes nothing.
use Rattle.std.specs.Prelude.{ℕ, Bool, cond, ◌||◌, List, [], ◌∷◌, codes}
use Rattle.records.specs.declared.flaws.Flaw.{Flaw}
use Rattle.records.specs.declared.flaws.Flaw.TheVariants.{UnknownMark, Short}
use Rattle.records.specs.Records.{marks}

-- two letters are one of the seven marks
abbrev pub is_mark : ℕ → ℕ → Bool
is_mark m n = marks m n 67 77 || (marks m n 65 68 || (marks m n 68 73 || (marks m n 68 79 || (marks m n 87 80 || (marks m n 83 84 || marks m n 76 75)))))

-- why no record begins: a mark that is known, or a single byte, is short of what has to follow it
abbrev pub cause : List ℕ → Flaw
cause [] = Short
cause (m ∷ []) = Short
cause (m ∷ n ∷ rest) = cond (is_mark m n) Short UnknownMark

-- a flaw in words
abbrev pub flaw_text : Flaw → List ℕ
flaw_text UnknownMark = codes "unknown mark"
flaw_text Short = codes "short record"
