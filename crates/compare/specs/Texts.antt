-- A tally and an error in words. Assumes nothing.
use Rattle.std.specs.Prelude.{ℕ, List, ◌++◌, codes, decimal}
use Rattle.records.specs.Refused as records
use Rattle.compare.specs.declared.answers.Tally.{Tally}
use Rattle.compare.specs.declared.error.CompareError.{CompareError}
use Rattle.compare.specs.declared.error.CompareError.TheVariants.{NoMemory, TooLarge, NotRead}

-- how many calls were taken, and how many refused
abbrev pub tally_text : Tally → List ℕ
tally_text tally = decimal tally.taken ++ (codes " calls taken, " ++ (decimal tally.refused ++ codes " refused"))

-- why two chips were not compared; a trace that was not read is told with the place where reading stopped
abbrev pub error_text : CompareError → List ℕ
error_text NoMemory = codes "no memory for the answers"
error_text TooLarge = codes "the array is too large"
error_text (NotRead side error) = records.error_text error
