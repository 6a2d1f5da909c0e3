-- The four result bytes of a record. Assumes nothing.
use Rattle.std.specs.Prelude.{ℕ, ◌/◌, ◌%◌, List, [], ◌∷◌, ◌++◌, Ok, Err}
use Rattle.refusals.specs.Numbers.{number}
use Rattle.rules.specs.Answering.{Answer}

-- of an answer: `ok` and the value, low byte first; or `no`, the number of the refusal, 0
abbrev pub result_bytes : Answer → List ℕ
result_bytes (Ok value) = 111 ∷ 107 ∷ value % 256 ∷ value / 256 ∷ []
result_bytes (Err why) = 110 ∷ 111 ∷ number why ∷ 0 ∷ []

-- of a bad record: `no`, 14, 0
abbrev pub bad_bytes : List ℕ
bad_bytes = 110 ∷ 111 ∷ 14 ∷ 0 ∷ []

-- of answers, one after the other
abbrev pub all_results : List Answer → List ℕ
all_results [] = []
all_results (answer ∷ answers) = result_bytes answer ++ all_results answers
