-- A list of calls played on a chip, with the answers; how many were taken. Assumes nothing.
use Rattle.std.specs.Prelude.{◌≡◌, ℕ, ◌+◌, List, [], ◌∷◌, Ok, Err}
use Rattle.records.specs.declared.call.Call.{Call}
use Rattle.words.specs.Kind.{Kind}
use Rattle.rules.specs.declared.control.Opening.{Opening}
use Rattle.rules.specs.Answering.{Answer}
use Rattle.rules.specs.Running.{Chip, Event, Runs, calls, answers}

-- a run by the rules, of these calls with these answers
pub record Played (K : Kind) (o : Opening) (c : Chip) (given : List Call) (told : List Answer) (c' : Chip) : Type 0 where
  pub events : List Event
  pub run : Runs K o c events c'
  pub its_calls : calls events ≡ given
  pub its_answers : answers events ≡ told

-- how many calls were taken, and how many refused
abbrev pub count_taken : List Answer → ℕ
count_taken [] = 0
count_taken (Ok value ∷ more) = 1 + count_taken more
count_taken (Err why ∷ more) = count_taken more

abbrev pub count_refused : List Answer → ℕ
count_refused [] = 0
count_refused (Ok value ∷ more) = count_refused more
count_refused (Err why ∷ more) = 1 + count_refused more
