-- What running a trace on a chip comes to. Assumes nothing.
use Rattle.std.specs.Prelude.{◌≡◌, ℕ, ◌+◌, ◌-◌, ◌*◌, ◌<◌, ◌≤◌, List, [], ◌∷◌, ◌++◌, length, drop, Some, None}
use Rattle.records.specs.declared.call.Call.{Call}
use Rattle.records.specs.Records.{first}
use Rattle.records.specs.Readings.{Reading}
use Rattle.words.specs.Kind.{Kind}
use Rattle.rules.specs.declared.control.Opening.{Opening}
use Rattle.rules.specs.Running.{Chip, Event, Step, Runs, calls, answers}
use Rattle.runner.specs.Results.{result_bytes, bad_bytes, all_results}

-- From a chip, a trace is run with room for so many result bytes: these calls are played and answered, these bytes are written, so many
-- bytes of the trace are used, and the chip ends so.
pub data Plays (K : Kind) (o : Opening) : Chip → List ℕ → ℕ → List Event → List ℕ → ℕ → Chip → Type 0 where
  -- no room for one more result
  full : {c : Chip} {trace : List ℕ} {room : ℕ} → room < 4 → Plays K o c trace room [] [] 0 c
  ended : {c : Chip} {room : ℕ} → Plays K o c [] room [] [] 0 c
  -- a bad record: it is told, and not used
  bad : {c : Chip} {byte : ℕ} {trace : List ℕ} {room : ℕ} → 4 ≤ room → first (byte ∷ trace) ≡ None → Plays K o c (byte ∷ trace) room [] bad_bytes 0 c
  -- a record, and then those after it
  one : {c c' c'' : Chip} {trace rest bytes : List ℕ} {room used : ℕ} {e : Event} {es : List Event} → 4 ≤ room → first trace ≡ Some (e.call, rest)
      → Step K o c e c' → Plays K o c' rest (room - 4) es bytes used c''
      → Plays K o c trace room (e ∷ es) (result_bytes e.answer ++ bytes) ((length trace - length rest) + used) c''

-- A run used so many bytes of the trace and wrote so many result bytes: they stand at the front of the results, and the others are as they were.
pub record Ran (K : Kind) (o : Opening) (c : Chip) (trace results : List ℕ) (used written : ℕ) (results' : List ℕ) (c' : Chip) : Type 0 where
  pub events : List Event
  pub bytes : List ℕ
  pub plays : Plays K o c trace (length results) events bytes used c'
  pub count : written ≡ length bytes
  pub stands : results' ≡ bytes ++ drop written results

-- The calls were played one after another, and each has its result.
pub record PlayedAll (K : Kind) (o : Opening) (c : Chip) (trace results : List ℕ) (cs : List Call) (used written : ℕ) (results' : List ℕ) (c' : Chip) : Type 0 where
  pub events : List Event
  pub runs : Runs K o c events c'
  pub played : calls events ≡ cs
  pub whole : used ≡ length trace
  pub four_each : written ≡ 4 * length cs
  pub told : results' ≡ all_results (answers events) ++ drop written results

-- An accepted trace with room for all its results is playing its calls one after another.
abbrev pub AcceptedIsPlayed : (K : Kind) (o : Opening) (c : Chip) (trace results : List ℕ) (used written : ℕ) (results' : List ℕ) (c' : Chip) → Type 0
AcceptedIsPlayed K o c trace results used written results' c' =
    (cs : List Call) → Reading trace cs → 4 * length cs ≤ length results → PlayedAll K o c trace results cs used written results' c'
