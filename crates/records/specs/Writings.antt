-- What a writer puts into the caller's bytes. Assumes nothing.
use Rattle.std.specs.Prelude.{ℕ, ◌+◌, ◌-◌, Bool, cond, ◌&&◌, List, [], ◌∷◌, length, Some, None, Option, nat_le}
use Rattle.records.specs.declared.call.Call.{Call}
use Rattle.records.specs.Records.{record_of, writable}

-- how many bytes the record of a call has; a call that cannot be written has none
abbrev pub size_of : Call → Option ℕ
size_of call = cond (writable call) (Some (length (record_of call))) None

-- the record of a call can be written into so much room
abbrev pub fits : Call → ℕ → Bool
fits call room = writable call && nat_le (length (record_of call)) room

-- the size of a record that can be written into so much room
abbrev pub size_in : Call → ℕ → Option ℕ
size_in call room = cond (fits call room) (Some (length (record_of call))) None

-- how many of the calls are written into so much room: the writer stops before the first that does not fit
unfoldable pub how_many : List Call → ℕ → ℕ
how_many [] room = 0
how_many (call ∷ calls) room = cond (fits call room) (1 + how_many calls (room - length (record_of call))) 0
