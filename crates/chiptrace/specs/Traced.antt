-- What the program prints for a trace. Assumes nothing.
use Rattle.std.specs.Prelude.{ℕ, List}
use Rattle.words.specs.Kinds.{byte_kind}
use Rattle.arrays.specs.Meaning.{Meaning, new_contents, always_willing}
use Rattle.rules.specs.declared.part.Part.{Part}
use Rattle.rules.specs.declared.control.Opening.{Opening}
use Rattle.rules.specs.Running.{Chip, Event, opened}
use Rattle.runner.specs.Played.{Plays}

abbrev pub opening : Opening
opening = record { part = Part.K9K1208; device = 118; limit = 3 }

-- two blocks of bytes, all erased
abbrev pub new_array : Meaning
new_array = always_willing (new_contents byte_kind (record { blocks = 2; columns = 528 }))

-- The bytes are the results of the trace on a new chip, with room for 8,192 of them.
pub record Traced (trace bytes : List ℕ) : Type 0 where
  pub events : List Event
  pub used : ℕ
  pub last : Chip
  pub plays : Plays byte_kind opening (opened byte_kind new_array) trace 8192 events bytes used last
