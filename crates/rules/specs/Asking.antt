-- What a call asks of the array: to end the operation under way, whole or torn. Assumes nothing.
use Rattle.std.specs.Prelude.{ℕ, cond, List, map, take, Some, None, Option}
use Rattle.records.specs.declared.call.Call.{Call}
use Rattle.words.specs.Kind.{Kind}
use Rattle.arrays.specs.Meaning.{Shape, Operation, nothing, programs, fills}
use Rattle.rules.specs.declared.part.Part.{Part}
use Rattle.rules.specs.declared.command.Command.{Command}
use Rattle.rules.specs.declared.state.Work.{Work}
use Rattle.rules.specs.declared.control.Opening.{Opening}
use Rattle.rules.specs.declared.control.Control.{Control}
use Rattle.rules.specs.Parts.{columns}
use Rattle.rules.specs.Commands.{decoded}
use Rattle.rules.specs.Controls.{under}
use Rattle.rules.specs.Answering.{is_dead}

-- how a call ends what is under way: not at all, whole, or cut off
pub data Ending : Type 0 where
  none whole torn : Ending

abbrev pub command_ending : Command → Ending
command_ending Command.ReadA = none
command_ending Command.ReadB = none
command_ending Command.ReadC = none
command_ending Command.Load = none
command_ending Command.Program = none
command_ending Command.EraseSetup = none
command_ending Command.EraseConfirm = none
command_ending Command.CopyBack = none
command_ending Command.Status = none
command_ending Command.Id = none
command_ending Command.Reset = torn
command_ending Command.Lock = none
command_ending Command.LockTight = none
command_ending Command.UnlockFirst = none
command_ending Command.UnlockLast = none
command_ending Command.LockStatus = none

abbrev pub cycle_ending : Option Command → Ending
cycle_ending None = none
cycle_ending (Some x) = command_ending x

abbrev pub ending : Part → Call → Ending
ending p (Call.Command byte) = cycle_ending (decoded p byte)
ending p (Call.Address byte) = none
ending p (Call.Write code) = none
ending p Call.Read = none
ending p (Call.Protect level) = none
ending p Call.Settle = whole
ending p (Call.Look row column) = none

-- A program takes the register's codes at the part's columns, an erase fills with the erased code; cut off, it is their torn forms.
abbrev pub operation_of : Kind → Part → List ℕ → Option Work → Ending → Operation
operation_of K p codes None e = nothing
operation_of K p codes (Some work) none = nothing
operation_of K p codes (Some (Work.Program row closes)) whole = programs row (take (columns p) codes) closes
operation_of K p codes (Some (Work.Erase block)) whole = fills block K.erased
operation_of K p codes (Some (Work.Program row closes)) torn = programs row (map K.torn (take (columns p) codes)) closes
operation_of K p codes (Some (Work.Erase block)) torn = fills block K.torn_erase

-- a dead chip asks nothing
unfoldable pub operation : Kind → Opening → Shape → Control → Call → Operation
operation K o h c call =
    cond (is_dead K o h) nothing (operation_of K o.part c.register.codes (under c.state) (ending o.part call))
