-- The control after a call, given what the call was answered. Assumes nothing.
use Rattle.std.specs.Prelude.{ℕ, zero, suc, ◌+◌, true, false, cond, Some, None, Ok, Err, Option, slice_set}
use Rattle.refusals.specs.declared.Refusal.{Refusal}
use Rattle.records.specs.declared.call.Call.{Call}
use Rattle.words.specs.Kind.{Kind}
use Rattle.arrays.specs.Meaning.{block_of}
use Rattle.rules.specs.declared.part.Part.{Part}
use Rattle.rules.specs.declared.part.Pointer.{Pointer}
use Rattle.rules.specs.declared.command.Command.{Command}
use Rattle.rules.specs.declared.state.Work.{Work}
use Rattle.rules.specs.declared.state.Purpose.{Purpose}
use Rattle.rules.specs.declared.state.Aim.{Aim}
use Rattle.rules.specs.declared.state.State.{State}
use Rattle.rules.specs.declared.control.Control.{Control}
use Rattle.rules.specs.Parts.{start_column, fallen_back, is_last, next_row}
use Rattle.rules.specs.Commands.{decoded}
use Rattle.rules.specs.Controls.{blank, page_of, with_state, with_codes, with_pointer, with_wp, with_fail, with_lock}
use Rattle.rules.specs.Answering.{Answer}
use Rattle.rules.specs.Asking.{Ending, none, whole, torn, ending}

-- the row cycles that follow a column cycle
abbrev pub aim_of : ℕ → Purpose → Aim
aim_of column Purpose.Read = Aim.Read column
aim_of column Purpose.Load = Aim.Load column
aim_of column (Purpose.CopyBack source) = Aim.CopyBack source

-- row cycles are next, and none was taken
abbrev pub rows_for : Aim → State
rows_for aim = State.Row aim 0 0

-- the last row cycle was taken; `code` is what the array holds
abbrev pub arrived : Kind → Part → (ℕ → ℕ → ℕ) → Control → ℕ → Aim → Control
arrived K p code c row (Aim.Read column) =
    with_pointer (with_codes (with_state c (State.PageOut row column)) (page_of p K.erased (code row))) (fallen_back c.pointer)
arrived K p code c row (Aim.Load column) = with_pointer (with_state c (State.Load row column false)) (fallen_back c.pointer)
arrived K p code c row Aim.Erase = with_pointer (with_state c (State.EraseReady row)) (fallen_back c.pointer)
arrived K p code c row (Aim.CopyBack source) = with_state c (State.Busy (Work.Program row true))
arrived K p code c row Aim.UnlockFirst = with_state c (State.UnlockReady (block_of row))
arrived K p code c row (Aim.UnlockLast first) = with_lock (with_state c State.Status) c.tight (Some (record { first = first; last = block_of row }))
arrived K p code c row Aim.LockStatus = with_state c (State.LockCode (block_of row))

abbrev pub address_after : Kind → Part → (ℕ → ℕ → ℕ) → Control → ℕ → State → Control
address_after K p code c byte (State.Column purpose) = with_state c (rows_for (aim_of (start_column p c.pointer byte) purpose))
address_after K p code c byte (State.Row aim taken row) =
    cond (is_last p taken)
    (arrived K p code c (next_row p row taken byte) aim)
    (with_state c (State.Row aim (taken + 1) (next_row p row taken byte)))
address_after K p code c byte (State.PageOut row next) = with_state c (rows_for (Aim.Read (start_column p c.pointer byte)))
address_after K p code c byte (State.Load row next written) = c
address_after K p code c byte (State.EraseReady row) = c
address_after K p code c byte (State.UnlockReady first) = c
address_after K p code c byte State.Status = c
address_after K p code c byte State.IdAddress = with_state c (State.Id 0)
address_after K p code c byte (State.Id next) = c
address_after K p code c byte (State.LockCode block) = c
address_after K p code c byte (State.Busy work) = c

-- a word that was taken stands at the next column
abbrev pub write_after : Control → ℕ → State → Control
write_after c word (State.Column purpose) = c
write_after c word (State.Row aim taken row) = c
write_after c word (State.PageOut row next) = c
write_after c word (State.Load row next written) = with_codes (with_state c (State.Load row (next + 1) true)) (slice_set c.register.codes next word)
write_after c word (State.EraseReady row) = c
write_after c word (State.UnlockReady first) = c
write_after c word State.Status = c
write_after c word State.IdAddress = c
write_after c word (State.Id next) = c
write_after c word (State.LockCode block) = c
write_after c word (State.Busy work) = c

-- a read moves on by one word
abbrev pub read_after : State → State
read_after (State.Column purpose) = State.Column purpose
read_after (State.Row aim taken row) = State.Row aim taken row
read_after (State.PageOut row next) = State.PageOut row (next + 1)
read_after (State.Load row next written) = State.Load row next written
read_after (State.EraseReady row) = State.EraseReady row
read_after (State.UnlockReady first) = State.UnlockReady first
read_after State.Status = State.Status
read_after State.IdAddress = State.IdAddress
read_after (State.Id next) = State.Id (next + 1)
read_after (State.LockCode block) = State.LockCode block
read_after (State.Busy work) = State.Busy work

-- 10h after a load's addresses
abbrev pub program_started : State → State
program_started (State.Column purpose) = State.Column purpose
program_started (State.Row aim taken row) = State.Row aim taken row
program_started (State.PageOut row next) = State.PageOut row next
program_started (State.Load row next written) = State.Busy (Work.Program row false)
program_started (State.EraseReady row) = State.EraseReady row
program_started (State.UnlockReady first) = State.UnlockReady first
program_started State.Status = State.Status
program_started State.IdAddress = State.IdAddress
program_started (State.Id next) = State.Id next
program_started (State.LockCode block) = State.LockCode block
program_started (State.Busy work) = State.Busy work

-- D0h after an erase's row
abbrev pub erase_started : State → State
erase_started (State.Column purpose) = State.Column purpose
erase_started (State.Row aim taken row) = State.Row aim taken row
erase_started (State.PageOut row next) = State.PageOut row next
erase_started (State.Load row next written) = State.Load row next written
erase_started (State.EraseReady row) = State.Busy (Work.Erase (block_of row))
erase_started (State.UnlockReady first) = State.UnlockReady first
erase_started State.Status = State.Status
erase_started State.IdAddress = State.IdAddress
erase_started (State.Id next) = State.Id next
erase_started (State.LockCode block) = State.LockCode block
erase_started (State.Busy work) = State.Busy work

-- 8Ah while a page is read out
abbrev pub copy_begun : State → State
copy_begun (State.Column purpose) = State.Column purpose
copy_begun (State.Row aim taken row) = State.Row aim taken row
copy_begun (State.PageOut row next) = State.Column (Purpose.CopyBack row)
copy_begun (State.Load row next written) = State.Load row next written
copy_begun (State.EraseReady row) = State.EraseReady row
copy_begun (State.UnlockReady first) = State.UnlockReady first
copy_begun State.Status = State.Status
copy_begun State.IdAddress = State.IdAddress
copy_begun (State.Id next) = State.Id next
copy_begun (State.LockCode block) = State.LockCode block
copy_begun (State.Busy work) = State.Busy work

-- 24h after the first block of a range
abbrev pub last_begun : State → State
last_begun (State.Column purpose) = State.Column purpose
last_begun (State.Row aim taken row) = State.Row aim taken row
last_begun (State.PageOut row next) = State.PageOut row next
last_begun (State.Load row next written) = State.Load row next written
last_begun (State.EraseReady row) = State.EraseReady row
last_begun (State.UnlockReady first) = rows_for (Aim.UnlockLast first)
last_begun State.Status = State.Status
last_begun State.IdAddress = State.IdAddress
last_begun (State.Id next) = State.Id next
last_begun (State.LockCode block) = State.LockCode block
last_begun (State.Busy work) = State.Busy work

-- 70h: a busy chip stays busy
abbrev pub status_shown : State → State
status_shown (State.Column purpose) = State.Status
status_shown (State.Row aim taken row) = State.Status
status_shown (State.PageOut row next) = State.Status
status_shown (State.Load row next written) = State.Status
status_shown (State.EraseReady row) = State.Status
status_shown (State.UnlockReady first) = State.Status
status_shown State.Status = State.Status
status_shown State.IdAddress = State.Status
status_shown (State.Id next) = State.Status
status_shown (State.LockCode block) = State.Status
status_shown (State.Busy work) = State.Busy work

-- a read from an area begins
abbrev pub read_from : Control → Pointer → Control
read_from c area = with_pointer (with_state c (State.Column Purpose.Read)) area

-- FFh: the fail bit is cleared, and the chip waits as after 00h
abbrev pub after_reset : Control → Control
after_reset c = with_fail (read_from c Pointer.A) false

abbrev pub command_after : Kind → Control → Command → Control
command_after K c Command.ReadA = read_from c Pointer.A
command_after K c Command.ReadB = read_from c Pointer.B
command_after K c Command.ReadC = read_from c Pointer.C
command_after K c Command.Load = with_codes (with_state c (State.Column Purpose.Load)) (blank K.erased)
command_after K c Command.Program = with_state c (program_started c.state)
command_after K c Command.EraseSetup = with_state c (rows_for Aim.Erase)
command_after K c Command.EraseConfirm = with_state c (erase_started c.state)
command_after K c Command.CopyBack = with_state c (copy_begun c.state)
command_after K c Command.Status = with_state c (status_shown c.state)
command_after K c Command.Id = with_state c State.IdAddress
command_after K c Command.Reset = after_reset c
command_after K c Command.Lock = with_lock (with_state c State.Status) c.tight None
command_after K c Command.LockTight = with_lock (with_state c State.Status) true None
command_after K c Command.UnlockFirst = with_state c (rows_for Aim.UnlockFirst)
command_after K c Command.UnlockLast = with_state c (last_begun c.state)
command_after K c Command.LockStatus = with_state c (rows_for Aim.LockStatus)

abbrev pub cycle_after : Kind → Control → Option Command → Control
cycle_after K c None = c
cycle_after K c (Some x) = command_after K c x

-- low closes the range and ends tight
abbrev pub protect_after : Control → ℕ → Control
protect_after c zero = with_lock (with_wp c false) false None
protect_after c (suc level) = with_wp c true

-- the call was taken
abbrev pub taken_after : Kind → Part → (ℕ → ℕ → ℕ) → Control → Call → Control
taken_after K p code c (Call.Command byte) = cycle_after K c (decoded p byte)
taken_after K p code c (Call.Address byte) = address_after K p code c byte c.state
taken_after K p code c (Call.Write word) = write_after c word c.state
taken_after K p code c Call.Read = with_state c (read_after c.state)
taken_after K p code c (Call.Protect level) = protect_after c level
taken_after K p code c Call.Settle = with_fail (with_state c State.Status) false
taken_after K p code c (Call.Look row column) = c

-- a start was refused: nothing has started, the fail bit is 1, and read gives the status
abbrev pub start_refused : Control → Control
start_refused c = with_fail (with_state c State.Status) true

-- the array failed at the call
abbrev pub failed_after : Control → Ending → Control
failed_after c none = c
failed_after c whole = with_fail (with_state c State.Status) true
failed_after c torn = after_reset c

abbrev pub refused_after : Part → Control → Call → Refusal → Control
refused_after p c call Refusal.Dead = c
refused_after p c call Refusal.Unlawful = c
refused_after p c call Refusal.Busy = c
refused_after p c call Refusal.Unknown = c
refused_after p c call Refusal.NotBusy = c
refused_after p c call Refusal.Outside = c
refused_after p c call Refusal.NoColumn = c
refused_after p c call Refusal.NoWord = c
refused_after p c call Refusal.Locked = c
refused_after p c call Refusal.Protected = start_refused c
refused_after p c call Refusal.PageFull = start_refused c
refused_after p c call Refusal.OtherPlane = start_refused c
refused_after p c call Refusal.ArrayFailed = failed_after c (ending p call)
refused_after p c call Refusal.BadRecord = c
refused_after p c call Refusal.ListFull = c

-- the control after a call that was answered so
abbrev pub moved : Kind → Part → (ℕ → ℕ → ℕ) → Control → Call → Answer → Control
moved K p code c call (Ok value) = taken_after K p code c call
moved K p code c call (Err why) = refused_after p c call why

-- the same, shut
unfoldable pub control_after : Kind → Part → (ℕ → ℕ → ℕ) → Control → Call → Answer → Control
control_after K p code c call a = moved K p code c call a
