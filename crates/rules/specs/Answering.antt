-- What a call is answered. The checks stand in the order of their numbers. Assumes nothing.
use Rattle.std.specs.Prelude.{ℕ, zero, suc, ◌/◌, ◌%◌, Bool, true, false, cond, not, ◌&&◌, Some, None, Ok, Err, Option, Result, ◌==◌, nat_le, nat_lt, slice_index_or}
use Rattle.refusals.specs.declared.Refusal.{Refusal}
use Rattle.records.specs.declared.call.Call.{Call}
use Rattle.words.specs.Kind.{Kind}
use Rattle.arrays.specs.Meaning.{Shape, Contents, block_of, rows}
use Rattle.rules.specs.declared.part.Part.{Part}
use Rattle.rules.specs.declared.command.Command.{Command}
use Rattle.rules.specs.declared.state.Aim.{Aim}
use Rattle.rules.specs.declared.state.State.{State}
use Rattle.rules.specs.declared.control.Opening.{Opening}
use Rattle.rules.specs.declared.control.Control.{Control}
use Rattle.rules.specs.Parts.{columns, cells, most_blocks, is_last, next_row}
use Rattle.rules.specs.Commands.{decoded}
use Rattle.rules.specs.Controls.{is_busy, status_of, is_protected, lock_code}

abbrev pub Answer : Type 0
Answer = Result ℕ Refusal

-- the part and the limit fit an array of so many columns and blocks, with so many cells a word
abbrev pub fits : Opening → ℕ → ℕ → ℕ → Bool
fits o width blocks many = width == columns o.part && (many == cells o.part && (nat_lt 0 blocks
    && (nat_le blocks (most_blocks o.part) && (nat_lt 0 o.limit && nat_lt o.limit 16))))

-- a chip whose part and limit do not fit its array
abbrev pub is_dead : Kind → Opening → Shape → Bool
is_dead K o h = not (fits o h.columns h.blocks K.cells)

-- refused where the test holds, else by what follows
abbrev pub unless : Bool → Refusal → Answer → Answer
unless true why rest = Err why
unless false why rest = rest

-- a call with nothing to tell
abbrev pub done : Answer
done = Ok 0

-- blocks of different planes: they differ in bit 0 or bit 11
abbrev pub apart : ℕ → ℕ → Bool
apart a b = not (a % 2 == b % 2 && (a / 2048) % 2 == (b / 2048) % 2)

-- the row has had as many programs as it may
abbrev pub is_full : Opening → Contents → ℕ → Bool
is_full o h row = nat_le o.limit (h.count row)

-- the last cycle of a row inside the array
abbrev pub answer_row : Opening → Contents → Control → ℕ → Aim → Answer
answer_row o h c row (Aim.Read column) = done
answer_row o h c row (Aim.Load column) = done
answer_row o h c row Aim.Erase = done
answer_row o h c row (Aim.CopyBack source) =
    unless (is_protected o.part c row) Refusal.Protected
    (unless (is_full o h row) Refusal.PageFull
    (unless (apart (block_of source) (block_of row)) Refusal.OtherPlane done))
answer_row o h c row Aim.UnlockFirst = done
answer_row o h c row (Aim.UnlockLast first) = unless (nat_lt (block_of row) first) Refusal.Locked done
answer_row o h c row Aim.LockStatus = done

abbrev pub answer_address : Opening → Contents → Control → ℕ → State → Answer
answer_address o h c byte (State.Column purpose) = done
answer_address o h c byte (State.Row aim taken row) =
    cond (is_last o.part taken)
    (unless (not (nat_lt (next_row o.part row taken byte) (rows h.shape))) Refusal.Outside (answer_row o h c (next_row o.part row taken byte) aim))
    done
answer_address o h c byte (State.PageOut row next) = done
answer_address o h c byte (State.Load row next written) = Err Refusal.Unknown
answer_address o h c byte (State.EraseReady row) = Err Refusal.Unknown
answer_address o h c byte (State.UnlockReady first) = Err Refusal.Unknown
answer_address o h c byte State.Status = Err Refusal.Unknown
answer_address o h c byte State.IdAddress = done
answer_address o h c byte (State.Id next) = Err Refusal.Unknown
answer_address o h c byte (State.LockCode block) = Err Refusal.Unknown
answer_address o h c byte (State.Busy work) = Err Refusal.Busy

-- a call that only a load knows
abbrev pub if_loading : State → (ℕ → ℕ → Bool → Answer) → Answer
if_loading (State.Column purpose) f = Err Refusal.Unknown
if_loading (State.Row aim taken row) f = Err Refusal.Unknown
if_loading (State.PageOut row next) f = Err Refusal.Unknown
if_loading (State.Load row next written) f = f row next written
if_loading (State.EraseReady row) f = Err Refusal.Unknown
if_loading (State.UnlockReady first) f = Err Refusal.Unknown
if_loading State.Status f = Err Refusal.Unknown
if_loading State.IdAddress f = Err Refusal.Unknown
if_loading (State.Id next) f = Err Refusal.Unknown
if_loading (State.LockCode block) f = Err Refusal.Unknown
if_loading (State.Busy work) f = Err Refusal.Busy

-- D0h: only where the row of an erase is known
abbrev pub answer_confirm : Part → Control → State → Answer
answer_confirm p c (State.Column purpose) = Err Refusal.Unknown
answer_confirm p c (State.Row aim taken row) = Err Refusal.Unknown
answer_confirm p c (State.PageOut row next) = Err Refusal.Unknown
answer_confirm p c (State.Load row next written) = Err Refusal.Unknown
answer_confirm p c (State.EraseReady row) = unless (is_protected p c row) Refusal.Protected done
answer_confirm p c (State.UnlockReady first) = Err Refusal.Unknown
answer_confirm p c State.Status = Err Refusal.Unknown
answer_confirm p c State.IdAddress = Err Refusal.Unknown
answer_confirm p c (State.Id next) = Err Refusal.Unknown
answer_confirm p c (State.LockCode block) = Err Refusal.Unknown
answer_confirm p c (State.Busy work) = Err Refusal.Busy

-- 8Ah: only while a page is read out
abbrev pub answer_copy : State → Answer
answer_copy (State.Column purpose) = Err Refusal.Unknown
answer_copy (State.Row aim taken row) = Err Refusal.Unknown
answer_copy (State.PageOut row next) = done
answer_copy (State.Load row next written) = Err Refusal.Unknown
answer_copy (State.EraseReady row) = Err Refusal.Unknown
answer_copy (State.UnlockReady first) = Err Refusal.Unknown
answer_copy State.Status = Err Refusal.Unknown
answer_copy State.IdAddress = Err Refusal.Unknown
answer_copy (State.Id next) = Err Refusal.Unknown
answer_copy (State.LockCode block) = Err Refusal.Unknown
answer_copy (State.Busy work) = Err Refusal.Busy

-- 24h: only where the first block of a range is known
abbrev pub answer_last : State → Answer
answer_last (State.Column purpose) = Err Refusal.Unknown
answer_last (State.Row aim taken row) = Err Refusal.Unknown
answer_last (State.PageOut row next) = Err Refusal.Unknown
answer_last (State.Load row next written) = Err Refusal.Unknown
answer_last (State.EraseReady row) = Err Refusal.Unknown
answer_last (State.UnlockReady first) = done
answer_last State.Status = Err Refusal.Unknown
answer_last State.IdAddress = Err Refusal.Unknown
answer_last (State.Id next) = Err Refusal.Unknown
answer_last (State.LockCode block) = Err Refusal.Unknown
answer_last (State.Busy work) = Err Refusal.Busy

-- a command that is taken in every state but busy
abbrev pub starts : Control → Answer → Answer
starts c rest = unless (is_busy c.state) Refusal.Busy rest

abbrev pub answer_command : Opening → Contents → Bool → Control → Command → Answer
answer_command o h failing c Command.ReadA = starts c done
answer_command o h failing c Command.ReadB = starts c done
answer_command o h failing c Command.ReadC = starts c done
answer_command o h failing c Command.Load = starts c done
answer_command o h failing c Command.Program =
    if_loading c.state (λ row next written.
    unless (not written) Refusal.NoWord
    (unless (is_protected o.part c row) Refusal.Protected
    (unless (is_full o h row) Refusal.PageFull done)))
answer_command o h failing c Command.EraseSetup = starts c done
answer_command o h failing c Command.EraseConfirm = answer_confirm o.part c c.state
answer_command o h failing c Command.CopyBack = answer_copy c.state
answer_command o h failing c Command.Status = done
answer_command o h failing c Command.Id = starts c done
answer_command o h failing c Command.Reset = unless failing Refusal.ArrayFailed done
answer_command o h failing c Command.Lock = starts c (unless c.tight Refusal.Locked done)
answer_command o h failing c Command.LockTight = starts c done
answer_command o h failing c Command.UnlockFirst = starts c (unless c.tight Refusal.Locked done)
answer_command o h failing c Command.UnlockLast = answer_last c.state
answer_command o h failing c Command.LockStatus = starts c done

abbrev pub answer_cycle : Opening → Contents → Bool → Control → Option Command → Answer
answer_cycle o h failing c None = starts c (Err Refusal.Unknown)
answer_cycle o h failing c (Some x) = answer_command o h failing c x

-- the maker's code, then the device code
abbrev pub answer_id : ℕ → ℕ → Answer
answer_id device zero = Ok 0xEC
answer_id device (suc zero) = Ok device
answer_id device (suc (suc n)) = Err Refusal.NoColumn

abbrev pub answer_read : Kind → Opening → Control → State → Answer
answer_read K o c (State.Column purpose) = Err Refusal.Unknown
answer_read K o c (State.Row aim taken row) = Err Refusal.Unknown
answer_read K o c (State.PageOut row next) =
    unless (not (nat_lt next (columns o.part))) Refusal.NoColumn (Ok (slice_index_or c.register.codes next K.erased))
answer_read K o c (State.Load row next written) = Err Refusal.Unknown
answer_read K o c (State.EraseReady row) = Err Refusal.Unknown
answer_read K o c (State.UnlockReady first) = Err Refusal.Unknown
answer_read K o c State.Status = Ok (status_of c)
answer_read K o c State.IdAddress = Err Refusal.Unknown
answer_read K o c (State.Id next) = answer_id o.device next
answer_read K o c (State.LockCode block) = Ok (lock_code o.part c block)
answer_read K o c (State.Busy work) = Ok (status_of c)

-- what a live chip answers, over what its array holds; `failing` says that the array fails at this call
abbrev pub answer_alive : Kind → Opening → Contents → Bool → Control → Call → Answer
answer_alive K o h failing c (Call.Command byte) = answer_cycle o h failing c (decoded o.part byte)
answer_alive K o h failing c (Call.Address byte) = answer_address o h c byte c.state
answer_alive K o h failing c (Call.Write code) =
    unless (not (K.lawful code)) Refusal.Unlawful
    (if_loading c.state (λ row next written. unless (not (nat_lt next (columns o.part))) Refusal.NoColumn done))
answer_alive K o h failing c Call.Read = answer_read K o c c.state
answer_alive K o h failing c (Call.Protect level) = unless (not (nat_lt level 2)) Refusal.Unlawful (starts c done)
answer_alive K o h failing c Call.Settle = unless (not (is_busy c.state)) Refusal.NotBusy (unless failing Refusal.ArrayFailed done)
answer_alive K o h failing c (Call.Look row column) =
    unless (not (nat_lt row (rows h.shape))) Refusal.Outside
    (unless (not (nat_lt column h.shape.columns)) Refusal.NoColumn (Ok (h.code row column)))

unfoldable pub answer : Kind → Opening → Contents → Bool → Control → Call → Answer
answer K o h failing c call = unless (is_dead K o h.shape) Refusal.Dead (answer_alive K o h failing c call)
