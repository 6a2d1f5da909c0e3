-- The commands, and the bytes that name them. Assumes nothing.
use Rattle.std.specs.Prelude.{ℕ, Bool, true, cond, Some, None, Option, ◌==◌}
use Rattle.rules.specs.declared.part.Part.{Part}
use Rattle.rules.specs.declared.command.Command.{Command}
use Rattle.rules.specs.Parts.{locks, has_b}

abbrev pub command_of : ℕ → Option Command
command_of byte =
    cond (byte == 0x00) (Some Command.ReadA)
    (cond (byte == 0x01) (Some Command.ReadB)
    (cond (byte == 0x50) (Some Command.ReadC)
    (cond (byte == 0x80) (Some Command.Load)
    (cond (byte == 0x10) (Some Command.Program)
    (cond (byte == 0x60) (Some Command.EraseSetup)
    (cond (byte == 0xD0) (Some Command.EraseConfirm)
    (cond (byte == 0x8A) (Some Command.CopyBack)
    (cond (byte == 0x70) (Some Command.Status)
    (cond (byte == 0x90) (Some Command.Id)
    (cond (byte == 0xFF) (Some Command.Reset)
    (cond (byte == 0x2A) (Some Command.Lock)
    (cond (byte == 0x2C) (Some Command.LockTight)
    (cond (byte == 0x23) (Some Command.UnlockFirst)
    (cond (byte == 0x24) (Some Command.UnlockLast)
    (cond (byte == 0x7A) (Some Command.LockStatus)
    None)))))))))))))))

-- the part has the command
abbrev pub knows : Part → Command → Bool
knows p Command.ReadA = true
knows p Command.ReadB = has_b p
knows p Command.ReadC = true
knows p Command.Load = true
knows p Command.Program = true
knows p Command.EraseSetup = true
knows p Command.EraseConfirm = true
knows p Command.CopyBack = locks p
knows p Command.Status = true
knows p Command.Id = true
knows p Command.Reset = true
knows p Command.Lock = locks p
knows p Command.LockTight = locks p
knows p Command.UnlockFirst = locks p
knows p Command.UnlockLast = locks p
knows p Command.LockStatus = locks p

abbrev pub if_known : Part → Option Command → Option Command
if_known p None = None
if_known p (Some x) = cond (knows p x) (Some x) None

-- the command that a byte names on the part
abbrev pub decoded : Part → ℕ → Option Command
decoded p byte = if_known p (command_of byte)
