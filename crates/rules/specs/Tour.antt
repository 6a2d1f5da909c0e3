-- More worked cases: every command and every refusal that a chip gives. Assumes nothing.
use Rattle.std.specs.Prelude.{◌≡◌, List, [], ◌∷◌, ◌++◌, Ok, Err}
use Rattle.refusals.specs.declared.Refusal.{Refusal}
use Rattle.records.specs.declared.call.Call.{Call}
use Rattle.words.specs.Kinds.{byte_kind, word16_kind}
use Rattle.arrays.specs.Meaning.{new_contents}
use Rattle.rules.specs.declared.part.Part.TheVariants.{K9K1208, K9K1216, K9F2808}
use Rattle.rules.specs.Controls.{fresh}
use Rattle.rules.specs.Bench.{on_new, taken, play, program, fetch, block_0, block_1}

-- 23h and 24h with these blocks; on parts with lock
abbrev pub unlock : List Call → List Call → List Call
unlock first last = Call.Command 0x23 ∷ first ++ Call.Command 0x24 ∷ last

-- the lock code of a block
abbrev pub lock_of : List Call → List Call
lock_of block = Call.Command 0x7A ∷ block ++ Call.Read ∷ []

-- 60h and D0h on row 0; on K9F2808
abbrev pub erase : List Call
erase = Call.Command 0x60 ∷ Call.Address 0 ∷ Call.Address 0 ∷ Call.Command 0xD0 ∷ []

pub record Tour : Type 0 where
  -- 90h takes any byte; reads give ECh, the device code, then 7 each time
  pub ids : on_new byte_kind K9K1208 (Call.Command 0x90 ∷ Call.Read ∷ Call.Address 0x55 ∷ Call.Read ∷ Call.Read ∷ Call.Read ∷ Call.Read ∷ Call.Address 0 ∷ [])
      ≡ Ok 0 ∷ Err Refusal.Unknown ∷ Ok 0 ∷ Ok 0xEC ∷ Ok 0x76 ∷ Err Refusal.NoColumn ∷ Err Refusal.NoColumn ∷ Err Refusal.Unknown ∷ []
  -- reads go on column by column; a further address cycle begins a new read, and until its row is complete a read has no meaning
  pub reads : on_new byte_kind K9F2808
      (Call.Command 0x80 ∷ Call.Address 0 ∷ Call.Address 0 ∷ Call.Address 0 ∷ Call.Write 1 ∷ Call.Write 2 ∷ Call.Write 3 ∷ Call.Command 0x10 ∷ Call.Settle
      ∷ fetch ++ Call.Read ∷ Call.Read ∷ Call.Read ∷ Call.Address 1 ∷ Call.Read ∷ Call.Address 0 ∷ Call.Address 0 ∷ Call.Read ∷ Call.Read ∷ Call.Read ∷ [])
      ≡ taken 13 ++ Ok 1 ∷ Ok 2 ∷ Ok 3 ∷ Ok 0 ∷ Err Refusal.Unknown ∷ Ok 0 ∷ Ok 0 ∷ Ok 2 ∷ Ok 3 ∷ Ok 0xFF ∷ []
  -- the last column is read, then 7 each time
  pub ends : on_new word16_kind K9K1216 (Call.Command 0x50 ∷ Call.Address 0x0F ∷ block_0 ++ Call.Read ∷ Call.Read ∷ Call.Read ∷ [])
      ≡ taken 5 ++ Ok 0xFFFF ∷ Err Refusal.NoColumn ∷ Err Refusal.NoColumn ∷ []
  -- 80h erases the register: a word of the load before it is not written again
  pub clears : on_new byte_kind K9F2808
      (program 0x0F ++ Call.Settle ∷ Call.Command 0x80 ∷ Call.Address 5 ∷ Call.Address 1 ∷ Call.Address 0 ∷ Call.Write 0x33 ∷ Call.Command 0x10 ∷ Call.Settle
      ∷ Call.Look 1 0 ∷ Call.Look 1 5 ∷ Call.Look 0 5 ∷ [])
      ≡ taken 14 ++ Ok 0xFF ∷ Ok 0x33 ∷ Ok 0xFF ∷ []
  -- 10h with no word written returns 8, and the load goes on
  pub no_word : on_new byte_kind K9F2808
      (Call.Command 0x80 ∷ Call.Address 0 ∷ Call.Address 0 ∷ Call.Address 0 ∷ Call.Command 0x10 ∷ Call.Command 0xD0 ∷ Call.Write 0x0F ∷ Call.Command 0x10 ∷ Call.Settle ∷ Call.Look 0 0 ∷ [])
      ≡ taken 4 ++ Err Refusal.NoWord ∷ Err Refusal.Unknown ∷ taken 3 ++ Ok 0x0F ∷ []
  -- write protect low refuses starts by 10; the status has its bit, and the fail bit until FFh or a settle clears it
  pub protects : on_new byte_kind K9F2808
      (program 0x0F ++ Call.Settle ∷ Call.Protect 2 ∷ Call.Protect 0 ∷ program 0x0E ++ Call.Read ∷ Call.Protect 1 ∷ Call.Read ∷ erase ++ Call.Read ∷ Call.Settle
      ∷ Call.Read ∷ Call.Look 0 0 ∷ [])
      ≡ taken 7 ++ Err Refusal.Unlawful ∷ taken 6 ++ Err Refusal.Protected ∷ Ok 0x41 ∷ Ok 0 ∷ Ok 0xC1 ∷ taken 4 ++ Ok 0x81 ∷ Ok 0 ∷ Ok 0xC0 ∷ Ok 0xFF ∷ []
  -- FFh clears the fail bit, sets the pointer to A and waits as after 00h
  pub resets : on_new byte_kind K9F2808
      (Call.Protect 0 ∷ erase ++ Call.Protect 1 ∷ Call.Command 0x50 ∷ Call.Command 0xFF ∷ Call.Read ∷ Call.Command 0x70 ∷ Call.Read ∷ program 0x0F ++ Call.Settle ∷ Call.Look 0 0 ∷ [])
      ≡ taken 4 ++ Err Refusal.Protected ∷ taken 3 ++ Err Refusal.Unknown ∷ Ok 0 ∷ Ok 0xC0 ∷ taken 7 ++ Ok 0x0F ∷ []
  -- busy knows only read, 70h, FFh, settle and look
  pub busy : on_new byte_kind K9F2808
      (program 0x0F ++ Call.Command 0x00 ∷ Call.Command 0x77 ∷ Call.Address 0 ∷ Call.Write 0 ∷ Call.Write 0x100 ∷ Call.Protect 0 ∷ Call.Command 0x70 ∷ Call.Read ∷ Call.Look 0 0
      ∷ Call.Settle ∷ Call.Settle ∷ Call.Read ∷ Call.Look 0 0 ∷ [])
      ≡ taken 6 ++ Err Refusal.Busy ∷ Err Refusal.Busy ∷ Err Refusal.Busy ∷ Err Refusal.Busy ∷ Err Refusal.Unlawful ∷ Err Refusal.Busy ∷ Ok 0 ∷ Ok 0x80 ∷ Ok 0xFF
      ∷ Ok 0 ∷ Err Refusal.NotBusy ∷ Ok 0xC0 ∷ Ok 0x0F ∷ []
  -- a new unlock replaces the range; 2Ah closes it; 2Ch makes the lock tight, and then 2Ah and 23h return 9; protect 0 ends tight
  pub locks : on_new byte_kind K9K1208
      (unlock block_0 block_0 ++ unlock block_1 block_1 ++ Call.Read ∷ lock_of block_0 ++ lock_of block_1 ++ Call.Command 0x2A ∷ lock_of block_1
      ++ Call.Command 0x2C ∷ lock_of block_1 ++ Call.Command 0x2A ∷ Call.Command 0x23 ∷ Call.Command 0x2C ∷ Call.Protect 0 ∷ lock_of block_1 ++ unlock block_1 block_1 ++ lock_of block_1)
      ≡ taken 16 ++ Ok 0xC0 ∷ taken 4 ++ Ok 2 ∷ taken 4 ++ Ok 4 ∷ taken 5 ++ Ok 2 ∷ taken 5 ++ Ok 1 ∷ Err Refusal.Locked ∷ Err Refusal.Locked ∷ taken 6 ++ Ok 2
      ∷ taken 12 ++ Ok 4 ∷ []
  -- protect 0 closes the range
  pub closes : on_new byte_kind K9K1208 (unlock block_1 block_1 ++ Call.Protect 0 ∷ Call.Protect 1 ∷ lock_of block_1) ≡ taken 14 ++ Ok 2 ∷ []
  -- an erase in a locked block returns 10
  pub locked : on_new byte_kind K9K1208 (Call.Command 0x60 ∷ block_1 ++ Call.Command 0xD0 ∷ Call.Read ∷ []) ≡ taken 4 ++ Err Refusal.Protected ∷ Ok 0xC1 ∷ []
  -- what has no meaning here
  pub unknown : on_new byte_kind K9F2808
      (Call.Command 0x77 ∷ Call.Command 0x10 ∷ Call.Command 0xD0 ∷ Call.Read ∷ Call.Write 0 ∷ Call.Settle ∷ Call.Command 0x2A ∷ Call.Command 0x2C ∷ Call.Command 0x23
      ∷ Call.Command 0x24 ∷ Call.Command 0x7A ∷ Call.Command 0x8A ∷ Call.Command 0x70 ∷ Call.Address 0 ∷ [])
      ≡ Err Refusal.Unknown ∷ Err Refusal.Unknown ∷ Err Refusal.Unknown ∷ Err Refusal.Unknown ∷ Err Refusal.Unknown ∷ Err Refusal.NotBusy ∷ Err Refusal.Unknown
      ∷ Err Refusal.Unknown ∷ Err Refusal.Unknown ∷ Err Refusal.Unknown ∷ Err Refusal.Unknown ∷ Err Refusal.Unknown ∷ Ok 0 ∷ Err Refusal.Unknown ∷ []
  -- after a row outside, the next address cycle is the last one again; look's row and column
  pub outside : on_new byte_kind K9K1208
      (Call.Command 0x00 ∷ Call.Address 0 ∷ Call.Address 0 ∷ Call.Address 0 ∷ Call.Address 1 ∷ Call.Read ∷ Call.Address 0 ∷ Call.Read ∷ Call.Look 63 527 ∷ Call.Look 64 0
      ∷ Call.Look 63 528 ∷ Call.Look 131072 0 ∷ [])
      ≡ taken 4 ++ Err Refusal.Outside ∷ Err Refusal.Unknown ∷ Ok 0 ∷ Ok 0xFF ∷ Ok 0xFF ∷ Err Refusal.Outside ∷ Err Refusal.NoColumn ∷ Err Refusal.Outside ∷ []
  -- an erase zeroes the counts; a cut program counts
  pub counts : on_new byte_kind K9F2808
      (program 0xFE ++ Call.Command 0xFF ∷ program 0xFD ++ Call.Command 0xFF ∷ program 0xFB ++ Call.Command 0xFF ∷ program 0xF7 ++ erase ++ Call.Settle ∷ program 0xF7 ++ Call.Settle ∷ Call.Look 0 0 ∷ [])
      ≡ taken 26 ++ Err Refusal.PageFull ∷ taken 12 ++ Ok 0xF7 ∷ []
  -- 8Ah needs a page that is read out, its column must come, and until its row is complete a read has no meaning; a closed page is full for a copy-back too
  pub copies : on_new byte_kind K9K1208
      (unlock block_0 block_1 ++ Call.Command 0x8A ∷ Call.Command 0x00 ∷ Call.Address 0 ∷ block_0 ++ Call.Command 0x8A ∷ Call.Read ∷ Call.Address 0x99 ∷ Call.Address 1
      ∷ Call.Read ∷ Call.Address 0 ∷ Call.Address 0 ∷ Call.Read ∷ Call.Settle ∷ Call.Command 0x00 ∷ Call.Address 0 ∷ block_0 ++ Call.Command 0x8A ∷ Call.Address 0 ∷ Call.Address 1
      ∷ Call.Address 0 ∷ Call.Address 0 ∷ [])
      ≡ taken 8 ++ Err Refusal.Unknown ∷ taken 6 ++ Err Refusal.Unknown ∷ Ok 0 ∷ Ok 0 ∷ Err Refusal.Unknown ∷ Ok 0 ∷ Ok 0 ∷ Ok 0x80 ∷ taken 10 ++ Err Refusal.PageFull ∷ []
  -- a limit of 0 makes the chip dead
  pub dead : play byte_kind (record { part = K9F2808; device = 0x98; limit = 0 }) (new_contents byte_kind (record { blocks = 2; columns = 528 })) (fresh 0xFF)
      (Call.Command 0x00 ∷ Call.Look 0 0 ∷ Call.Command 0xFF ∷ Call.Protect 7 ∷ Call.Settle ∷ Call.Read ∷ [])
      ≡ Err Refusal.Dead ∷ Err Refusal.Dead ∷ Err Refusal.Dead ∷ Err Refusal.Dead ∷ Err Refusal.Dead ∷ Err Refusal.Dead ∷ []
