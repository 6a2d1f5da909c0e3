-- Worked cases: calls on a chip over an array that is always willing within its shape. Assumes nothing.
use Rattle.std.specs.Prelude.{◌≡◌, ℕ, Bool, not, List, [], ◌∷◌, ◌++◌, replicate, Ok, Err}
use Rattle.refusals.specs.declared.Refusal.{Refusal}
use Rattle.records.specs.declared.call.Call.{Call}
use Rattle.words.specs.Kind.{Kind}
use Rattle.words.specs.Kinds.{byte_kind, word16_kind, doubting_kind}
use Rattle.arrays.specs.Meaning.{Contents, accepts, asked, new_contents, always_willing}
use Rattle.rules.specs.declared.part.Part.{Part}
use Rattle.rules.specs.declared.part.Part.TheVariants.{K9K1208, K9K1216, K9F2808}
use Rattle.rules.specs.declared.control.Opening.{Opening}
use Rattle.rules.specs.declared.control.Control.{Control}
use Rattle.rules.specs.Parts.{columns}
use Rattle.rules.specs.Controls.{fresh}
use Rattle.rules.specs.Answering.{Answer, answer}
use Rattle.rules.specs.Asking.{operation}
use Rattle.rules.specs.Moving.{control_after}
use Rattle.rules.specs.Running.{Chip, Event, Runs, answers}

-- whether the array fails at a call
abbrev pub fails_at : Kind → Opening → Contents → Control → Call → Bool
fails_at K o h c call = not (accepts K (always_willing h) (operation K o h.shape c call))

abbrev pub answer_at : Kind → Opening → Contents → Control → Call → Answer
answer_at K o h c call = answer K o h (fails_at K o h c call) c call

abbrev pub control_at : Kind → Opening → Contents → Control → Call → Control
control_at K o h c call = control_after K o.part h.code c call (answer_at K o h c call)

abbrev pub contents_at : Kind → Opening → Contents → Control → Call → Contents
contents_at K o h c call = asked K (operation K o h.shape c call) (not (fails_at K o h c call)) h

-- the answers to calls, one after another
unfoldable pub play : Kind → Opening → Contents → Control → List Call → List Answer
play K o h c [] = []
play K o h c (call ∷ cs) = answer_at K o h c call ∷ play K o (contents_at K o h c call) (control_at K o h c call) cs

-- the same calls as a run
abbrev pub events : Kind → Opening → Contents → Control → List Call → List Event
events K o h c [] = []
events K o h c (call ∷ cs) =
    record { call = call; answer = answer_at K o h c call; failed = fails_at K o h c call } ∷ events K o (contents_at K o h c call) (control_at K o h c call) cs

abbrev pub chip_at : Contents → Control → Chip
chip_at h c = record { control = c; memory = always_willing h }

-- what is played is a run, with those answers
abbrev pub PlayIsARun : Type 0
PlayIsARun = (K : Kind) (o : Opening) (h : Contents) (c : Control) (cs : List Call)
    → (c' : Chip) × Runs K o (chip_at h c) (events K o h c cs) c' × (answers (events K o h c cs) ≡ play K o h c cs)

-- a new chip of so many blocks, device code 76h, limit 3
abbrev pub on_blocks : ℕ → Kind → Part → List Call → List Answer
on_blocks n K p cs = play K (record { part = p; device = 0x76; limit = 3 }) (new_contents K (record { blocks = n; columns = columns p })) (fresh K.erased) cs

-- a new chip of two blocks
abbrev pub on_new : Kind → Part → List Call → List Answer
on_new K p cs = on_blocks 2 K p cs

-- so many calls with nothing to tell
abbrev pub taken : ℕ → List Answer
taken n = replicate n (Ok 0)

-- 80h, the first column of row 0, a word, 10h; on K9F2808
abbrev pub program : ℕ → List Call
program word = Call.Command 0x80 ∷ Call.Address 0 ∷ Call.Address 0 ∷ Call.Address 0 ∷ Call.Write word ∷ Call.Command 0x10 ∷ []

-- 00h, the first column of row 0; on K9F2808
abbrev pub fetch : List Call
fetch = Call.Command 0x00 ∷ Call.Address 0 ∷ Call.Address 0 ∷ Call.Address 0 ∷ []

-- a block as three row cycles, for blocks below 8
abbrev pub block_0 : List Call
block_0 = Call.Address 0 ∷ Call.Address 0 ∷ Call.Address 0 ∷ []

abbrev pub block_1 : List Call
block_1 = Call.Address 32 ∷ Call.Address 0 ∷ Call.Address 0 ∷ []

pub record Bench : Type 0 where
  -- 0Fh, then 3Ch programmed at one place read 0Ch
  pub joins : on_new byte_kind K9F2808 (program 0x0F ++ Call.Settle ∷ program 0x3C ++ Call.Settle ∷ fetch ++ Call.Read ∷ Call.Look 0 0 ∷ Call.Look 0 1 ∷ [])
      ≡ taken 18 ++ Ok 0x0C ∷ Ok 0x0C ∷ Ok 0xFF ∷ []
  -- and so in the other order
  pub joins_back : on_new byte_kind K9F2808 (program 0x3C ++ Call.Settle ∷ program 0x0F ++ Call.Settle ∷ fetch ++ Call.Read ∷ Call.Look 0 0 ∷ Call.Look 0 1 ∷ [])
      ≡ taken 18 ++ Ok 0x0C ∷ Ok 0x0C ∷ Ok 0xFF ∷ []
  -- doubting byte: a program of 0Fh cut by FFh on an erased place reads F00Fh; then 00F0h landed reads F000h; 0101h is unlawful
  pub doubts : on_new doubting_kind K9F2808
      (program 0x0F ++ Call.Command 0xFF ∷ fetch ++ Call.Read ∷ program 0xF0 ++ Call.Settle ∷ fetch ++ Call.Read ∷ Call.Write 0x0101 ∷ [])
      ≡ taken 11 ++ Ok 0xF00F ∷ taken 11 ++ Ok 0xF000 ∷ Err Refusal.Unlawful ∷ []
  -- 50h, 80h, column 15: one write is taken, the second returns 7
  pub last_column : on_new byte_kind K9K1208 (Call.Command 0x50 ∷ Call.Command 0x80 ∷ Call.Address 15 ∷ block_0 ++ Call.Write 1 ∷ Call.Write 2 ∷ [])
      ≡ taken 7 ++ Err Refusal.NoColumn ∷ []
  -- with 2 blocks row 63 is taken and row 64 returns 6
  pub last_row : on_new byte_kind K9K1208
      (Call.Command 0x60 ∷ Call.Address 63 ∷ Call.Address 0 ∷ Call.Address 0 ∷ Call.Command 0x60 ∷ Call.Address 64 ∷ Call.Address 0 ∷ Call.Address 0 ∷ [])
      ≡ taken 7 ++ Err Refusal.Outside ∷ []
  -- on K9F2808 row cycles 00h, 80h mean row 0
  pub row_wraps : on_new byte_kind K9F2808
      (program 0x5A ++ Call.Settle ∷ Call.Command 0x00 ∷ Call.Address 0 ∷ Call.Address 0x00 ∷ Call.Address 0x80 ∷ Call.Read ∷ [])
      ≡ taken 11 ++ Ok 0x5A ∷ []
  -- limit 3: the third program of a page lands, the fourth returns 11
  pub limit : on_new byte_kind K9F2808
      (program 0xFE ++ Call.Settle ∷ program 0xFD ++ Call.Settle ∷ program 0xFB ++ Call.Settle ∷ Call.Look 0 0 ∷ program 0xF7)
      ≡ taken 21 ++ Ok 0xF8 ∷ taken 5 ++ Err Refusal.PageFull ∷ []
  -- unlock 1 to 1 opens block 1
  pub unlocks : on_new byte_kind K9K1208
      (Call.Command 0x23 ∷ block_1 ++ Call.Command 0x24 ∷ block_1 ++ Call.Command 0x7A ∷ block_1 ++ Call.Read ∷ Call.Command 0x7A ∷ block_0 ++ Call.Read ∷ [])
      ≡ taken 12 ++ Ok 4 ∷ taken 4 ++ Ok 2 ∷ []
  -- unlock 1 to 0 returns 9
  pub no_unlock : on_new byte_kind K9K1208 (Call.Command 0x23 ∷ block_1 ++ Call.Command 0x24 ∷ block_0) ≡ taken 7 ++ Err Refusal.Locked ∷ []
  -- copy-back from block 0 to open block 1 returns 12
  pub planes : on_new byte_kind K9K1208
      (Call.Command 0x23 ∷ block_1 ++ Call.Command 0x24 ∷ block_1 ++ Call.Command 0x00 ∷ Call.Address 0 ∷ block_0 ++ Call.Command 0x8A ∷ Call.Address 0 ∷ block_1)
      ≡ taken 17 ++ Err Refusal.OtherPlane ∷ []
  -- busy with write protect high and no fail reads 80h
  pub busy : on_new byte_kind K9F2808 (program 0x0F ++ Call.Read ∷ []) ≡ taken 6 ++ Ok 0x80 ∷ []
  -- 01h: the next load starts in area B, the one after it in area A again
  pub falls_back : on_new byte_kind K9F2808
      (Call.Command 0x01 ∷ program 0x11 ++ Call.Settle ∷ program 0x22 ++ Call.Settle ∷ Call.Look 0 256 ∷ Call.Look 0 0 ∷ [])
      ≡ taken 15 ++ Ok 0x11 ∷ Ok 0x22 ∷ []
  -- K9K1216 knows no 01h; 50h, 80h, column 7: one write is taken, the second returns 7
  pub wide : on_new word16_kind K9K1216
      (Call.Command 0x01 ∷ Call.Command 0x50 ∷ Call.Command 0x80 ∷ Call.Address 7 ∷ block_0 ++ Call.Write 0xABCD ∷ Call.Write 0xABCD ∷ [])
      ≡ Err Refusal.Unknown ∷ taken 7 ++ Err Refusal.NoColumn ∷ []
  -- an erase cut by FFh leaves the torn-erase code in the whole block, and in no other; a settled one the erased code
  pub erases : on_new doubting_kind K9F2808
      (program 0x0F ++ Call.Settle ∷ Call.Command 0x60 ∷ Call.Address 0 ∷ Call.Address 0 ∷ Call.Command 0xD0 ∷ Call.Command 0xFF
      ∷ Call.Look 0 0 ∷ Call.Look 31 527 ∷ Call.Look 32 0
      ∷ Call.Command 0x60 ∷ Call.Address 0 ∷ Call.Address 0 ∷ Call.Command 0xD0 ∷ Call.Settle ∷ Call.Look 0 0 ∷ Call.Look 31 527 ∷ [])
      ≡ taken 12 ++ Ok 0xFF00 ∷ Ok 0xFF00 ∷ Ok 0x00FF ∷ taken 5 ++ Ok 0x00FF ∷ Ok 0x00FF ∷ []
  -- a program in a locked block returns 10, and the status is C1h
  pub locked : on_new byte_kind K9K1208 (Call.Command 0x80 ∷ Call.Address 0 ∷ block_0 ++ Call.Write 0x0F ∷ Call.Command 0x10 ∷ Call.Read ∷ [])
      ≡ taken 6 ++ Err Refusal.Protected ∷ Ok 0xC1 ∷ []
  -- a copy-back writes the page that was read out, and closes the page that it writes
  pub copies : on_new byte_kind K9K1208
      (Call.Command 0x23 ∷ block_0 ++ Call.Command 0x24 ∷ block_0 ++ Call.Command 0x80 ∷ Call.Address 9 ∷ block_0 ++ Call.Write 0x0F ∷ Call.Command 0x10 ∷ Call.Settle
      ∷ Call.Command 0x00 ∷ Call.Address 0 ∷ block_0 ++ Call.Command 0x8A ∷ Call.Address 0 ∷ Call.Address 1 ∷ Call.Address 0 ∷ Call.Address 0 ∷ Call.Settle ∷ Call.Look 1 9
      ∷ Call.Command 0x80 ∷ Call.Address 0 ∷ Call.Address 1 ∷ Call.Address 0 ∷ Call.Address 0 ∷ Call.Write 0x0F ∷ Call.Command 0x10 ∷ [])
      ≡ taken 27 ++ Ok 0x0F ∷ taken 6 ++ Err Refusal.PageFull ∷ []
  -- with 4,096 blocks, all open, a copy-back from block 0 to block 2,048 returns 12, and to block 2 is taken
  pub far_planes : on_blocks 4096 byte_kind K9K1208
      (Call.Command 0x23 ∷ block_0 ++ Call.Command 0x24 ∷ Call.Address 0xFF ∷ Call.Address 0xFF ∷ Call.Address 0x01
      ∷ Call.Command 0x00 ∷ Call.Address 0 ∷ block_0 ++ Call.Command 0x8A ∷ Call.Address 0 ∷ Call.Address 0x00 ∷ Call.Address 0x00 ∷ Call.Address 0x01
      ∷ Call.Command 0x00 ∷ Call.Address 0 ∷ block_0 ++ Call.Command 0x8A ∷ Call.Address 0 ∷ Call.Address 0x40 ∷ Call.Address 0x00 ∷ Call.Address 0x00 ∷ Call.Read ∷ [])
      ≡ taken 17 ++ Err Refusal.OtherPlane ∷ taken 10 ++ Ok 0x81 ∷ []
