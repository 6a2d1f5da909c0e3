-- Worked cases of area B beside reads, loads and erases, and of a copy-back that is cut off. Assumes nothing.
use Rattle.std.specs.Prelude.{◌≡◌, [], ◌∷◌, ◌++◌, Ok, Err}
use Rattle.refusals.specs.declared.Refusal.{Refusal}
use Rattle.records.specs.declared.call.Call.{Call}
use Rattle.words.specs.Kinds.{byte_kind, doubting_kind}
use Rattle.rules.specs.declared.part.Part.TheVariants.{K9K1208, K9F2808}
use Rattle.rules.specs.Bench.{on_new, taken, program, block_0}
use Rattle.rules.specs.Tour.{unlock, lock_of}

pub record Further : Type 0 where
  -- B falls back after a read and after an erase, too
  pub read_falls_back : on_new byte_kind K9F2808
      (Call.Command 0x01 ∷ Call.Address 0 ∷ Call.Address 0 ∷ Call.Address 0 ∷ program 0x11 ++ Call.Settle ∷ Call.Look 0 0 ∷ Call.Look 0 256 ∷ [])
      ≡ taken 11 ++ Ok 0x11 ∷ Ok 0xFF ∷ []
  pub erase_falls_back : on_new byte_kind K9F2808
      (Call.Command 0x01 ∷ Call.Command 0x60 ∷ Call.Address 0 ∷ Call.Address 0 ∷ program 0x11 ++ Call.Settle ∷ Call.Look 0 0 ∷ Call.Look 0 256 ∷ [])
      ≡ taken 11 ++ Ok 0x11 ∷ Ok 0xFF ∷ []
  -- it stays at the cycles of 90h, 7Ah, 23h and 24h
  pub stays : on_new byte_kind K9K1208
      (Call.Command 0x01 ∷ Call.Command 0x90 ∷ Call.Address 0 ∷ lock_of block_0 ++ unlock block_0 block_0 ++ Call.Command 0x80 ∷ Call.Address 0 ∷ block_0 ++ Call.Write 0x11
      ∷ Call.Command 0x10 ∷ Call.Settle ∷ Call.Look 0 256 ∷ Call.Look 0 0 ∷ [])
      ≡ taken 7 ++ Ok 2 ∷ taken 16 ++ Ok 0x11 ∷ Ok 0xFF ∷ []
  -- a copy-back that is cut off writes torn forms and closes the page: a word written to it later is refused by 11
  pub cut_copy : on_new doubting_kind K9K1208
      (unlock block_0 block_0 ++ Call.Command 0x80 ∷ Call.Address 0 ∷ block_0 ++ Call.Write 0x0F ∷ Call.Command 0x10 ∷ Call.Settle ∷ Call.Command 0x00 ∷ Call.Address 0 ∷ block_0
      ++ Call.Command 0x8A ∷ Call.Address 0 ∷ Call.Address 1 ∷ Call.Address 0 ∷ Call.Address 0 ∷ Call.Command 0xFF ∷ Call.Look 1 0 ∷ Call.Look 1 1
      ∷ Call.Command 0x80 ∷ Call.Address 0 ∷ Call.Address 1 ∷ Call.Address 0 ∷ Call.Address 0 ∷ Call.Write 0x0F ∷ Call.Command 0x10 ∷ [])
      ≡ taken 27 ++ Ok 0xF00F ∷ Ok 0x00FF ∷ taken 6 ++ Err Refusal.PageFull ∷ []
