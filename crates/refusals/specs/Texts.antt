-- Each refusal in words, as people are told. Assumes nothing.
use Rattle.std.specs.Prelude.{ℕ, List, codes}
use Rattle.refusals.specs.declared.Refusal.{Refusal}
use Rattle.refusals.specs.declared.Refusal.TheVariants.{Dead, Unlawful, Busy, Unknown, NotBusy, Outside, NoColumn, NoWord, Locked, Protected, PageFull, OtherPlane, ArrayFailed, BadRecord, ListFull}

abbrev pub refusal_text : Refusal → List ℕ
refusal_text Dead = codes "the chip is dead"
refusal_text Unlawful = codes "the code is not lawful, or the pin level is not 0 or 1"
refusal_text Busy = codes "the chip is busy"
refusal_text Unknown = codes "unknown command, or a cycle with no meaning here"
refusal_text NotBusy = codes "nothing to settle"
refusal_text Outside = codes "outside the array"
refusal_text NoColumn = codes "no such column"
refusal_text NoWord = codes "no word was written"
refusal_text Locked = codes "the lock is tight, or the range ends before it starts"
refusal_text Protected = codes "write protect is low, or the block is locked"
refusal_text PageFull = codes "the page has had all its programs"
refusal_text OtherPlane = codes "the blocks lie in different planes"
refusal_text ArrayFailed = codes "the array failed"
refusal_text BadRecord = codes "unknown mark or short record"
refusal_text ListFull = codes "the defect list is full"
