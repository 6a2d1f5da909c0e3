-- The number of each refusal. Assumes nothing.
use Rattle.std.specs.Prelude.{ℕ}
use Rattle.refusals.specs.declared.Refusal.{Refusal}
use Rattle.refusals.specs.declared.Refusal.TheVariants.{Dead, Unlawful, Busy, Unknown, NotBusy, Outside, NoColumn, NoWord, Locked, Protected, PageFull, OtherPlane, ArrayFailed, BadRecord, ListFull}

abbrev pub number : Refusal → ℕ
number Dead = 1
number Unlawful = 2
number Busy = 3
number Unknown = 4
number NotBusy = 5
number Outside = 6
number NoColumn = 7
number NoWord = 8
number Locked = 9
number Protected = 10
number PageFull = 11
number OtherPlane = 12
number ArrayFailed = 13
number BadRecord = 14
number ListFull = 15
