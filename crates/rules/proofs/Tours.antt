-- More worked cases, computed. Assumes nothing.
use Rattle.std.proofs.Common.{refl}
use Rattle.rules.specs.Controls.{blank, page_of}
use Rattle.rules.specs.Answering.{answer}
use Rattle.rules.specs.Asking.{operation}
use Rattle.rules.specs.Moving.{control_after}
use Rattle.rules.specs.Bench.{play}
use Rattle.rules.specs.Tour.{Tour}
use Rattle.rules.specs.Further.{Further}

pub tour : Tour
unfolding play answer operation control_after blank page_of
tour = record {
  ids = refl;
  reads = refl;
  ends = refl;
  clears = refl;
  no_word = refl;
  protects = refl;
  resets = refl;
  busy = refl;
  locks = refl;
  closes = refl;
  locked = refl;
  unknown = refl;
  outside = refl;
  counts = refl;
  copies = refl;
  dead = refl;
}

pub further : Further
unfolding play answer operation control_after blank page_of
further = record {
  read_falls_back = refl;
  erase_falls_back = refl;
  stays = refl;
  cut_copy = refl;
}
