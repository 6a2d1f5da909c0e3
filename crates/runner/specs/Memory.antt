-- What running a trace on a chip over the caller's memory comes to. Assumes nothing.
use Rattle.std.specs.Prelude.{ℕ, List}
use Rattle.words.specs.Kind.{Kind}
use Rattle.arrays.specs.Meaning.{Meaning, new_contents, always_willing}
use Rattle.arrays.specs.Flat.{flat, flat_shape, Beyond}
use Rattle.rules.specs.declared.control.Opening.{Opening}
use Rattle.rules.specs.declared.control.Control.{Control}
use Rattle.rules.specs.Parts.{columns}
use Rattle.rules.specs.Running.{opened}
use Rattle.runner.specs.Played.{Ran, AcceptedIsPlayed}

-- A chip was opened over an array of this meaning and ran a trace; the array means this after it. The control goes with the chip.
pub record RanOver (K : Kind) (o : Opening) (m : Meaning) (trace results : List ℕ) (used written : ℕ) (results' : List ℕ) (m' : Meaning) : Type 0 where
  pub control : Control
  pub ran : Ran K o (opened K m) trace results used written results' (record { control = control; memory = m' })
  pub accepted : AcceptedIsPlayed K o (opened K m) trace results used written results' (record { control = control; memory = m' })

-- The same over a flat array: what its memory holds inside the shape, and beyond.
pub record RanFlat (K : Kind) (o : Opening) (width : ℕ) (codes counts trace results : List ℕ) (used written : ℕ) (results' codes' counts' : List ℕ) : Type 0 where
  pub inside : RanOver K o (flat K width codes counts) trace results used written results' (flat K width codes' counts')
  pub beyond : Beyond width codes counts codes' counts'

-- The same over memory that was erased first, for the columns of the part: the array is a new one.
pub record RanNew (K : Kind) (o : Opening) (codes counts trace results : List ℕ) (used written : ℕ) (results' codes' counts' : List ℕ) : Type 0 where
  pub inside : RanOver K o (always_willing (new_contents K (flat_shape (columns o.part) codes counts))) trace results used written results' (flat K (columns o.part) codes' counts')
  pub beyond : Beyond (columns o.part) codes counts codes' counts'
