-- What a chip holds besides its array: the register, the lock, the status. Assumes nothing.
use Rattle.std.specs.Prelude.{ℕ, ◌+◌, ◌-◌, Bool, true, false, cond, not, ◌&&◌, ◌||◌, List, ◌++◌, map, replicate, is_some, Some, None, Option, nat_le}
use Rattle.std.specs.List.{range_with_len}
use Rattle.arrays.specs.Meaning.{block_of}
use Rattle.rules.specs.declared.part.Part.{Part}
use Rattle.rules.specs.declared.part.Pointer.{Pointer}
use Rattle.rules.specs.declared.state.Work.{Work}
use Rattle.rules.specs.declared.state.Purpose.{Purpose}
use Rattle.rules.specs.declared.state.State.{State}
use Rattle.rules.specs.declared.control.OpenRange.{OpenRange}
use Rattle.rules.specs.declared.control.Control.{Control}
use Rattle.rules.specs.Parts.{columns, locks}

-- the places of the page register
abbrev pub places : ℕ
places = 528

-- one code at every place of the register; shut, since a list of 528 codes would be written out
unfoldable pub blank : ℕ → List ℕ
blank code = replicate places code

-- a page in the register: the codes at the part's columns, and the erased code at the places beyond
unfoldable pub page_of : Part → ℕ → (ℕ → ℕ) → List ℕ
page_of p erased code = map code (range_with_len 0 (columns p)) ++ replicate (places - columns p) erased

-- the operation under way
abbrev pub under : State → Option Work
under (State.Column purpose) = None
under (State.Row aim taken row) = None
under (State.PageOut row next) = None
under (State.Load row next written) = None
under (State.EraseReady row) = None
under (State.UnlockReady first) = None
under State.Status = None
under State.IdAddress = None
under (State.Id next) = None
under (State.LockCode block) = None
under (State.Busy work) = Some work

abbrev pub is_busy : State → Bool
is_busy s = is_some (under s)

abbrev pub bit : Bool → ℕ → ℕ
bit b n = cond b n 0

-- bit 0 fail, bit 6 ready, bit 7 write protect high
abbrev pub status_of : Control → ℕ
status_of c = bit c.fail 1 + bit (not (is_busy c.state)) 64 + bit c.wp 128

abbrev pub in_range : OpenRange → ℕ → Bool
in_range r block = nat_le r.first block && nat_le block r.last

abbrev pub in_some : Option OpenRange → ℕ → Bool
in_some None block = false
in_some (Some r) block = in_range r block

-- the lock lets the block be programmed and erased; on a part without lock all blocks are open
abbrev pub is_open : Part → Control → ℕ → Bool
is_open p c block = not (locks p) || in_some c.range block

-- write protect is low, or the row's block is not open
abbrev pub is_protected : Part → Control → ℕ → Bool
is_protected p c row = not c.wp || not (is_open p c (block_of row))

-- open 4, tight 1, locked 2
abbrev pub lock_code : Part → Control → ℕ → ℕ
lock_code p c block = cond (is_open p c block) 4 (cond c.tight 1 2)

-- the control of a chip that is opened: it waits for a column as after 00h
abbrev pub fresh : ℕ → Control
fresh erased = record {
  state = State.Column Purpose.Read;
  register = record { codes = blank erased };
  pointer = Pointer.A;
  wp = true;
  fail = false;
  tight = false;
  range = None;
}

abbrev pub with_state : Control → State → Control
with_state c s = record {
  state = s;
  register = c.register;
  pointer = c.pointer;
  wp = c.wp;
  fail = c.fail;
  tight = c.tight;
  range = c.range;
}

abbrev pub with_codes : Control → List ℕ → Control
with_codes c codes = record {
  state = c.state;
  register = record { codes = codes };
  pointer = c.pointer;
  wp = c.wp;
  fail = c.fail;
  tight = c.tight;
  range = c.range;
}

abbrev pub with_pointer : Control → Pointer → Control
with_pointer c p = record {
  state = c.state;
  register = c.register;
  pointer = p;
  wp = c.wp;
  fail = c.fail;
  tight = c.tight;
  range = c.range;
}

abbrev pub with_wp : Control → Bool → Control
with_wp c high = record {
  state = c.state;
  register = c.register;
  pointer = c.pointer;
  wp = high;
  fail = c.fail;
  tight = c.tight;
  range = c.range;
}

abbrev pub with_fail : Control → Bool → Control
with_fail c failed = record {
  state = c.state;
  register = c.register;
  pointer = c.pointer;
  wp = c.wp;
  fail = failed;
  tight = c.tight;
  range = c.range;
}

abbrev pub with_lock : Control → Bool → Option OpenRange → Control
with_lock c tight range = record {
  state = c.state;
  register = c.register;
  pointer = c.pointer;
  wp = c.wp;
  fail = c.fail;
  tight = tight;
  range = range;
}
