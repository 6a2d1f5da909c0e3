-- Tight and an open range never stand together. Assumes nothing.
use Rattle.std.proofs.Common.{◌≡◌, ℕ, Bool, true, false, List, Some, None, Ok, Err, Option, not, ◌&&◌, ◌||◌, is_none, refl, arith}
use Rattle.refusals.specs.declared.Refusal.{Refusal}
use Rattle.records.specs.declared.call.Call.{Call}
use Rattle.words.specs.Kind.{Kind}
use Rattle.arrays.specs.Meaning.{Contents}
use Rattle.rules.specs.declared.part.Part.{Part}
use Rattle.rules.specs.declared.command.Command.{Command}
use Rattle.rules.specs.declared.state.Aim.{Aim}
use Rattle.rules.specs.declared.state.State.{State}
use Rattle.rules.specs.declared.control.Opening.{Opening}
use Rattle.rules.specs.declared.control.Control.{Control}
use Rattle.rules.specs.Commands.{decoded}
use Rattle.rules.specs.Controls.{with_state}
use Rattle.rules.specs.Answering.{Answer, unless, is_dead, answer_command, answer_cycle, answer}
use Rattle.rules.specs.Moving.{arrived, address_after, write_after, read_after, command_after, cycle_after, protect_after, refused_after, control_after}
use Rattle.rules.specs.Running.{Chip, Event, Runs}
use Rattle.rules.specs.Conduct.{TightIsClosed}

-- an unlock was begun
abbrev for_unlock : Aim → Bool
for_unlock (Aim.Read column) = false
for_unlock (Aim.Load column) = false
for_unlock Aim.Erase = false
for_unlock (Aim.CopyBack source) = false
for_unlock Aim.UnlockFirst = true
for_unlock (Aim.UnlockLast first) = true
for_unlock Aim.LockStatus = false

abbrev unlocking : State → Bool
unlocking (State.Column purpose) = false
unlocking (State.Row aim taken row) = for_unlock aim
unlocking (State.PageOut row next) = false
unlocking (State.Load row next written) = false
unlocking (State.EraseReady row) = false
unlocking (State.UnlockReady first) = true
unlocking State.Status = false
unlocking State.IdAddress = false
unlocking (State.Id next) = false
unlocking (State.LockCode block) = false
unlocking (State.Busy work) = false

-- while the lock is tight no range is open, and no unlock was begun
abbrev closed : Control → Bool
closed c = not c.tight || (is_none c.range && not (unlocking c.state))

module _ (K : Kind) (o : Opening) where
  closed_command : (h : Contents) (f : Bool) (c : Control) (x : Command) (v : ℕ) → answer_command o h f c x ≡ Ok v → closed c ≡ true
      → closed (command_after K c x) ≡ true
  closed_command h f c x v a k = grind arith

  closed_cycle : (h : Contents) (f : Bool) (c : Control) (x : Option Command) (v : ℕ) → answer_cycle o h f c x ≡ Ok v → closed c ≡ true
      → closed (cycle_after K c x) ≡ true
  closed_cycle h f c None v a k = k
  closed_cycle h f c (Some x) v a k = closed_command h f c x v a k

  closed_arrived : (p : Part) (code : ℕ → ℕ → ℕ) (c : Control) (row : ℕ) (a : Aim) → (c.tight && for_unlock a) ≡ false → closed c ≡ true
      → closed (arrived K p code c row a) ≡ true
  closed_arrived p code c row a u k = grind arith

  closed_address : (p : Part) (code : ℕ → ℕ → ℕ) (c : Control) (b : ℕ) → closed c ≡ true → closed (address_after K p code c b c.state) ≡ true
  closed_address p code c b k = grind (arith, closed_arrived)

  closed_write : (c : Control) (w : ℕ) (s : State) → closed c ≡ true → closed (write_after c w s) ≡ true
  closed_write c w s k = grind arith

  closed_protect : (c : Control) (l : ℕ) → closed c ≡ true → closed (protect_after c l) ≡ true
  closed_protect c l k = grind arith

  closed_read : (c : Control) → closed c ≡ true → closed (with_state c (read_after c.state)) ≡ true
  closed_read c k = grind arith

  closed_refused : (p : Part) (c : Control) (call : Call) (why : Refusal) → closed c ≡ true → closed (refused_after p c call why) ≡ true
  closed_refused p c call why k = grind arith

  -- a call that was taken was answered by a live chip
  alive : (d : Bool) (rest : Answer) (v : ℕ) → Ok v ≡ unless d Refusal.Dead rest → rest ≡ Ok v
  alive d rest v e = grind arith

  closed_moves : (code : ℕ → ℕ → ℕ) (h : Contents) (f : Bool) (c : Control) (call : Call) (a : Answer) → a ≡ answer K o h f c call
      → closed c ≡ true → closed (control_after K o.part code c call a) ≡ true
  unfolding answer control_after
  closed_moves code h f c (Call.Command x) (Ok v) e k =
      closed_cycle h f c (decoded o.part x) v (alive (is_dead K o h.shape) _ v e) k
  closed_moves code h f c (Call.Address x) (Ok v) e k = closed_address o.part code c x k
  closed_moves code h f c (Call.Write w) (Ok v) e k = closed_write c w c.state k
  closed_moves code h f c Call.Read (Ok v) e k = closed_read c k
  closed_moves code h f c (Call.Protect l) (Ok v) e k = closed_protect c l k
  closed_moves code h f c Call.Settle (Ok v) e k = grind arith
  closed_moves code h f c (Call.Look row column) (Ok v) e k = k
  closed_moves code h f c call (Err why) e k = closed_refused o.part c call why k

  closed_run : {c c' : Chip} {es : List Event} → Runs K o c es c' → closed c.control ≡ true → closed c'.control ≡ true
  closed_run Runs.stop k = k
  closed_run (Runs.next {c = c} {e = e} t r) k =
      closed_run r (rw t.moves (closed_moves c.memory.holds.code c.memory.holds e.failed c.control e.call e.answer t.answers k))

-- so a tight lock has no open range
no_range : (c : Control) → closed c ≡ true → c.tight ≡ true → c.range ≡ None
no_range c k t = grind arith

pub tight_is_closed : TightIsClosed
tight_is_closed K o m es c r = no_range c.control (closed_run K o r refl)
