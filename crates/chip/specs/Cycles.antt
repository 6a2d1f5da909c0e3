-- Parts of a call, on a chip that is not dead: what each is answered, and the control after it. Assumes nothing.
use Rattle.std.specs.Prelude.{◌≡◌, ℕ, Bool, not, Option, nat_lt}
use Rattle.refusals.specs.declared.Refusal.{Refusal}
use Rattle.words.specs.Kind.{Kind}
use Rattle.arrays.specs.Meaning.{Contents, Meaning, Operation, nothing, Performs, rows}
use Rattle.rules.specs.declared.command.Command.{Command}
use Rattle.rules.specs.declared.state.Aim.{Aim}
use Rattle.rules.specs.declared.control.Opening.{Opening}
use Rattle.rules.specs.declared.control.Control.{Control}
use Rattle.rules.specs.Answering.{Answer, unless, answer_row, answer_address, answer_cycle}
use Rattle.rules.specs.Asking.{Ending, none, whole, torn, cycle_ending}
use Rattle.rules.specs.Moving.{arrived, address_after, cycle_after}
use Rattle.chip.specs.declared.landing.Form.{Form}
use Rattle.chip.specs.Calls.{refused, by_answer}

-- the array was asked for something, and did it or not; asked for nothing it stays as it is
pub record Ended (K : Kind) (operation : Operation) (m : Meaning) (done : Bool) (m' : Meaning) : Type 0 where
  pub performs : Performs K operation m done m'
  pub idle : operation ≡ nothing → m' ≡ m

-- the last cycle of a row
pub record Arrived (K : Kind) (o : Opening) (h : Contents) (c : Control) (aim : Aim) (row : ℕ) (answer : Answer) (c' : Control) : Type 0 where
  pub answers : answer ≡ unless (not (nat_lt row (rows h.shape))) Refusal.Outside (answer_row o h c row aim)
  pub moves : c' ≡ by_answer answer (arrived K o.part h.code c row aim) (refused none c)

-- an address cycle
pub record Addressed (K : Kind) (o : Opening) (h : Contents) (c : Control) (byte : ℕ) (answer : Answer) (c' : Control) : Type 0 where
  pub answers : answer ≡ answer_address o h c byte c.state
  pub moves : c' ≡ by_answer answer (address_after K o.part h.code c byte c.state) (refused none c)

-- a command cycle; `landed` says whether the array did what FFh asked of it
pub record Cycled (K : Kind) (o : Opening) (h : Contents) (landed : Bool) (c : Control) (command : Option Command) (answer : Answer) (c' : Control) : Type 0 where
  pub answers : answer ≡ answer_cycle o h (not landed) c command
  pub moves : c' ≡ by_answer answer (cycle_after K c command) (refused (cycle_ending command) c)

-- the ending that a landing of this form is
abbrev pub form_ending : Form → Ending
form_ending Form.Whole = whole
form_ending Form.Torn = torn
