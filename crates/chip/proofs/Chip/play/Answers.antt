use Rattle.chip.proofs.Steps.{step_of}
use Rattle.chip.proofs.Chip.play.Goals as goal

pub returns : goal.returns
returns g c = record {
  step = step_of c.dispatch.ensures.called;
  rest = c.dispatch.ensures.rest;
  opening = c.dispatch.ensures.opening;
}
