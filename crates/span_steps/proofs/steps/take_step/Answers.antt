use Rattle.span_steps.proofs.Taking.{step_taken}
use Rattle.span_steps.proofs.steps.take_step.Goals as goal

pub returns : goal.returns
returns c = record {
  taken = step_taken _ _ _ _ _ c.is_reached.ensures.promises c.step.ensures.of_schema c.step.ensures.steps;
  schema = c.step.ensures.schema;
}
