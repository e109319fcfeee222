use Rattle.std.proofs.Common.{refl}
use Rattle.span_mutate.specs.declared.mutation.MutationKind.TheVariants.{Insert}
use Rattle.span_steps.proofs.load.Records.with_record.Goals as goal

pub returns : goal.returns
returns c = (c.in_ok-row.row, c.in_ok-row.ensures.read Insert, refl, c.in_ok-push.ensures.items)
