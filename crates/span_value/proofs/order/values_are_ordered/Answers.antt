use Rattle.span_value.proofs.Total.{value_order_total}
use Rattle.span_value.proofs.order.values_are_ordered.Goals as goal

pub returns : goal.returns
returns c = value_order_total
