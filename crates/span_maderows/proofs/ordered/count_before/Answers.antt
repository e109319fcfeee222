use Rattle.std.proofs.Common.{ℕ, List, rules, of_calls}
use Rattle.std.specs.Ordering.{is_lt}
use Rattle.std.proofs.lemmas.List.Sorted.{IsPartitionPoint-from_clause}
use Rattle.span_keycode.specs.Order.{byte_order}
use Rattle.span_maderows.proofs.MadeRows.{parted}
use Rattle.span_maderows.proofs.ordered.count_before.Goals as goal

pub returns-clause-count : goal.returns-clause-count
returns-clause-count c =
    IsPartitionPoint-from_clause (λ (e : List ℕ × List ℕ). is_lt (byte_order e.0 c.args.key.now)) c.args.rows.now c.partition_point.result c.partition_point.ensures.partitioned
    (parted c.args.key.now c.args.rows.now c.requires) (λ a r f k. search (rules, of_calls))
