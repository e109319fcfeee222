use Rattle.std.proofs.Common.{◌∙◌}
use Rattle.span_keycode.proofs.RootCodes.{order_same, order_decided}
use Rattle.span_keycode.proofs.root_order.compare_root.Goals as goal

pub returns-in-Ok : goal.returns-in-Ok
returns-in-Ok c =
    c.order_of_rest.ensures
    ∙ order_same c.args.schema.now c.args.table c.args.key.now c.root_table-root.result c.args.other.now c.in-Ok.rest.now c.root_table-root.ensures c.in-Ok.ensures

pub returns-in-Err : goal.returns-in-Err
returns-in-Err c = order_decided c.args.schema.now c.args.table c.args.key.now c.root_table-root.result c.args.other.now c.in-Err.order c.root_table-root.ensures c.in-Err.ensures
