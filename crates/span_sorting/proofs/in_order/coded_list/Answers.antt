use Rattle.span_sorting.proofs.in_order.coded_list.Goals as goal

pub add_rows-requires : goal.add_rows-requires
add_rows-requires c = c.in_ok-all.ensures.coded c.args.keys.now
