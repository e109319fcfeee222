use Rattle.std.proofs.Common.{rules}
use Rattle.span_groups.specs.MergedGroups.{AnyFault}
use Rattle.span_collected.proofs.KeptGroups.{any_after}
use Rattle.span_collected.proofs.kept_groups.take_or_drop.Goals as goal

pub returns-in-Err-Fault : goal.returns-in-Err-Fault
returns-in-Err-Fault c before counted are =
    let found : AnyFault c.args.grouping.now c.args.rows.now = search (rules, c.in-Err-Fault.ensures.fault) in
    any_after c.args.grouping.now before c.args.rows.now found
