use Rattle.std.proofs.Common.{rules, ◌≡◌, List, Err, None, Any, ap, subst}
use Rattle.span_query.specs.declared.query.Aggregate.{Aggregate}
use Rattle.span_query.specs.Rows.{Row}
use Rattle.span_query.specs.Groups.{groups}
use Rattle.span_conditions.specs.Answers.{Gives}
use Rattle.span_groups.specs.declared.group.GroupLists.{GroupLists}
use Rattle.span_groups.specs.States.{operand_at}
use Rattle.span_groups.proofs.OneGroup.{counted_group, rows_fail}
use Rattle.span_groups.proofs.one_group.one_group.Goals as goal

pub returns-in_err-states_of : goal.returns-in_err-states_of
returns-in_err-states_of c =
    let g = c.args.grouping.now in
    let rows : List Row = c.args.rows.now in
    let why = c.in_err-states_of.field-0.0 in
    let fails : Gives (Err why) (groups g rows) =
    rows_fail g rows why (λ is. subst (λ (all : List Aggregate). Any (λ row. Any (λ a. operand_at row a ≡ None) all) rows) c.as_slice.ensures (c.in_err-states_of.ensures.fault (ap (λ w. Err w) is))) in
    search (rules, fails)

pub returns : goal.returns
returns c =
    let x : GroupLists = record { firsts = c.add.new.items; states = c.in_ok-states_of.field-0 } in
    counted_group c.args.grouping.now c.args.rows.now x c.requires (search rules) (search rules)
