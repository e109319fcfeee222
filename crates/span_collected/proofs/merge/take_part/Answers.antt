use Rattle.std.proofs.Common.{◌≡◌, ◌∙◌, ◌++◌, List, ap, sym, subst, append_assoc}
use Rattle.std.specs.Option.{option_copied}
use Rattle.std.proofs.lemmas.Result.{on_ok_weaker}
use Rattle.span_query.specs.Rows.{Row}
use Rattle.span_groups.specs.GroupStates.{AreGroupLists}
use Rattle.span_collected.specs.KeptGroups.{grouped_rows}
use Rattle.span_groups.specs.MergedGroups.{AnyFault}
use Rattle.span_groups.proofs.GroupSteps.{in_step}
use Rattle.span_collected.proofs.KeptGroups.{any_after}
use Rattle.span_collected.proofs.merge.take_part.Goals as goal

pub take_grouped-requires : goal.take_grouped-requires
take_grouped-requires c = in_step c.args.grouping.now c.requires.rows c.args.index.now.keys c.args.groups.now.states.items c.requires.are

pub returns-clause-ok : goal.returns-clause-ok
returns-clause-ok c = on_ok_weaker c.take_list.result (λ takes before are.
    let g = c.args.grouping.now in
    let front : List Row = grouped_rows (option_copied c.parts.result.0) in
    let listed : List Row = c.parts.result.1.now in
    let whole : (before ++ front) ++ listed ≡ before ++ c.args.part.now = append_assoc before front listed ∙ ap (λ (l : List Row). before ++ l) (sym {A = List Row} c.parts.ensures) in
    subst (λ (l : List Row). AreGroupLists g l c.take_list.new.index.keys c.take_list.new.groups.states.items) whole
    (takes (before ++ front) (c.in_ok-take_grouped.ensures.ok before are))) c.take_list.ensures.ok

pub returns-clause-fault : goal.returns-clause-fault
returns-clause-fault c is =
    let g = c.args.grouping.now in
    let front : List Row = grouped_rows (option_copied c.parts.result.0) in
    let listed : List Row = c.parts.result.1.now in
    subst (λ (l : List Row). AnyFault g l) (sym {A = List Row} c.parts.ensures) (any_after g front listed (c.take_list.ensures.fault is))
