use Rattle.std.proofs.Common.{rules, [], Err, List, ap, sym}
use Rattle.std.proofs.lemmas.List.{append-nil}
use Rattle.span_query.specs.Groups.{groups}
use Rattle.span_query.specs.Rows.{Row}
use Rattle.span_conditions.specs.Answers.{Gives}
use Rattle.span_collected.specs.Parts.{all_rows}
use Rattle.span_collected.proofs.KeptGroups.{part_fails}
use Rattle.span_classes.proofs.ranges.groups_by_ranges.Goals as goal

pub returns-in_err-groups : goal.returns-in_err-groups
returns-in_err-groups g c =
    let by = c.args.grouping.now in
    let all : List Row = all_rows c.args.parts.now in
    let why = c.in_err-groups.field-0.0 in
    let fails : Gives {A = List Row} (Err why) (groups by all) = part_fails by [] all [] all why (sym (append-nil all)) (λ e. c.in_err-groups.ensures.fault (ap (λ w. Err w) e)) in
    search (rules, fails)
