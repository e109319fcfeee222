use Rattle.std.proofs.Common.{rules, ◌≡◌, []}
use Rattle.std.proofs.lemmas.List.{nil_from_length}
use Rattle.span_groups.specs.declared.group.GroupLists.{GroupLists}
use Rattle.span_groups.proofs.OneGroup.{counted_group}
use Rattle.span_groups.proofs.counted.counted_group.Goals as goal

pub returns : goal.returns
returns c =
    let g = c.args.grouping.now in
    let rows = c.args.rows.now in
    let x : GroupLists = record { firsts = c.push.new.self; states = c.in-Some.states } in
    let none : g.keys ≡ [] = nil_from_length g.keys (search rules) in
    counted_group g rows x none (search rules) (search rules)
