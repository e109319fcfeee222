use Rattle.std.proofs.Common.{rules, ◌≡◌, ◌+◌, ◌-◌, ◌++◌, length, replicate, take}
use Rattle.span_rows.proofs.Cutting.{rows_empty, whole_empty}
use Rattle.span_rows.proofs.row_list.push_empty.Goals as goal

pub returns-clause-whole : goal.returns-clause-whole
returns-clause-whole c =
    let ends = c.args.ends.now.items in
    let values = c.args.values.now in
    let long : c.in-Some.len ≡ length ends + c.args.count = search rules in
    let is : c.resize.new.self.items ≡ take c.in-Some.len ends ++ replicate (c.in-Some.len - length ends) (length values) = search rules in
    whole_empty ends c.resize.new.self.items values c.in-Some.len c.args.count c.requires long is

pub returns-clause-ok : goal.returns-clause-ok
returns-clause-ok c =
    let ends = c.args.ends.now.items in
    let values = c.args.values.now in
    let long : c.in-Some.len ≡ length ends + c.args.count = search rules in
    let is : c.resize.new.self.items ≡ take c.in-Some.len ends ++ replicate (c.in-Some.len - length ends) (length values) = search rules in
    rows_empty ends c.resize.new.self.items values c.in-Some.len c.args.count c.requires long is
