use Rattle.std.proofs.Common.{rules, ◌≡◌, ℕ, [], subst}
use Rattle.span_query.specs.declared.query.BoundQuery.TheViews.{out-BoundQuery}
use Rattle.span_algebra.specs.BlockMeaning.{GroupsTable}
use Rattle.span_algebra.proofs.GroupQueries.{groups_first}
use Rattle.span_algebra.proofs.group_query.table_grouping.Goals as goal

pub returns : goal.returns
returns c =
    let query = c.args.query.now in
    let g = c.in_ok-number.grouping.now in
    let none : (out-BoundQuery query).others ≡ [] = search rules in
    let first : c.in_ok-number.number ≡ 1 = search rules in
    groups_first query g none (subst (λ (n : ℕ). GroupsTable (out-BoundQuery query).first n g) first c.in_ok-number.ensures)
