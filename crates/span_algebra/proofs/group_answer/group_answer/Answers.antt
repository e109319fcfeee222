use Rattle.std.proofs.Common.{rules, ◌≡◌, ℕ, None, subst}
use Rattle.span_query.specs.declared.query.BoundQuery.TheViews.{out-BoundQuery}
use Rattle.span_algebra.specs.BlockMeaning.{GroupsTable}
use Rattle.span_algebra.specs.GroupAnswers.{IsOneBlock, TakesGroups}
use Rattle.span_algebra.proofs.GroupAnswers.{groups_answered}
use Rattle.span_algebra.proofs.group_answer.group_answer.Goals as goal

pub returns : goal.returns
returns c = λ tables rows given.
    let query = c.args.query.now in
    let g = c.in-Some.grouping.now in
    let one : IsOneBlock (out-BoundQuery query) = c.is_one_block.ensures c.if-not-is_one_block.false in
    let first : c.in-Some.number ≡ 1 = search rules in
    let table : GroupsTable (out-BoundQuery query).first 1 g = subst (λ (n : ℕ). GroupsTable (out-BoundQuery query).first n g) first c.in-Some.ensures in
    let none : g.having ≡ None = search rules in
    let takes : TakesGroups g (out-BoundQuery query).first.outputs = search rules in
    groups_answered query g one table none takes tables rows given
