use Rattle.std.proofs.Common.{rules, ◌≡◌, ◌+◌, ◌<◌, ℕ, List, get_or, length}
use Rattle.span_sorting.specs.Columns.{AreColumns}
use Rattle.span_algebra.proofs.GroupAnswers.{groups_taken}
use Rattle.span_algebra.proofs.group_answer.takes_groups.Goals as goal

pub returns : goal.returns
returns c have =
    let g = c.args.grouping.now in
    let columns : List ℕ = c.in-Some.columns.items in
    let are : AreColumns c.args.outputs.now columns = search rules in
    let order : (i : ℕ) → i < length columns → get_or columns i 0 ≡ i = search rules in
    let wide : length columns ≡ length g.keys + length g.aggregates = search rules in
    groups_taken g c.args.outputs.now columns are order wide
