use Rattle.std.proofs.Common.{rules, ◌≡◌, ◌∙◌, ℕ, List, length, ap}
use Rattle.span_groups.proofs.GroupSteps.{lent_count}
use Rattle.span_groups.proofs.group.rows_of_lists.Goals as goal

pub rows_of-requires : goal.rows_of-requires
rows_of-requires c =
    let count : length c.in_ok-firsts.firsts.items ≡ length c.args.groups.now.firsts.items = lent_count c.args.rows.now c.in_ok-firsts.firsts.items c.as_slice.result.now c.in_ok-firsts.ensures ∙ ap (λ (l : List ℕ). length l) c.as_slice.ensures.value in
    search (rules, count)
