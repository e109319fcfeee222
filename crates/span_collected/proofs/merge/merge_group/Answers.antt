use Rattle.std.proofs.Common.{rules, ◌≡◌, ◌+◌, ◌*◌, ◌≤◌, ◌++◌, ◌∙◌, ℕ, List, length, sym, ap, subst, arith}
use Rattle.std.proofs.lemmas.Result.{on_ok_weaker}
use denote.Ref.{Bor}
use Rattle.span_query.specs.declared.query.Aggregate.{Aggregate}
use Rattle.span_query.specs.Rows.{Row}
use Rattle.span_rows.specs.LentRows.{lent_rows}
use Rattle.span_groups.specs.declared.aggregate.AggregateState.{AggregateState}
use Rattle.span_groups.specs.StateLists.{states_from, IsChangedAt}
use Rattle.span_groups.specs.States.{AreStatesOf}
use Rattle.span_groups.proofs.GroupSteps.{if_ok_both, states_within, step_after, merged_at, lent-push, firsts_by}
use Rattle.span_groups.proofs.MergedGroups.{on_ok_always}
use Rattle.span_collected.proofs.merge.merge_group.Goals as goal

pub overflow_mul-at : goal.overflow_mul-at
overflow_mul-at c =
    let g = c.args.grouping.now in
    let fits : c.in_ok-at.at * length g.aggregates + length g.aggregates ≤ length c.group_of.new.states.items =
    states_within g c.args.row.now c.args.index.now.keys c.group_of.new.index.keys c.args.groups.now.states.items c.group_of.new.states.items c.in_ok-at.at c.in_ok-at.ensures.step c.in_ok-at.ensures.within c.in_ok-at.ensures.place in
    search (rules, fits)

pub merge_all-requires : goal.merge_all-requires
merge_all-requires c =
    let g = c.args.grouping.now in
    let fits : c.in_ok-at.at * length g.aggregates + length g.aggregates ≤ length c.group_of.new.states.items =
    states_within g c.args.row.now c.args.index.now.keys c.group_of.new.index.keys c.args.groups.now.states.items c.group_of.new.states.items c.in_ok-at.at c.in_ok-at.ensures.step c.in_ok-at.ensures.within c.in_ok-at.ensures.place in
    let len : c.len.result ≡ length g.aggregates = search rules in
    subst (λ (n : ℕ). c.in_ok-at.at * n + length c.args.more.now ≤ length c.group_of.new.states.items) (sym len) (omega (arith, fits, c.requires.wide))

pub returns-clause-step : goal.returns-clause-step
returns-clause-step c =
    let g = c.args.grouping.now in
    on_ok_weaker c.merge_all.result (λ changed.
    step_after g c.args.row.now c.args.index.now.keys c.group_of.new.index.keys c.args.groups.now.states.items c.group_of.new.states.items c.in_ok-at.at c.in_ok-at.ensures.step c.in_ok-at.ensures.within c.in_ok-at.ensures.place c.merge_all.new.states.items changed.long) c.merge_all.ensures.others

pub returns-clause-merged : goal.returns-clause-merged
returns-clause-merged c = if_ok_both c.merge_all.result (λ done takes changed is rows next are taken.
    let g = c.args.grouping.now in
    let at : ℕ = c.in_ok-at.at in
    let mid : List AggregateState = c.group_of.new.states.items in
    let now : List AggregateState = c.merge_all.new.states.items in
    let more : List AggregateState = c.args.more.now in
    let len : c.len.result ≡ length g.aggregates = search rules in
    merged_at g c.args.row.now c.args.index.now.keys c.group_of.new.index.keys c.args.groups.now.states.items mid at c.in_ok-at.ensures.step c.in_ok-at.ensures.within c.in_ok-at.ensures.place
    now more c.requires.wide
    (subst (λ (n : ℕ). IsChangedAt (at * n) (length more) mid now) len changed)
    (subst (λ (n : ℕ). (all : List Aggregate) (rs ns : List Row) → AreStatesOf all rs (states_from (at * n) (length more) mid) → AreStatesOf all ns more → AreStatesOf all (rs ++ ns) (states_from (at * n) (length more) now)) len (takes is))
    rows next are taken) c.merge_all.ensures.merged c.merge_all.ensures.others

pub returns-clause-keys : goal.returns-clause-keys
returns-clause-keys c = on_ok_always c.merge_all.result c.in_ok-at.ensures.keys

pub returns-clause-firsts : goal.returns-clause-firsts
returns-clause-firsts c =
    let g = c.args.grouping.now in
    let old : List (Bor Row) = c.args.groups.now.firsts.items in
    let now : List (Bor Row) = c.push_if.new.items.items in
    on_ok_always c.merge_all.result (λ have.
    firsts_by g c.in_ok-at.is_new (lent_rows old) (lent_rows now) c.args.index.now.keys c.group_of.new.index.keys c.args.row.now c.in_ok-at.ensures.keys c.in_ok-at.ensures.added
    (λ new. ap lent_rows (c.in_ok-push_if.ensures.added new) ∙ lent-push old c.args.row)
    (λ known. ap lent_rows (c.in_ok-push_if.ensures.same known)) have)
