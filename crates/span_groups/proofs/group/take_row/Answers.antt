use Rattle.std.proofs.Common.{rules, ◌+◌, ◌*◌, ◌≤◌, ℕ, List, length, sym, subst}
use Rattle.span_query.specs.declared.query.Aggregate.{Aggregate}
use Rattle.span_query.specs.Rows.{Row}
use Rattle.span_groups.specs.declared.aggregate.AggregateState.{AggregateState}
use Rattle.span_groups.specs.StateLists.{states_from, IsChangedAt}
use Rattle.span_groups.specs.States.{CanCountOne}
use Rattle.span_groups.proofs.Absorbed.{TakesRow}
use Rattle.span_groups.proofs.GroupSteps.{in_step, states_within, can_count, taken_at}
use Rattle.span_groups.proofs.group.take_row.Goals as goal

pub group_of-requires : goal.group_of-requires
group_of-requires c = in_step c.args.grouping.now c.requires.rows c.args.index.now.keys c.args.states.now.items c.requires.are

pub overflow_mul-at : goal.overflow_mul-at
overflow_mul-at c =
    let g = c.args.grouping.now in
    let keys : List Row = c.args.index.now.keys in
    let new : List Row = c.group_of.new.index.keys in
    let mid : List AggregateState = c.group_of.new.states.items in
    let fits : c.in_ok-at.at * length g.aggregates + length g.aggregates ≤ length mid =
    states_within g c.args.row.now keys new c.args.states.now.items mid c.in_ok-at.at c.in_ok-at.ensures.step c.in_ok-at.ensures.within c.in_ok-at.ensures.place in
    search (rules, fits)

pub take_all-requires-clause-within : goal.take_all-requires-clause-within
take_all-requires-clause-within c =
    let g = c.args.grouping.now in
    let fits : c.in_ok-at.at * length g.aggregates + length g.aggregates ≤ length c.group_of.new.states.items =
    states_within g c.args.row.now c.args.index.now.keys c.group_of.new.index.keys c.args.states.now.items c.group_of.new.states.items c.in_ok-at.at c.in_ok-at.ensures.step c.in_ok-at.ensures.within c.in_ok-at.ensures.place in
    subst (λ (all : List Aggregate). c.in_ok-at.at * length all + length all ≤ length c.group_of.new.states.items) (sym {A = List Aggregate} c.as_slice-aggregates.ensures) fits

pub take_all-requires-clause-few : goal.take_all-requires-clause-few
take_all-requires-clause-few c =
    let g = c.args.grouping.now in
    let mid : List AggregateState = c.group_of.new.states.items in
    let few : CanCountOne g.aggregates (states_from (c.in_ok-at.at * length g.aggregates) (length g.aggregates) mid) =
    can_count g c.args.row.now c.args.index.now.keys c.group_of.new.index.keys c.args.states.now.items mid c.in_ok-at.at c.in_ok-at.ensures.step c.in_ok-at.ensures.within c.in_ok-at.ensures.place c.requires in
    subst (λ (all : List Aggregate). CanCountOne all (states_from (c.in_ok-at.at * length all) (length all) mid)) (sym {A = List Aggregate} c.as_slice-aggregates.ensures) few

pub returns-clause-ok : goal.returns-clause-ok
returns-clause-ok c rows are =
    let g = c.args.grouping.now in
    let at : ℕ = c.in_ok-at.at in
    let mid : List AggregateState = c.group_of.new.states.items in
    let now : List AggregateState = c.take_all.new.states.items in
    let changed : IsChangedAt (at * length g.aggregates) (length g.aggregates) mid now =
    subst (λ (all : List Aggregate). IsChangedAt (at * length all) (length all) mid now) c.as_slice-aggregates.ensures c.in_ok-take_all.ensures.others in
    let takes : TakesRow g.aggregates c.args.row.now (states_from (at * length g.aggregates) (length g.aggregates) mid) (states_from (at * length g.aggregates) (length g.aggregates) now) =
    subst (λ (all : List Aggregate). TakesRow all c.args.row.now (states_from (at * length all) (length all) mid) (states_from (at * length all) (length all) now)) c.as_slice-aggregates.ensures c.in_ok-take_all.ensures.ok in
    taken_at g c.args.row.now c.args.index.now.keys c.group_of.new.index.keys c.args.states.now.items mid at c.in_ok-at.ensures.step c.in_ok-at.ensures.within c.in_ok-at.ensures.place now changed takes rows are
