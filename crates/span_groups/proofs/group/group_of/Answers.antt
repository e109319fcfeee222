use Rattle.std.proofs.Common.{rules}
use Rattle.span_groups.proofs.GroupPlaces.{place_of_known, place_of_new}
use Rattle.span_groups.proofs.group.group_of.Goals as goal

pub returns-in_ok-add_states-clause-step : goal.returns-in_ok-add_states-clause-step
returns-in_ok-add_states-clause-step c =
    (place_of_new c.args.grouping.now c.args.row.now c.args.index.now.keys c.place_of_row.new.index.keys c.args.states.now.items c.requires (search rules) c.in_ok-at.at (search rules)
    c.in_ok-at.is_new (search rules) (search rules) c.add_states.new.states.items (search rules)).step

pub returns-in_ok-add_states-clause-place : goal.returns-in_ok-add_states-clause-place
returns-in_ok-add_states-clause-place c =
    (place_of_new c.args.grouping.now c.args.row.now c.args.index.now.keys c.place_of_row.new.index.keys c.args.states.now.items c.requires (search rules) c.in_ok-at.at (search rules)
    c.in_ok-at.is_new (search rules) (search rules) c.add_states.new.states.items (search rules)).place

pub returns-in_ok-add_states-clause-within : goal.returns-in_ok-add_states-clause-within
returns-in_ok-add_states-clause-within c =
    (place_of_new c.args.grouping.now c.args.row.now c.args.index.now.keys c.place_of_row.new.index.keys c.args.states.now.items c.requires (search rules) c.in_ok-at.at (search rules)
    c.in_ok-at.is_new (search rules) (search rules) c.add_states.new.states.items (search rules)).within

pub returns-else-is_new-clause-step : goal.returns-else-is_new-clause-step
returns-else-is_new-clause-step c =
    (place_of_known c.args.grouping.now c.args.row.now c.args.index.now.keys c.place_of_row.new.index.keys c.args.states.now.items c.requires (search rules) c.in_ok-at.at (search rules)
    c.in_ok-at.is_new (search rules) (search rules)).step

pub returns-else-is_new-clause-place : goal.returns-else-is_new-clause-place
returns-else-is_new-clause-place c =
    (place_of_known c.args.grouping.now c.args.row.now c.args.index.now.keys c.place_of_row.new.index.keys c.args.states.now.items c.requires (search rules) c.in_ok-at.at (search rules)
    c.in_ok-at.is_new (search rules) (search rules)).place

pub returns-else-is_new-clause-within : goal.returns-else-is_new-clause-within
returns-else-is_new-clause-within c =
    (place_of_known c.args.grouping.now c.args.row.now c.args.index.now.keys c.place_of_row.new.index.keys c.args.states.now.items c.requires (search rules) c.in_ok-at.at (search rules)
    c.in_ok-at.is_new (search rules) (search rules)).within
