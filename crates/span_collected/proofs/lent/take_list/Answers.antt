use Rattle.std.proofs.Common.{rules, ◌<◌, ◌≤◌, length}
use Rattle.span_collected.proofs.KeptGroups.{taken_none, taken_next, taken_all, can_count_next}
use Rattle.span_collected.proofs.lent.take_list.Goals as goal

pub take_lent_row-requires : goal.take_lent_row-requires
take_lent_row-requires c =
    let within : c.loop-at.at < length c.args.rows.now = search rules in
    can_count_next c.args.grouping.now c.args.index.now.keys c.args.groups.now.states.items c.args.rows.now c.loop-at.at c.loop-at.index.keys c.loop-at.groups.states.items within c.requires c.loop-at.invariant.taken

pub loop-at-init : goal.loop-at-init
loop-at-init c = record {
  taken = taken_none c.args.grouping.now c.args.index.now.keys c.args.groups.now.states.items c.args.rows.now;
  firsts = λ have. have;
}

pub loop-at-preserved : goal.loop-at-preserved
loop-at-preserved c =
    let within : c.loop-at.at < length c.args.rows.now = search rules in
    record {
      taken =
          taken_next c.args.grouping.now c.args.index.now.keys c.args.groups.now.states.items c.args.rows.now c.loop-at.at c.loop-at.index.keys c.take_lent_row.new.index.keys c.loop-at.groups.states.items c.take_lent_row.new.groups.states.items
          c.row.result.now within c.row.ensures c.loop-at.invariant.taken c.in_ok-take_lent_row.ensures.ok;
      firsts = λ have. c.in_ok-take_lent_row.ensures.firsts (c.loop-at.invariant.firsts have);
    }

pub returns-clause-ok : goal.returns-clause-ok
returns-clause-ok c before are =
    let past : length c.args.rows.now ≤ c.loop-at.at = search rules in
    taken_all c.args.grouping.now c.args.index.now.keys c.args.groups.now.states.items c.args.rows.now c.loop-at.at c.loop-at.index.keys c.loop-at.groups.states.items past c.loop-at.invariant.taken before are
