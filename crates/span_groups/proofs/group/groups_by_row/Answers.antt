use Rattle.std.proofs.Common.{rules, ◌≡◌, ◌+◌, ◌<◌, length, [], List, Some, Err, true, false, sym, subst, refl}
use Rattle.std.proofs.lemmas.List.{get_or_read}
use Rattle.span_query.specs.Rows.{Row, ◌>>=◌, filter_where}
use Rattle.span_query.specs.Groups.{groups}
use Rattle.span_conditions.specs.Answers.{Gives}
use Rattle.span_rows.specs.RowPlaces.{rows_at}
use Rattle.span_groups.specs.declared.aggregate.AggregateState.{AggregateState}
use Rattle.span_groups.specs.declared.group.GroupLists.{GroupLists}
use Rattle.span_groups.specs.GroupStates.{AreGroupLists, HaveKeys}
use Rattle.span_rows.specs.Filtering.{holds_where}
use Rattle.span_groups.proofs.Passes.{HavePassed, passed_none, pass_fails, take_fails, pass_keeps, pass_drops, groups_passed}
use Rattle.span_groups.proofs.group.groups_by_row.Goals.{then-branch+in_ok-take_row_at, else-branch}
use Rattle.span_groups.proofs.group.groups_by_row.Goals as goal

pub returns-in_err-is_kept : goal.returns-in_err-is_kept
returns-in_err-is_kept c =
    let filter = c.args.filter.now in
    let rows = c.args.rows.now in
    let row = c.row-row.result.now in
    let within : c.loop-at.at < length rows = search rules in
    let why = c.in_err-is_kept.field-0.0 in
    let known : Gives (Err why) (holds_where filter row) = search rules in
    let fails : Gives (Err why) (filter_where filter rows >>= groups c.args.grouping.now) =
    pass_fails filter c.args.grouping.now rows c.loop-at.at c.loop-at.index.keys c.loop-at.groups.states.items c.loop-at.invariant.passed row within c.row-row.ensures why known in
    search (rules, fails)

pub returns-in_err-take_row_at : goal.returns-in_err-take_row_at
returns-in_err-take_row_at c =
    let filter = c.args.filter.now in
    let rows = c.args.rows.now in
    let row = c.row-row.result.now in
    let within : c.loop-at.at < length rows = search rules in
    let why = c.in_err-take_row_at.field-0.0 in
    let holds : holds_where filter row ≡ Some true = search rules in
    let fails : Gives (Err why) (filter_where filter rows >>= groups c.args.grouping.now) =
    take_fails filter c.args.grouping.now rows c.loop-at.at c.loop-at.index.keys c.loop-at.groups.states.items c.loop-at.invariant.passed row within c.row-row.ensures holds why (search rules) in
    search (rules, fails)

pub loop-at-init : goal.loop-at-init
loop-at-init c =
    let g = c.args.grouping.now in
    let rows = c.args.rows.now in
    let groups : GroupLists = c.in_ok-groups.groups in
    record {
      passed =
          passed_none c.args.filter.now g rows c.in_ok-index.index.keys groups.states.items
          (subst (λ (ks : List Row). AreGroupLists g [] ks groups.states.items) (sym {A = List Row} c.in_ok-index.ensures) c.in_ok-groups.ensures.states);
      firsts = subst (λ (ks : List Row). HaveKeys g (rows_at rows groups.firsts.items) ks) (sym {A = List Row} c.in_ok-index.ensures) (c.in_ok-groups.ensures.firsts rows);
    }

pub loop-at-preserved : goal.loop-at-preserved
loop-at-preserved c =
    let filter = c.args.filter.now in
    let g = c.args.grouping.now in
    let rows = c.args.rows.now in
    let row = c.row-row.result.now in
    let within : c.loop-at.at < length rows = search rules in
    let i = c.loop-at.at in
    let keys : List Row = c.loop-at.index.keys in
    let states : List AggregateState = c.loop-at.groups.states.items in
    elim c.if-branch.branch [
      | then-branch+in_ok-take_row_at w ↦
          let holds : holds_where filter row ≡ Some true = search rules in
          let more : List Row = w.take_row_at.new.index.keys in
          let new : GroupLists = w.take_row_at.new.groups in
          let kept : HavePassed filter g rows (i + 1) more new.states.items =
          pass_keeps filter g rows i keys states c.loop-at.invariant.passed row within c.row-row.ensures holds more new.states.items w.in_ok-take_row_at.ensures.ok in
          let have : HaveKeys g (rows_at rows new.firsts.items) more = w.in_ok-take_row_at.ensures.firsts rows (sym (get_or_read rows i row within c.row-row.ensures [])) c.loop-at.invariant.firsts in
          rw (w.groups-is, w.index-is) (record { passed = kept; firsts = have })
      | else-branch w ↦
          let holds : holds_where filter row ≡ Some false = search rules in
          let kept : HavePassed filter g rows (i + 1) keys states = pass_drops filter g rows i keys states c.loop-at.invariant.passed row within c.row-row.ensures holds in
          rw (w.groups-is, w.index-is) (record { passed = kept; firsts = c.loop-at.invariant.firsts })
    ]

pub returns : goal.returns
returns c = groups_passed c.args.filter.now c.args.grouping.now c.args.rows.now c.loop-at.at c.loop-at.index.keys c.loop-at.groups.states.items c.loop-at.invariant.passed c.loop-at.groups refl c.loop-at.invariant.firsts (search rules)
