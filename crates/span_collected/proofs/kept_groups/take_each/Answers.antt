use Rattle.std.proofs.Common.{rules, ◌≡◌, ◌∙◌, ◌++◌, ◌<◌, ◌≤◌, ℕ, List, [], length, sym, subst}
use Rattle.std.proofs.lemmas.List.{append-nil, get_or_read}
use Rattle.span_query.specs.Rows.{Row}
use Rattle.span_rows.specs.RowPlaces.{rows_at}
use Rattle.span_groups.specs.declared.aggregate.AggregateState.{AggregateState}
use Rattle.span_groups.specs.GroupStates.{keys_at, AreGroupLists, HaveKeys}
use Rattle.span_collected.proofs.KeptGroups.{HaveTaken, kept_index, taken_none, taken_next, taken_all, can_count_next, first_next}
use Rattle.span_collected.proofs.kept_groups.take_each.Goals as goal

pub take_row-requires : goal.take_row-requires
take_row-requires c =
    let g = c.args.grouping.now in
    let within : c.loop-at.at < length c.args.rows.now = search rules in
    can_count_next g (keys_at g.keys c.args.firsts.now) c.args.states.now.items c.args.rows.now c.loop-at.at c.loop-at.index.keys c.loop-at.states.items within c.requires c.loop-at.invariant.taken

pub loop-at-init : goal.loop-at-init
loop-at-init c =
    let g = c.args.grouping.now in
    let firsts : List Row = c.args.firsts.now in
    let states : List AggregateState = c.args.states.now.items in
    let index : List Row = c.in_ok-index.index.keys in
    let is : index ≡ keys_at g.keys firsts = search (rules, c.in_ok-index.ensures) ∙ kept_index g c.requires.rows firsts states c.requires.are in
    record {
      taken = subst (λ (ks : List Row). HaveTaken g (keys_at g.keys firsts) states c.args.rows.now 0 ks states) (sym is) (taken_none g (keys_at g.keys firsts) states c.args.rows.now);
      firsts =
          subst (λ (places : List ℕ). HaveKeys g (firsts ++ rows_at c.args.rows.now places) index) (sym {A = List ℕ} c.new-places.ensures.items)
          (subst (λ (l : List Row). HaveKeys g l index) (sym (append-nil firsts)) (sym is));
    }

pub loop-at-preserved : goal.loop-at-preserved
loop-at-preserved c =
    let g = c.args.grouping.now in
    let rows : List Row = c.args.rows.now in
    let i : ℕ = c.loop-at.at in
    let row : Row = c.row.result.now in
    let within : i < length rows = search rules in
    record {
      taken =
          taken_next g (keys_at g.keys c.args.firsts.now) c.args.states.now.items rows i c.loop-at.index.keys c.take_row.new.index.keys c.loop-at.states.items c.take_row.new.states.items row within c.row.ensures
          c.loop-at.invariant.taken c.in_ok-is_new.ensures.ok;
      firsts =
          first_next g c.in_ok-is_new.is_new c.args.firsts.now rows c.loop-at.index.keys c.take_row.new.index.keys c.loop-at.places.items c.push_if.new.items.items i row c.in_ok-is_new.ensures.keys c.in_ok-is_new.ensures.added
          (sym (get_or_read rows i row within c.row.ensures [])) c.in_ok-push_if.ensures.added c.in_ok-push_if.ensures.same c.loop-at.invariant.firsts;
    }

pub returns-clause-ok : goal.returns-clause-ok
returns-clause-ok c before are =
    let g = c.args.grouping.now in
    let rows : List Row = c.args.rows.now in
    let past : length rows ≤ c.loop-at.at = search rules in
    subst (λ (ks : List Row). AreGroupLists g (before ++ rows) ks c.loop-at.states.items) (sym {A = List Row} c.loop-at.invariant.firsts)
    (taken_all g (keys_at g.keys c.args.firsts.now) c.args.states.now.items rows c.loop-at.at c.loop-at.index.keys c.loop-at.states.items past c.loop-at.invariant.taken before are)
