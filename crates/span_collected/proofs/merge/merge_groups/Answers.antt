use Rattle.std.proofs.Common.{rules, ◌≡◌, ◌∷◌, ◌++◌, ◌+◌, ◌*◌, ◌<◌, ◌≤◌, [], ℕ, IsTrue, List, length, take, ap, sym, subst, ◌∙◌, arith, get_or}
use Rattle.std.proofs.lemmas.List.{get_or-map, length-map, take_more}
use denote.Ref.{Bor}
use Rattle.span_query.specs.Rows.{Row}
use Rattle.span_query.specs.Groups.{columns_at, group_keys, rows_with}
use Rattle.span_rows.specs.Keys.{with_new}
use Rattle.span_rows.specs.LentRows.{lent_rows}
use Rattle.span_groups.specs.declared.aggregate.AggregateState.{AggregateState}
use Rattle.span_groups.specs.StateLists.{Group, states_from}
use Rattle.span_groups.specs.GroupStates.{keys_of, keys_at, groups_by, HasTakenRows}
use Rattle.span_groups.specs.MergedGroups.{AreWholeGroups, with_keys, rows_by_key}
use Rattle.span_groups.specs.States.{AreStatesOf}
use Rattle.span_groups.proofs.Absorbed.{key_at, key_count}
use Rattle.span_groups.proofs.GroupSteps.{group_by_row, count_by_rows, lists_of_groups}
use Rattle.span_groups.proofs.StateLists.{fits_at}
use Rattle.span_groups.proofs.MergedGroups.{merged_first, merged_more, merged_all}
use Rattle.span_collected.proofs.merge.merge_groups.Goals as goal

pub states_at-states-requires : goal.states_at-states-requires
states_at-states-requires c =
    let w : ℕ = length c.args.grouping.now.aggregates in
    let i : ℕ = c.loop-at.at in
    let len : c.len-width.result ≡ w = search rules in
    let within : i < length c.args.firsts.now = search rules in
    let bound : i * w + w ≤ length c.args.more.now = omega (arith, c.requires.wide, fits_at i w (length c.args.firsts.now) within) in
    let known : i * c.len-width.result + c.len-width.result ≤ length c.args.more.now =
    subst (λ (n : ℕ). i * n + n ≤ length c.args.more.now) (sym len) bound in
    omega (arith, known)

pub loop-at-init : goal.loop-at-init
loop-at-init c =
    let g = c.args.grouping.now in
    let more : List Group = groups_by g (keys_at g.keys (lent_rows c.args.firsts.now)) c.args.more.now in
    record {
      step = c.requires.step;
      merged = λ taken next are held. merged_first g taken next more (groups_by g c.args.index.now.keys c.args.groups.now.states.items) are.are;
      firsts = λ have. have;
    }

pub loop-at-preserved : goal.loop-at-preserved
loop-at-preserved c =
    let g = c.args.grouping.now in
    let w : ℕ = length g.aggregates in
    let i : ℕ = c.loop-at.at in
    let lent : List (Bor Row) = c.args.firsts.now in
    let firsts : List Row = lent_rows lent in
    let states : List AggregateState = c.args.more.now in
    let more : List Group = groups_by g (keys_at g.keys firsts) states in
    let one : Bor Row = c.index-firsts-at.result in
    let row : Row = one.now in
    let x : Group = record { key = columns_at g.keys row; states = states_from (i * w) w states } in
    let inner : i < length lent = search rules in
    let within : i < length firsts = omega (arith, inner, length-map lent (λ (r : Bor Row). r.now)) in
    let found : get_or lent i one ≡ one = search rules in
    let at_place : get_or firsts i row ≡ row = get_or-map (λ (r : Bor Row). r.now) lent i one row inner ∙ ap (λ (r : Bor Row). r.now) found in
    let is : x ≡ get_or more i x = sym (group_by_row g.keys w firsts states i row x within (sym at_place)) in
    let inside : i < length more = omega (arith, within, count_by_rows g.keys w firsts states) in
    let key : get_or (keys_of more) i x.key ≡ x.key = key_at more i x x.key inside ∙ ap (λ (y : Group). y.key) (sym is) in
    let front : take (i + 1) (keys_of more) ≡ take i (keys_of more) ++ x.key ∷ [] =
    take_more (keys_of more) i x.key (omega (arith, inside, key_count more)) ∙ ap (λ (k : Row). take i (keys_of more) ++ k ∷ []) key in
    let done : IsTrue c.in_ok-merge_group.field-0 = search rules in
    let len : c.len-width.result ≡ w = search rules in
    let lent : c.states_at-states.result.now ≡ states_from (i * w) w states =
    c.states_at-states.ensures
    ∙ ap (λ (n : ℕ). states_from (i * n) n states) len in
    let now : List Group = groups_by g c.loop-at.index.keys c.loop-at.groups.states.items in
    record {
      step = c.in_ok-merge_group.ensures.step;
      merged = λ taken next are held.
          let old : List Row = with_keys (group_keys g.keys taken) (take i (keys_of more)) in
          let rows : List Row = taken ++ rows_by_key g.keys (take i (keys_of more)) next in
          let new : List Group = groups_by g c.merge_group.new.index.keys c.merge_group.new.groups.states.items in
          let before : AreWholeGroups g old rows now = c.loop-at.invariant.merged taken next are held in
          let same : c.loop-at.index.keys ≡ old = lists_of_groups g c.loop-at.index.keys c.loop-at.groups.states.items old rows before in
          let its : AreStatesOf g.aggregates (rows_with g.keys x.key next) x.states = subst (HasTakenRows g next) (sym is) (held.are.each i x inside) in
          let merged : AreWholeGroups g (with_new c.loop-at.index.keys x.key) (rows ++ rows_with g.keys x.key next) new =
          c.in_ok-merge_group.ensures.merged done rows next (subst (λ (ks : List Row). AreWholeGroups g ks rows now) (sym same) before)
          (subst (λ (l : List AggregateState). AreStatesOf g.aggregates (rows_with g.keys x.key next) l) (sym lent) its) in
          merged_more g taken next more i x.key new front
          (subst (λ (ks : List Row). AreWholeGroups g (with_new ks x.key) (rows ++ rows_with g.keys x.key next) new) same merged);
      firsts = λ have. c.in_ok-merge_group.ensures.firsts (c.loop-at.invariant.firsts have);
    }

pub returns-clause-merged : goal.returns-clause-merged
returns-clause-merged c done taken next are held =
    let g = c.args.grouping.now in
    let lent : List (Bor Row) = c.args.firsts.now in
    let firsts : List Row = lent_rows lent in
    let states : List AggregateState = c.args.more.now in
    let more : List Group = groups_by g (keys_at g.keys firsts) states in
    let past_lent : length lent ≤ c.loop-at.at = search rules in
    let over : length firsts ≤ c.loop-at.at = omega (arith, past_lent, length-map lent (λ (r : Bor Row). r.now)) in
    let past : length more ≤ c.loop-at.at = omega (arith, over, count_by_rows g.keys (length g.aggregates) firsts states) in
    record {
      whole = c.loop-at.invariant.step.whole;
      are = merged_all g taken next more c.loop-at.at (groups_by g c.loop-at.index.keys c.loop-at.groups.states.items) past held.are (c.loop-at.invariant.merged taken next are held);
    }
