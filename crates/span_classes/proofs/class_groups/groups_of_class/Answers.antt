use Rattle.std.proofs.Common.{rules, ◌≡◌, ◌+◌, ◌<◌, ◌≤◌, ◌^◌, ◌++◌, ◌∷◌, Err, List, length, get_or, take, drop, ap, sym, subst, arith}
use Rattle.std.proofs.lemmas.List.{length-map, take_all}
use denote.Ref.{Bor}
use Rattle.span_query.specs.Rows.{Row}
use Rattle.span_query.specs.Groups.{groups}
use Rattle.span_conditions.specs.Answers.{Gives}
use Rattle.span_rows.specs.LentRows.{lent_rows}
use Rattle.span_classes.specs.Classes.{HaveTaken, rows_of_class}
use Rattle.span_classes.proofs.Taking.{before_length, can_count, class_fails, lists_are, placed_are, row_fails, row_next, row_split, taken_all}
use Rattle.span_classes.proofs.class_groups.groups_of_class.Goals as goal

pub take_if_in_class-requires-clause-few : goal.take_if_in_class-requires-clause-few
take_if_in_class-requires-clause-few c =
    let at = c.loop-place.place in
    let within : at ≤ length c.args.rows.now = search rules in
    let few : at + 1 < 2 ^ 64 = search rules in
    can_count c.args.grouping.now c.args.class (take at (lent_rows c.args.rows.now)) c.loop-place.index.keys c.loop-place.groups.states.items c.loop-place.invariant.are
    (omega (arith, few, before_length c.args.rows.now at within))

pub returns-in_err-take_if_in_class : goal.returns-in_err-take_if_in_class
returns-in_err-take_if_in_class c =
    let at = c.loop-place.place in
    let all : List Row = lent_rows c.args.rows.now in
    let x : Bor Row = c.index-rows-place.result in
    let within : at < length c.args.rows.now = search rules in
    let is : x ≡ get_or c.args.rows.now at x = search rules in
    let why = c.in_err-take_if_in_class.field-0.0 in
    let fails : Gives {A = List Row} (Err why) (groups c.args.grouping.now all) =
    row_fails c.args.grouping.now (take at all) (drop (at + 1) all) all x.now why (row_split c.args.rows.now at x within is) (λ e. c.in_err-take_if_in_class.ensures.fault (ap (λ w. Err w) e)) in
    search (rules, fails)

pub loop-place-preserved : goal.loop-place-preserved
loop-place-preserved c =
    let g = c.args.grouping.now in
    let class = c.args.class in
    let at = c.loop-place.place in
    let all : List Row = lent_rows c.args.rows.now in
    let x : Bor Row = c.index-rows-place.result in
    let within : at < length c.args.rows.now = search rules in
    let is : x ≡ get_or c.args.rows.now at x = search rules in
    let split : all ≡ take at all ++ x.now ∷ drop (at + 1) all = row_split c.args.rows.now at x within is in
    let before : HaveTaken g class (take at all ++ x.now ∷ drop (at + 1) all) (take at all) c.loop-place.index.keys c.loop-place.groups c.loop-place.firsts.items =
    subst (λ (l : List Row). HaveTaken g class l (take at all) c.loop-place.index.keys c.loop-place.groups c.loop-place.firsts.items) split c.loop-place.invariant in
    subst (λ (l : List Row). HaveTaken g class l (take (at + 1) all) c.take_if_in_class.new.index.keys c.take_if_in_class.new.groups c.take_if_in_class.new.firsts.items) (sym split)
    (subst (λ (l : List Row). HaveTaken g class (take at all ++ x.now ∷ drop (at + 1) all) l c.take_if_in_class.new.index.keys c.take_if_in_class.new.groups c.take_if_in_class.new.firsts.items)
    (sym (row_next c.args.rows.now at x within is))
    (c.in_ok-take_if_in_class.ensures.ok (take at all) (drop (at + 1) all) (before_length c.args.rows.now at (omega (arith, within))) before))

pub returns-in_err-rows : goal.returns-in_err-rows
returns-in_err-rows c =
    let g = c.args.grouping.now in
    let all : List Row = lent_rows c.args.rows.now in
    let past : length c.args.rows.now ≤ c.loop-place.place = search rules in
    let h : HaveTaken g c.args.class all all c.loop-place.index.keys c.loop-place.groups c.loop-place.firsts.items = taken_all g c.args.class c.args.rows.now c.loop-place.place c.loop-place.index.keys c.loop-place.groups c.loop-place.firsts.items past c.loop-place.invariant in
    let why = c.in_err-rows.field-0.0 in
    let fails : Gives {A = List Row} (Err why) (groups g all) =
    class_fails g c.args.class c.requires.keyed all c.loop-place.index.keys c.loop-place.groups c.loop-place.firsts.items h why
    (c.in_err-rows.ensures (rows_of_class g.keys c.args.class all) (lists_are g c.args.class c.requires.keyed all c.loop-place.index.keys c.loop-place.groups c.loop-place.firsts.items h)) in
    search (rules, fails)

pub returns : goal.returns
returns c =
    let g = c.args.grouping.now in
    let all : List Row = lent_rows c.args.rows.now in
    let past : length c.args.rows.now ≤ c.loop-place.place = search rules in
    let h : HaveTaken g c.args.class all all c.loop-place.index.keys c.loop-place.groups c.loop-place.firsts.items = taken_all g c.args.class c.args.rows.now c.loop-place.place c.loop-place.index.keys c.loop-place.groups c.loop-place.firsts.items past c.loop-place.invariant in
    record {
      are = c.in_ok-rows.ensures (rows_of_class g.keys c.args.class all) (lists_are g c.args.class c.requires.keyed all c.loop-place.index.keys c.loop-place.groups c.loop-place.firsts.items h);
      placed = placed_are g c.args.class c.requires.keyed all c.loop-place.index.keys c.loop-place.groups c.loop-place.firsts.items h;
    }
