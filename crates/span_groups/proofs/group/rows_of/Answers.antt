use Rattle.std.proofs.Common.{rules, ◌≡◌, ◌∷◌, ◌+◌, ◌*◌, ◌<◌, ◌≤◌, [], ℕ, List, Ok, Err, Some, length, drop, get_or, sym, subst, refl, ◌∙◌, arith}
use Rattle.std.proofs.lemmas.List.{drop_all}
use denote.Ref.{Bor}
use Rattle.span_value.proofs.Lists.{drop_read}
use Rattle.span_query.specs.Rows.{Row, Rows}
use Rattle.span_query.specs.Groups.{columns_at, group_row, groups}
use Rattle.span_conditions.specs.Answers.{Gives}
use Rattle.span_rows.specs.LentRows.{lent_rows}
use Rattle.span_groups.specs.declared.aggregate.AggregateState.{AggregateState}
use Rattle.span_groups.specs.GroupStates.{keys_at}
use Rattle.span_groups.specs.StateLists.{Group, groups_in, states_from}
use Rattle.span_groups.proofs.GroupSteps.{group_by_first, count_by_firsts}
use Rattle.span_groups.proofs.StateLists.{fits_at}
use Rattle.span_groups.proofs.Shown.{AreShown, groups-shown, gives_row, puts_fails, next_taken, shown_more, shown_fails, shown_all}
use Rattle.span_groups.proofs.group.rows_of.Goals as goal

pub states_at-requires : goal.states_at-requires
states_at-requires c = omega (arith, c.requires, fits_at c.loop-at.at c.args.width (length c.args.firsts.now) (search rules))

pub returns-in_err-put_row : goal.returns-in_err-put_row
returns-in_err-put_row c g rows keyed wide are =
    let places : List ℕ = c.args.places.now in
    let firsts : List (Bor Row) = c.args.firsts.now in
    let states : List AggregateState = c.args.states.now in
    let w : ℕ = c.args.width in
    let i : ℕ = c.loop-at.at in
    let all : List Group = groups_in w (keys_at places (lent_rows firsts)) states in
    let first : Bor Row = c.index-firsts-at.result in
    let x : Group = record { key = columns_at places first.now; states = states_from (i * w) w states } in
    let left : List Group = drop (i + 1) all in
    let found = c.loop-at.rows in
    let why = c.in_err-put_row.field-0.0 in
    let within : i < length firsts = search rules in
    let its : first ≡ get_or firsts i first = search rules in
    let inside : i < length all = omega (arith, within, count_by_firsts places w firsts states) in
    let is : x ≡ get_or all i x = sym (group_by_first places w firsts states i first x within its) in
    let shown : AreShown g rows all found (x ∷ left) = subst (AreShown g rows all found) (drop_read all i x inside is) (c.loop-at.invariant g rows keyed wide are) in
    let row : Gives (Err why) (group_row g rows x.key) = gives_row g rows x (Err why) x.key c.states_at.result.now refl c.states_at.ensures (λ every taken h. puts_fails why _ _ (c.in_err-put_row.ensures every taken h)) (next_taken g rows all found x left shown) in
    let fails : Gives (Err why) (groups g rows) = subst (λ (o : Rows). Gives (Err why) o) (sym {A = Rows} (groups-shown g rows all are)) (shown_fails g rows all found x left shown why row) in
    search (rules, fails)

pub loop-at-preserved : goal.loop-at-preserved
loop-at-preserved c g rows keyed wide are =
    let places : List ℕ = c.args.places.now in
    let firsts : List (Bor Row) = c.args.firsts.now in
    let states : List AggregateState = c.args.states.now in
    let w : ℕ = c.args.width in
    let i : ℕ = c.loop-at.at in
    let all : List Group = groups_in w (keys_at places (lent_rows firsts)) states in
    let first : Bor Row = c.index-firsts-at.result in
    let x : Group = record { key = columns_at places first.now; states = states_from (i * w) w states } in
    let left : List Group = drop (i + 1) all in
    let found = c.loop-at.rows in
    let made : Row = c.put_row.new.values.items in
    let within : i < length firsts = search rules in
    let its : first ≡ get_or firsts i first = search rules in
    let inside : i < length all = omega (arith, within, count_by_firsts places w firsts states) in
    let is : x ≡ get_or all i x = sym (group_by_first places w firsts states i first x within its) in
    let shown : AreShown g rows all found (x ∷ left) = subst (AreShown g rows all found) (drop_read all i x inside is) (c.loop-at.invariant g rows keyed wide are) in
    let row : group_row g rows x.key ≡ Some made = gives_row g rows x (Ok made) x.key c.states_at.result.now refl c.states_at.ensures c.in_ok-put_row.ensures (next_taken g rows all found x left shown) in
    subst (λ (out : List Row). AreShown g rows all out left) (sym {A = List Row} c.in_ok-push.ensures.ok) (shown_more g rows all found x left shown made row)

pub returns : goal.returns
returns c g rows keyed wide are =
    let places : List ℕ = c.args.places.now in
    let firsts : List (Bor Row) = c.args.firsts.now in
    let all : List Group = groups_in c.args.width (keys_at places (lent_rows firsts)) c.args.states.now in
    let found = c.loop-at.rows in
    let over : length firsts ≤ c.loop-at.at = search rules in
    let past : length all ≤ c.loop-at.at = omega (arith, over, count_by_firsts places c.args.width firsts c.args.states.now) in
    let shown : AreShown g rows all found [] = subst (AreShown g rows all found) (drop_all c.loop-at.at all past) (c.loop-at.invariant g rows keyed wide are) in
    groups-shown g rows all are ∙ shown_all g rows all found shown
