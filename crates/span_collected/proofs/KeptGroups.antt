-- Groups, and further rows that are taken into them one after another.
use Rattle.std.proofs.Common.{◌≡◌, ℕ, ◌+◌, ◌<◌, ◌≤◌, Bool, true, false, not, List, [], ◌∷◌, ◌++◌, length, get_or, take, drop, Option, None, Err, refl, sym, ap, ◌∙◌, subst, append_assoc, arith}
use Rattle.std.proofs.lemmas.Grind.{flat_map-append}
use Rattle.std.proofs.lemmas.List.{append-nil, get_or_append_left, length-append, length-take-le, take_all, take-append-drop}
use Rattle.std.proofs.Math.Seq.{get_or-append_right}
use denote.Ref.{Bor}
use Rattle.span_value.proofs.Lists.{drop_read}
use Rattle.span_expr.specs.declared.cell.Failure.{Failure}
use Rattle.span_expr.specs.declared.cell.Failure.TheVariants as failure
use Rattle.span_expr.specs.declared.expr.Expr.{Expr}
use Rattle.span_query.specs.declared.query.Aggregate.{Aggregate}
use Rattle.span_query.specs.declared.query.Grouping.{Grouping}
use Rattle.span_query.specs.Rows.{Row}
use Rattle.span_query.specs.Groups.{columns_at, group_keys, groups}
use Rattle.span_conditions.specs.Answers.{Gives}
use Rattle.span_rows.specs.Columns.{distinct_at}
use Rattle.span_rows.specs.Keys.{contains_row, with_new, AreApart}
use Rattle.span_rows.specs.RowPlaces.{rows_at}
use Rattle.span_rows.proofs.Gathering.{taken_more}
use Rattle.span_rows.proofs.Places.{group_keys-apart}
use Rattle.span_groups.specs.declared.aggregate.AggregateState.{AggregateState}
use Rattle.span_groups.specs.GroupStates.{keys_at, AreGroupLists, CanCountRow, HaveKeys}
use Rattle.span_collected.specs.KeptGroups.{AreGroupsWith, IsSameGrouping}
use Rattle.span_groups.specs.MergedGroups.{AnyFault, CanTakeList}
use Rattle.span_collected.specs.Parts.{all_rows}
use Rattle.span_groups.proofs.GroupSteps.{firsts_by, rows_at-push}
use Rattle.span_groups.specs.States.{AreStatesOf}
use Rattle.span_groups.proofs.MergedGroups.{apart_distinct}
use Rattle.span_groups.proofs.OneGroup.{one_group_held}
use Rattle.span_groups.proofs.Shown.{groups-fault}
use Rattle.span_groups.proofs.StateLists.{keys_in}

-- ---- the index of groups, from the first rows of these

pub kept_index : (g : Grouping) (rows firsts : List Row) (states : List AggregateState) → AreGroupsWith g rows firsts states → distinct_at g.keys firsts ≡ keys_at g.keys firsts
kept_index g rows firsts states are =
    let keys : keys_at g.keys firsts ≡ group_keys g.keys rows = sym (keys_in (length g.aggregates) (keys_at g.keys firsts) states) ∙ are.are.keyed in
    apart_distinct (keys_at g.keys firsts) (subst AreApart (sym keys) (group_keys-apart g.keys rows))

-- what is kept of groups does not matter to them
other_having : (keys : List ℕ) (aggregates : List Aggregate) (having other : Option Expr) (rows firsts : List Row) (states : List AggregateState)
    → AreGroupsWith (record { keys = keys; aggregates = aggregates; having = other }) rows firsts states → AreGroupsWith (record { keys = keys; aggregates = aggregates; having = having }) rows firsts states
other_having keys aggregates having other rows firsts states are = record { whole = are.whole; are = record { keyed = are.are.keyed; each = are.are.each } }

pub same_groups : (g other : Grouping) → IsSameGrouping g other → (rows firsts : List Row) (states : List AggregateState) → AreGroupsWith other rows firsts states → AreGroupsWith g rows firsts states
same_groups g other same rows firsts states are = rw (same.keys, same.aggregates) (other_having other.keys other.aggregates g.having other.having rows firsts states are)

-- ---- the one group, where the number of rows alone is wanted

pub counted_all : (g : Grouping) (before rows firsts : List Row) (old new : List AggregateState) → g.keys ≡ [] → AreGroupsWith g before firsts old → AreStatesOf g.aggregates (before ++ rows) new
    → AreGroupsWith g (before ++ rows) firsts new
counted_all g before rows firsts old new none are states =
    let one : keys_at g.keys firsts ≡ [] ∷ [] =
    sym (keys_in (length g.aggregates) (keys_at g.keys firsts) old) ∙ are.are.keyed ∙ ap (λ (places : List ℕ). group_keys places before) none in
    subst (λ (ks : List Row). AreGroupLists g (before ++ rows) ks new) (sym one) (one_group_held g (before ++ rows) new none states)

-- ---- one row after another

module _ (g : Grouping) (first : List Row) (old : List AggregateState) (rows : List Row) where
  -- whatever rows the groups had taken, they have taken these up to a place
  abbrev pub HaveTaken : ℕ → List Row → List AggregateState → Type 0
  HaveTaken at keys now = (before : List Row) → AreGroupLists g before first old → AreGroupLists g (before ++ take at rows) keys now

  pub taken_none : HaveTaken 0 first old
  taken_none before are = subst (λ (l : List Row). AreGroupLists g l first old) (sym (append-nil before)) are

  pub taken_next : (at : ℕ) (keys more : List Row) (now new : List AggregateState) (row : Row) → at < length rows → row ≡ get_or rows at row → HaveTaken at keys now
      → ((taken : List Row) → AreGroupLists g taken keys now → AreGroupLists g (taken ++ row ∷ []) more new) → HaveTaken (at + 1) more new
  taken_next at keys more now new row within is have takes before are =
      subst (λ (l : List Row). AreGroupLists g l more new) (append_assoc before (take at rows) (row ∷ []) ∙ ap (λ (l : List Row). before ++ l) (taken_more rows at row within is))
      (takes (before ++ take at rows) (have before are))

  pub taken_all : (at : ℕ) (keys : List Row) (now : List AggregateState) → length rows ≤ at → HaveTaken at keys now → (before : List Row) → AreGroupLists g before first old → AreGroupLists g (before ++ rows) keys now
  taken_all at keys now past have before are = subst (λ (l : List Row). AreGroupLists g (before ++ l) keys now) (take_all at rows past) (have before are)

  pub can_count_next : (at : ℕ) (keys : List Row) (now : List AggregateState) → at < length rows → CanTakeList g first old rows → HaveTaken at keys now → CanCountRow g keys now
  can_count_next at keys now within can have = record {
    rows = can.rows ++ take at rows;
    are = have can.rows can.are;
    few = omega (arith, within, can.few, length-append can.rows (take at rows), length-take-le at rows (omega (arith, within)));
  }

-- the first rows, and after them those of further rows that are the first of their group
pub first_next : (g : Grouping) (is_new : Bool) (firsts rows keys more : List Row) (places new : List ℕ) (at : ℕ) (row : Row) → more ≡ with_new keys (columns_at g.keys row) → is_new ≡ not (contains_row keys (columns_at g.keys row))
    → get_or rows at [] ≡ row → (is_new ≡ true → new ≡ places ++ at ∷ []) → (is_new ≡ false → new ≡ places)
    → HaveKeys g (firsts ++ rows_at rows places) keys → HaveKeys g (firsts ++ rows_at rows new) more
first_next g is_new firsts rows keys more places new at row is added there adds keeps have =
    firsts_by g is_new (firsts ++ rows_at rows places) (firsts ++ rows_at rows new) keys more row is added
    (λ e. ap (λ (l : List ℕ). firsts ++ rows_at rows l) (adds e) ∙ ap (λ (l : List Row). firsts ++ l) (rows_at-push rows places at row there) ∙ sym (append_assoc firsts (rows_at rows places) (row ∷ [])))
    (λ e. ap (λ (l : List ℕ). firsts ++ rows_at rows l) (keeps e)) have

-- ---- parts

pub any_after : (g : Grouping) (front rows : List Row) → AnyFault g rows → AnyFault g (front ++ rows)
any_after g front rows found = (
  length front + found.0,
  found.1,
  omega (arith, found.2, length-append front rows),
  get_or-append_right front rows (length front + found.0) found.1 (omega arith) ∙ ap (λ (i : ℕ). get_or rows i found.1) (omega arith) ∙ found.3,
  found.4,
)

pub any_before : (g : Grouping) (rows more : List Row) → AnyFault g rows → AnyFault g (rows ++ more)
any_before g rows more found = (
  found.0,
  found.1,
  omega (arith, found.2, length-append rows more),
  get_or_append_left rows more found.1 found.0 found.2 ∙ found.3,
  found.4,
)

-- an aggregate is an arithmetic error at one of the rows of a part
pub any_of_part : (g : Grouping) (before part after all : List Row) → all ≡ before ++ (part ++ after) → AnyFault g part → AnyFault g all
any_of_part g before part after all is found = subst (AnyFault g) (sym is) (any_after g before (part ++ after) (any_before g part after found))

pub rows_split : (parts : List (Bor (List Row))) (i : ℕ) (x : Bor (List Row)) → i < length parts → x ≡ get_or parts i x → all_rows parts ≡ all_rows (take i parts) ++ (x.now ++ all_rows (drop (i + 1) parts))
rows_split parts i x within is =
    ap all_rows (sym (take-append-drop i parts) ∙ ap (λ (l : List (Bor (List Row))). take i parts ++ l) (drop_read parts i x within is))
    ∙ flat_map-append (λ (part : Bor (List Row)). part.now) (take i parts) (x ∷ drop (i + 1) parts)

rows_fault : (g : Grouping) (before part after : List Row) → AnyFault g part → groups g (before ++ (part ++ after)) ≡ None
rows_fault g before part after found =
    let row : Row = found.1 in
    let left : List Row = take found.0 part in
    let right : List Row = drop (found.0 + 1) part in
    let split : part ≡ left ++ row ∷ right = sym (take-append-drop found.0 part) ∙ ap (λ (l : List Row). left ++ l) (drop_read part found.0 row found.2 (sym found.3)) in
    ap (λ (l : List Row). groups g (before ++ (l ++ after))) split
    ∙ ap (λ (l : List Row). groups g (before ++ l)) (append_assoc left (row ∷ right) after)
    ∙ ap (groups g) (sym (append_assoc before left (row ∷ (right ++ after))))
    ∙ groups-fault g (before ++ left) row (right ++ after) found.4

pub part_fails : (g : Grouping) (before part after all : List Row) (why : Failure) → all ≡ before ++ (part ++ after) → (why ≡ failure.Fault → AnyFault g part) → Gives (Err why) (groups g all)
part_fails g before part after all failure.Fault is any = ap (groups g) is ∙ rows_fault g before part after (any refl)
part_fails g before part after all failure.OutOfMemory is any = tt {0}
