-- The groups after some rows were taken.
use Rattle.std.specs.Prelude.{◌≡◌, ℕ, ◌+◌, ◌*◌, ◌<◌, ◌^◌, List, [], ◌∷◌, ◌++◌, Option, Some, length, map, slice_index_or}
use Rattle.std.specs.List.{All}
use Rattle.span_expr.specs.declared.expr.Expr.{Expr}
use Rattle.span_query.specs.declared.query.Grouping.{Grouping}
use Rattle.span_query.specs.Rows.{Row, filter_where}
use Rattle.span_query.specs.Groups.{group_keys, rows_with, columns_at}
use Rattle.span_rows.specs.RowPlaces.{rows_at}
use Rattle.span_groups.specs.declared.aggregate.AggregateState.{AggregateState}
use Rattle.span_groups.specs.declared.group.GroupLists.{GroupLists}
use Rattle.span_groups.specs.StateLists.{Group, groups_in}
use Rattle.span_groups.specs.States.{AreStatesOf}

abbrev pub keys_of : List Group → List Row
keys_of groups = map (λ (x : Group). x.key) groups

-- the states of a group have taken those of the rows that have its key
abbrev pub HasTakenRows : Grouping → List Row → Group → Type 0
HasTakenRows g rows x = AreStatesOf g.aggregates (rows_with g.keys x.key rows) x.states

-- groups with these keys that have taken these rows
pub record AreGroups (g : Grouping) (keys : List Row) (rows : List Row) (groups : List Group) : Type 0 where
  pub keyed : keys_of groups ≡ keys
  pub each : All (HasTakenRows g rows) groups

-- the groups of these rows
abbrev pub AreGroupsOf : Grouping → List Row → List Group → Type 0
AreGroupsOf g rows groups = AreGroups g (group_keys g.keys rows) rows groups

-- the groups that have these keys, and the states of their aggregates in one list
abbrev pub groups_by : Grouping → List Row → List AggregateState → List Group
groups_by g keys states = groups_in (length g.aggregates) keys states

-- the keys and the states of the groups of these rows
pub record AreGroupLists (g : Grouping) (rows keys : List Row) (states : List AggregateState) : Type 0 where
  pub whole : length states ≡ length keys * length g.aggregates
  pub are : AreGroupsOf g rows (groups_by g keys states)

-- the values of rows at some places
abbrev pub keys_at : List ℕ → List Row → List Row
keys_at places rows = map (columns_at places) rows

-- the rows have these keys
abbrev pub HaveKeys : Grouping → List Row → List Row → Type 0
HaveKeys g rows keys = keys_at g.keys rows ≡ keys

-- the groups of some rows; the first of each is among all of these
abbrev pub HoldGroups : Grouping → List Row → List Row → GroupLists → Type 0
HoldGroups g all rows x = AreGroupLists g rows (keys_at g.keys (rows_at all x.firsts.items)) x.states.items

-- there are states for each of the keys, of which there is one where there are no key columns
pub record AreInStep (g : Grouping) (keys : List Row) (states : List AggregateState) : Type 0 where
  pub whole : length states ≡ length keys * length g.aggregates
  pub one : g.keys ≡ [] → keys ≡ [] ∷ []

-- the groups of those of the rows at which the condition is TRUE
pub record AreGroupsWhere (filter : Option Expr) (g : Grouping) (rows : List Row) (x : GroupLists) : Type 0 where
  pub kept : List Row
  pub those : filter_where filter rows ≡ Some kept
  pub are : HoldGroups g rows kept x

-- the number of rows taken is so small that one more can be counted
pub record CanCountRow (g : Grouping) (keys : List Row) (states : List AggregateState) : Type 0 where
  pub rows : List Row
  pub are : AreGroupLists g rows keys states
  pub few : length rows + 1 < 2 ^ 64

-- the groups have one for the key of one more row, at this place
pub record HasPlace (g : Grouping) (row : Row) (rows : List Row) (groups : List Group) (at : ℕ) : Type 0 where
  pub are : AreGroups g (group_keys g.keys (rows ++ row ∷ [])) rows groups
  pub within : at < length groups
  pub key : (d : Group) → (slice_index_or groups at d).key ≡ columns_at g.keys row
