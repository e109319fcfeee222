-- Groups, and the groups of further rows put together with them.
use Rattle.std.specs.Prelude.{◌≡◌, ℕ, ◌+◌, ◌<◌, ◌^◌, false, List, [], ◌∷◌, Any, None, length, flat_map, slice_index_or}
use Rattle.span_query.specs.declared.query.Grouping.{Grouping}
use Rattle.span_query.specs.Rows.{Row}
use Rattle.span_query.specs.Groups.{rows_with}
use Rattle.span_groups.specs.StateLists.{Group}
use Rattle.span_groups.specs.States.{operand_at}
use Rattle.span_rows.specs.Keys.{contains_row, with_new, AreApart}
use Rattle.span_groups.specs.declared.aggregate.AggregateState.{AggregateState}
use Rattle.span_groups.specs.GroupStates.{AreGroups, AreGroupLists}

-- groups with these keys, which are apart, that have taken these rows, each of which has one of the keys
pub record AreWholeGroups (g : Grouping) (keys rows : List Row) (groups : List Group) : Type 0 where
  pub are : AreGroups g keys rows groups
  pub apart : AreApart keys
  pub whole : (key : Row) → contains_row keys key ≡ false → rows_with g.keys key rows ≡ []

-- the same, with a group for a key at this place
pub record HasGroupAt (g : Grouping) (key : Row) (keys rows : List Row) (groups : List Group) (at : ℕ) : Type 0 where
  pub are : AreWholeGroups g (with_new keys key) rows groups
  pub within : at < length groups
  pub has_key : (d : Group) → (slice_index_or groups at d).key ≡ key

-- keys, and after them those of further keys that are not among them
abbrev pub with_keys : List Row → List Row → List Row
with_keys keys [] = keys
with_keys keys (x ∷ more) = with_keys (with_new keys x) more

-- rows, those of one key after another
abbrev pub rows_by_key : List ℕ → List Row → List Row → List Row
rows_by_key places keys rows = flat_map (λ (key : Row). rows_with places key rows) keys

-- an aggregate is an arithmetic error at one of the rows
abbrev pub AnyFault : Grouping → List Row → Type 0
AnyFault g rows = Any (λ (row : Row). Any (λ a. operand_at row a ≡ None) g.aggregates) rows

-- the number of rows taken, with these, is below 2^64
pub record CanTakeList (g : Grouping) (keys : List Row) (states : List AggregateState) (more : List Row) : Type 0 where
  pub rows : List Row
  pub are : AreGroupLists g rows keys states
  pub few : length rows + length more < 2 ^ 64
