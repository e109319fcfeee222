-- Groups whose states are in one list, a fixed number for each.
use Rattle.std.specs.Prelude.{◌≡◌, ℕ, ◌+◌, List, [], ◌∷◌, length, take, drop}
use Rattle.span_query.specs.Rows.{Row}
use Rattle.span_groups.specs.declared.aggregate.AggregateState.{AggregateState}

-- the rows of one key, as the states of the aggregates
pub record Group : Type 0 where
  pub key : Row
  pub states : List AggregateState

-- `width` states from a place on
abbrev pub states_from : ℕ → ℕ → List AggregateState → List AggregateState
states_from start width states = take width (drop start states)

-- the groups that have these keys, each with the next `width` of the states
abbrev pub groups_in : ℕ → List Row → List AggregateState → List Group
groups_in width [] states = []
groups_in width (key ∷ keys) states =
    record { key = key; states = take width states } ∷ groups_in width keys (drop width states)

-- all states but `width` of them from a place on are as they were
pub record IsChangedAt (start width : ℕ) (old new : List AggregateState) : Type 0 where
  pub long : length new ≡ length old
  pub before : take start new ≡ take start old
  pub after : drop (start + width) new ≡ drop (start + width) old
