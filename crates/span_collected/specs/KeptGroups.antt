-- Rows of which their groups alone are kept.
use Rattle.std.specs.Prelude.{◌≡◌, ℕ, List, [], Option, Some, None, MatchOption, length}
use Rattle.span_query.specs.declared.query.Grouping.{Grouping}
use Rattle.span_query.specs.Rows.{Row}
use Rattle.span_groups.specs.declared.aggregate.AggregateState.{AggregateState}
use Rattle.span_collected.specs.declared.kept_groups.KeptGroups.{KeptGroups}
use Rattle.span_groups.specs.GroupStates.{keys_at, AreGroupLists}
use Rattle.span_groups.specs.MergedGroups.{AnyFault}

-- rows are grouped by the same keys, with the same aggregates
pub record IsSameGrouping (g other : Grouping) : Type 0 where
  pub keys : g.keys ≡ other.keys
  pub aggregates : g.aggregates ≡ other.aggregates

-- the groups of some rows, given by the first row of each and the states of its aggregates
abbrev pub AreGroupsWith : Grouping → List Row → List Row → List AggregateState → Type 0
AreGroupsWith g rows firsts states = AreGroupLists g rows (keys_at g.keys firsts) states

-- the groups of some rows, or none where an operand of an aggregate is an arithmetic error at one of them
abbrev pub AreGroupsOrFault : Grouping → List Row → Option KeptGroups → Type 0
AreGroupsOrFault g rows groups = MatchOption groups (AnyFault g rows) (λ (kept : KeptGroups). AreGroupsWith g rows kept.firsts kept.states.items)

-- the same, and the number of the rows
pub record AreKeptGroups (g : Grouping) (rows : List Row) (groups : Option KeptGroups) (count : ℕ) : Type 0 where
  pub counted : count ≡ length rows
  pub are : AreGroupsOrFault g rows groups

-- the rows that are there as groups, where some are
abbrev pub grouped_rows : Option (List Row) → List Row
grouped_rows None = []
grouped_rows (Some rows) = rows
