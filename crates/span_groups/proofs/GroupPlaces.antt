-- What is said of the group of a row, by whether the key of the row was added.
use Rattle.std.proofs.Common.{◌≡◌, ℕ, ◌<◌, Bool, true, false, not, List, length}
use Rattle.span_query.specs.declared.query.Grouping.{Grouping}
use Rattle.span_query.specs.Rows.{Row}
use Rattle.span_query.specs.Groups.{columns_at}
use Rattle.span_rows.specs.Keys.{contains_row, place_of, with_new}
use Rattle.span_groups.specs.declared.aggregate.AggregateState.{AggregateState}
use Rattle.span_groups.specs.States.{AreAdded}
use Rattle.span_groups.specs.GroupStates.{groups_by, AreInStep}
use Rattle.span_groups.specs.MergedGroups.{AreWholeGroups, HasGroupAt}
use Rattle.span_groups.proofs.GroupSteps.{new_of, known_of, step_known, step_new, within_known, within_new, place_has_group, place_new_group}

-- the keys and the states have a group for the key of a row, at this place
pub record IsGroupPlace (g : Grouping) (row : Row) (keys new : List Row) (states now : List AggregateState) (at : ℕ) : Type 0 where
  pub step : AreInStep g new now
  pub place : (rows : List Row) → AreWholeGroups g keys rows (groups_by g keys states) → HasGroupAt g (columns_at g.keys row) keys rows (groups_by g new now) at
  pub within : at < length new

module _ (g : Grouping) (row : Row) (keys new : List Row) (states : List AggregateState) (step : AreInStep g keys states) (is : new ≡ with_new keys (columns_at g.keys row))
    (at : ℕ) (place : at ≡ place_of keys (columns_at g.keys row)) (is_new : Bool) (is_right : is_new ≡ not (contains_row keys (columns_at g.keys row))) where
  pub place_of_known : is_new ≡ false → IsGroupPlace g row keys new states states at
  place_of_known stays =
      let known : contains_row keys (columns_at g.keys row) ≡ true = known_of is_new (contains_row keys (columns_at g.keys row)) is_right stays in
      record {
        step = step_known g row keys new states step is at place known;
        place = place_has_group g row keys new states step is at place known;
        within = within_known g row keys new states step is at place known;
      }

  pub place_of_new : is_new ≡ true → (now : List AggregateState) → AreAdded g.aggregates states now → IsGroupPlace g row keys new states now at
  place_of_new comes now added =
      let none : contains_row keys (columns_at g.keys row) ≡ false = new_of is_new (contains_row keys (columns_at g.keys row)) is_right comes in
      record {
        step = step_new g row keys new states step is at place none now added;
        place = place_new_group g row keys new states step is at place none now added;
        within = within_new g row keys new states step is at place none now added;
      }
