-- Keys in classes by their hash, and the groups of each class.
use Rattle.std.specs.Prelude.{◌≡◌, ℕ, ◌==◌, ◌/◌, ◌%◌, ◌^◌, ◌<◌, Bool, Err, List, [], MatchResult, Result, Some, filter, fold, length, map, slice_index_or}
use Rattle.std.specs.Hash.FoldHasher as folding
use denote.Ref.{Bor}
use Rattle.span_expr.specs.declared.cell.Failure.{Failure}
use Rattle.span_query.specs.declared.query.Grouping.{Grouping}
use Rattle.span_query.specs.Rows.{Row}
use Rattle.span_query.specs.Groups.{columns_at, group_keys, groups}
use Rattle.span_conditions.specs.Answers.{Gives}
use Rattle.span_rows.specs.Hashes.{row_writes}
use Rattle.span_rows.specs.Keys.{place_of}
use Rattle.span_rows.specs.LentRows.{lent_rows}
use Rattle.span_collected.specs.declared.lent.LentGroups.{LentGroups}
use Rattle.span_groups.specs.GroupStates.{AreGroupLists, HaveKeys, keys_at}
use Rattle.span_classes.specs.declared.class.Class.{Class}
use Rattle.span_classes.specs.declared.class_groups.ClassGroups.{ClassGroups}

-- the number of the class of a key, where there are `count` classes
unfoldable pub class_of : ℕ → Row → ℕ
class_of count key = folding.finish (fold folding.write folding.initial (row_writes key)) / 2 ^ 32 % count

abbrev pub is_in_class : Class → Row → Bool
is_in_class class key = class_of class.count key == class.number

-- the rows whose keys are in a class
abbrev pub rows_of_class : List ℕ → Class → List Row → List Row
rows_of_class places class rows = filter (λ (row : Row). is_in_class class (columns_at places row)) rows

-- for each key the place of the first row that has it
abbrev pub first_places : List ℕ → List Row → List Row → List ℕ
first_places places rows keys = map (place_of (keys_at places rows)) keys

-- the values of the row at a place
abbrev pub key_at : List ℕ → List Row → ℕ → Row
key_at places rows at = columns_at places (slice_index_or rows at [])

-- for each row the number of the class of its key
pub record AreClassNumbers (count : ℕ) (places : List ℕ) (rows : List Row) (numbers : List ℕ) : Type 0 where
  pub counted : length numbers ≡ length rows
  pub each : (at : ℕ) (d : ℕ) → at < length rows → slice_index_or numbers at d ≡ class_of count (key_at places rows at)

-- the groups of a class after some of all rows were taken
pub record HaveTaken (g : Grouping) (class : Class) (all taken keys : List Row) (made : LentGroups) (firsts : List ℕ) : Type 0 where
  pub are : AreGroupLists g (rows_of_class g.keys class taken) keys made.states.items
  pub keyed : HaveKeys g (lent_rows made.firsts.items) keys
  pub placed : firsts ≡ first_places g.keys all keys

-- the groups of the rows whose keys are in a class
pub record AreGroupsOfClass (g : Grouping) (class : Class) (rows : List Row) (made : ClassGroups) : Type 0 where
  pub are : groups g (rows_of_class g.keys class rows) ≡ Some made.rows
  pub placed : made.firsts.items ≡ first_places g.keys rows (group_keys g.keys (rows_of_class g.keys class rows))

abbrev pub class_at : ℕ → ℕ → Class
class_at count number = record { number = number; count = count }

-- the groups of the class with a number, or why there are none
abbrev pub IsMade : Grouping → List Row → ℕ → ℕ → Result ClassGroups Failure → Type 0
IsMade g rows count number made =
    MatchResult made (AreGroupsOfClass g (class_at count number) rows) (λ (why : Failure). Gives {A = List Row} (Err why) (groups g rows))

-- the groups of each of the classes, or why there are none
pub record AreMade (g : Grouping) (rows : List Row) (count : ℕ) (made : List (Result ClassGroups Failure)) : Type 0 where
  pub counted : length made ≡ count
  pub each : (number : ℕ) (d : Result ClassGroups Failure) → number < count → IsMade g rows count number (slice_index_or made number d)

-- the groups of each of the classes
pub record AreAllClasses (g : Grouping) (rows : List Row) (count : ℕ) (classes : List ClassGroups) : Type 0 where
  pub counted : length classes ≡ count
  pub each : (number : ℕ) (d : ClassGroups) → number < count → AreGroupsOfClass g (class_at count number) rows (slice_index_or classes number d)

-- for each class the rows of its groups
abbrev pub rows_of : List ClassGroups → List (List Row)
rows_of classes = map (λ (x : ClassGroups). x.rows) classes
