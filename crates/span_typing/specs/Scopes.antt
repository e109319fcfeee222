-- What names refer to in a block.
use Rattle.std.specs.List.{list_any}
use Rattle.std.specs.Prelude.{ℕ, ◌+◌, ◌==◌, ◌&&◌, Bool, true, false, List, drop, position, Option, Some, None, Result, Ok, Err}
use Rattle.span_value.specs.declared.refusal.Refusal.{Refusal}
use Rattle.span_value.specs.declared.refusal.Refusal.TheVariants.{NoColumn, Ambiguous}
use Rattle.span_schema.specs.Tables.{is_same_name}
use Rattle.span_trees.specs.declared.tree.Column.{Column}
use Rattle.span_trees.specs.declared.tree.Spelling.{Spelling}
use Rattle.span_typing.specs.declared.scope.ScopeColumn.{ScopeColumn}
use Rattle.span_typing.specs.declared.scope.Scope.{Scope}
use Rattle.span_value.specs.Results.{and_then}

abbrev pub is_named : List ℕ → Option (List ℕ) → Bool
is_named name None = false
is_named name (Some n) = is_same_name n name

abbrev pub if_unique : Bool → ℕ → Result ℕ Refusal
if_unique true p = Err Ambiguous
if_unique false p = Ok p

-- the place of the first that passes, which must be the only one
abbrev pub only_place : {A : Type 0} → (A → Bool) → List A → Option ℕ → Result ℕ Refusal
only_place test xs None = Err NoColumn
only_place test xs (Some p) = if_unique (list_any test (drop (p + 1) xs)) p

abbrev pub one_place : {A : Type 0} → (A → Bool) → List A → Result ℕ Refusal
one_place test xs = only_place test xs (position test xs)

-- a column of any item, or of one
abbrev pub is_in_item : Option ℕ → ScopeColumn → Bool
is_in_item None c = true
is_in_item (Some item) c = c.item == item

abbrev pub fits : Option ℕ → List ℕ → ScopeColumn → Bool
fits item name c = is_in_item item c && is_named name c.name

-- the item with a name
abbrev pub item_named : Scope → List ℕ → Option ℕ
item_named scope name = position (λ (n : List ℕ). is_same_name n name) scope.items

abbrev pub this_item : Option ℕ → Result (Option ℕ) Refusal
this_item None = Err NoColumn
this_item (Some item) = Ok (Some item)

-- the item before the dot, if there is one
abbrev pub item_of : Scope → Option Spelling → Result (Option ℕ) Refusal
item_of scope None = Ok None
item_of scope (Some spelled) = this_item (item_named scope spelled.text)

-- the place of the column that a name refers to
unfoldable pub column_place : Scope → Column → Result ℕ Refusal
column_place scope c = and_then (item_of scope c.table) (λ item. one_place (fits item c.name.text) scope.columns)
