-- What a mutation is checked for before any row is looked at.
use Rattle.std.specs.Prelude.{ℕ, Bool, not, ◌||◌, ◌&&◌, nat_lt, List, [], ◌∷◌, ◌++◌, length, Option, Some, None, is_none, Result, Ok, Err}
use Rattle.std.specs.Option.{option_or}
use Rattle.span_value.specs.Results.{and_then, first_cause}
use Rattle.span_value.specs.declared.value.Value.{Value}
use Rattle.span_value.specs.declared.refusal.Refusal.{Refusal}
use Rattle.span_value.specs.declared.refusal.Refusal.TheVariants.{NoTable, NoColumn, WrongType, NullNotAllowed, ValueTooLong, KeyTooLong, EmptyTransaction}
use Rattle.span_schema.specs.declared.table.Table.{Table}
use Rattle.span_schema.specs.Numbers.{number_named, table_at, key_columns}
use Rattle.span_keycode.specs.Coding.{are_of_kinds}
use Rattle.span_keycode.specs.Keys.{key_code}
use Rattle.span_keycode.specs.Limits.{longest_key}
use Rattle.span_mutate.specs.declared.mutation.NamedValue.{NamedValue}
use Rattle.span_mutate.specs.declared.mutation.MutationKind.{MutationKind}
use Rattle.span_mutate.specs.declared.mutation.Mutation.{Mutation}
use Rattle.span_mutate.specs.declared.mutation.CheckedMutation.{CheckedMutation}
use Rattle.span_checking.specs.Columns.{cell_column, has_wrong_type, is_null_refused, is_too_long, key_breaks, is_named, lacks_cell, values_named}
use Rattle.span_mutate.specs.Kinds.{is_delete, may_insert}
use Rattle.span_mutate.specs.Database.{unless}

-- the whole key of table n: one value of the right type for each key column; then NOT NULL, the lengths, the length of
-- its coding
abbrev pub key_causes : List Table → ℕ → Table → List Value → List (Bool × Refusal)
key_causes tables n t key =
    (not (are_of_kinds (key_columns tables n) key), WrongType)
    ∷ (key_breaks is_null_refused t.columns t.key key, NullNotAllowed)
    ∷ (key_breaks is_too_long t.columns t.key key, ValueTooLong)
    ∷ (nat_lt longest_key (length (key_code tables n key)), KeyTooLong)
    ∷ []

-- a cell, given those before it: it names a column outside the key that none before it names, and a Delete has none;
-- then its value
abbrev pub cell_causes : Table → MutationKind → List NamedValue → NamedValue → List (Bool × Refusal)
cell_causes t kind before c =
    (is_delete kind || is_none (cell_column t c.column) || is_named before c.column, NoColumn)
    ∷ (has_wrong_type (cell_column t c.column) c.value, WrongType)
    ∷ (is_null_refused (cell_column t c.column) c.value, NullNotAllowed)
    ∷ (is_too_long (cell_column t c.column) c.value, ValueTooLong)
    ∷ []

-- the cells in turn
abbrev pub cells_cause : Table → MutationKind → List NamedValue → List NamedValue → Option Refusal
cells_cause t kind before [] = None
cells_cause t kind before (c ∷ cs) =
    option_or (first_cause (cell_causes t kind before c)) (cells_cause t kind (before ++ c ∷ []) cs)

-- what may make a new row names each NOT NULL column
abbrev pub lack_causes : Table → Mutation → List (Bool × Refusal)
lack_causes t m = (may_insert m.kind && lacks_cell t.key m.cells t.columns, NullNotAllowed) ∷ []

-- a mutation of table n: its key, its cells, and what they lack
abbrev pub mutation_cause : List Table → ℕ → Table → Mutation → Option Refusal
mutation_cause tables n t m =
    option_or (first_cause (key_causes tables n t m.key))
    (option_or (cells_cause t m.kind [] m.cells) (first_cause (lack_causes t m)))

abbrev pub typed : ℕ → Table → Mutation → CheckedMutation
typed n t m = record { kind = m.kind; table = n; key = m.key; cells = values_named t.key m.cells t.columns }

abbrev pub checked_at : List Table → ℕ → Option Table → Mutation → Result CheckedMutation Refusal
checked_at tables n None m = Err NoTable
checked_at tables n (Some t) m = unless (mutation_cause tables n t m) (typed n t m)

abbrev pub checked_in : List Table → Option ℕ → Mutation → Result CheckedMutation Refusal
checked_in tables None m = Err NoTable
checked_in tables (Some n) m = checked_at tables n (table_at tables n) m

-- a mutation by itself, in the table that it names
abbrev pub checked : List Table → Mutation → Result CheckedMutation Refusal
checked tables m = checked_in tables (number_named tables m.table) m

-- the mutations one after another, up to the first that is refused
abbrev pub checked_all : List Table → List Mutation → Result (List CheckedMutation) Refusal
checked_all tables [] = Ok []
checked_all tables (m ∷ ms) = and_then (checked tables m) (λ c. and_then (checked_all tables ms) (λ cs. Ok (c ∷ cs)))

-- a transaction has a mutation
abbrev pub checked_transaction : List Table → List Mutation → Result (List CheckedMutation) Refusal
checked_transaction tables [] = Err EmptyTransaction
checked_transaction tables (m ∷ ms) = checked_all tables (m ∷ ms)

-- with these in front
abbrev pub with_front : List CheckedMutation → Result (List CheckedMutation) Refusal
    → Result (List CheckedMutation) Refusal
with_front front rest = and_then rest (λ cs. Ok (front ++ cs))
