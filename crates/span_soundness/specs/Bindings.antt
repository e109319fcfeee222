-- The types of the rows that a block's expressions speak of, and what it is that the binder's types are right.
use Rattle.std.specs.Prelude.{◌≡◌, ℕ, Bool, true, ◌&&◌, List, [], ◌∷◌, ◌++◌, map}
use Rattle.span_value.specs.declared.value.Kind.{Kind}
use Rattle.span_value.specs.declared.value.Kind.TheVariants as kind
use Rattle.span_schema.specs.declared.table.Table.{Table}
use Rattle.span_schema.specs.Fitting.{is_of_kind}
use Rattle.span_query.specs.declared.query.Aggregate.{Aggregate}
use Rattle.span_query.specs.declared.query.Aggregate.TheVariants.{CountRows, Of}
use Rattle.span_query.specs.declared.query.Function.{Function}
use Rattle.span_query.specs.declared.query.Function.TheVariants.{Count, Sum, Min, Max}
use Rattle.span_params.specs.declared.params.Parameter.{Parameter}
use Rattle.span_typing.specs.declared.scope.Scope.{Scope}
use Rattle.span_typing.specs.declared.scope.ScopeColumn.{ScopeColumn}
use Rattle.span_operators.specs.declared.typed.Typed.{Typed}
use Rattle.span_operators.specs.declared.typed.Mode.{Mode}
use Rattle.span_operators.specs.declared.typed.Mode.TheVariants.{Rows, Groups}
use Rattle.span_operators.specs.Kinds.{takes}
use Rattle.span_typing.specs.Typing.{kind_at}
use Rattle.span_query.specs.declared.query.OutputColumn.{OutputColumn}
use Rattle.span_blocks.specs.Sources.{table_columns}
use Rattle.span_soundness.specs.Types.{Typing, are_same, has_type, is_of}

-- ---- rows

-- the types of the columns of a FROM
abbrev pub column_types : Scope → List Kind
column_types scope = map (λ (c : ScopeColumn). c.kind) scope.columns

-- the types of the grouped columns
abbrev pub key_types : Scope → List Kind
key_types scope = map (kind_at scope) scope.keys

-- the types of rows of the FROM, or of those of the groups, where the aggregates are of these types
abbrev pub row_types : Scope → Mode → List Kind → List Kind
row_types scope Rows aggregates = column_types scope
row_types scope Groups aggregates = key_types scope ++ aggregates

-- the types of the columns that a block or a query gives
abbrev pub output_types : List OutputColumn → List Kind
output_types columns = map (λ (c : OutputColumn). c.kind) columns

-- the types of the columns of a table of the schema, by its number
abbrev pub table_types : List Table → ℕ → List Kind
table_types schema n = output_types (table_columns schema n)

-- ---- aggregates

-- a function of an operand
abbrev pub is_function_of : Function → Typing → Kind → Bool
is_function_of Count operand k = are_same kind.Int k && has_type operand
is_function_of Sum operand k = are_same kind.Int k && operand kind.Int
is_function_of Min operand k = operand k
is_function_of Max operand k = operand k

-- whether an aggregate of rows of these types is of a type
abbrev pub is_aggregate_of : List Kind → Aggregate → Kind → Bool
is_aggregate_of types CountRows k = are_same kind.Int k
is_aggregate_of types (Of f e) k = is_function_of f (is_of types e) k

-- as many aggregates as types, each of its type
abbrev pub AreAggregatesOf : List Kind → List Aggregate → List Kind → Type 0
AreAggregatesOf types [] [] = Unit {0}
AreAggregatesOf types (a ∷ more) (k ∷ ks) = (is_aggregate_of types a k ≡ true) × AreAggregatesOf types more ks
AreAggregatesOf types found ks = ⊥

-- ---- what the binder answers

-- each parameter has a value of its type, or NULL
abbrev pub AreTyped : List Parameter → Type 0
AreTyped [] = Unit {0}
AreTyped (p ∷ ps) = (is_of_kind p.kind p.value ≡ true) × AreTyped ps

-- an expression is of the type that it was given, or of each, if it is a NULL literal
abbrev pub IsTyped : List Kind → Typed → Type 0
IsTyped types x = (k : Kind) → takes k x.kind ≡ true → is_of types x.expr k ≡ true

-- the same where the aggregates found so far are of these types, whatever aggregates are found after them
abbrev pub StaysTyped : Scope → Mode → List Kind → Typed → Type 0
StaysTyped scope m aggregates x = (later : List Kind) → IsTyped (row_types scope m (aggregates ++ later)) x
