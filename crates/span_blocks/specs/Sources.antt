-- The items of a FROM: the columns of each, and what the names up to it refer to.
use Rattle.std.specs.List.{All}
use Rattle.std.specs.Option.{is_some}
use Rattle.std.specs.Prelude.{ℕ, ◌+◌, nat_le, Bool, List, [], ◌∷◌, ◌++◌, length, map, Option, Some, None, Result, Ok, Err, if◌then◌else◌}
use Rattle.span_value.specs.declared.value.Kind.TheVariants as kind
use Rattle.span_value.specs.declared.refusal.Refusal.{Refusal}
use Rattle.span_value.specs.declared.refusal.Refusal.TheVariants.{TypeMismatch, NoTable, DuplicateAlias, TooManyTables}
use Rattle.span_schema.specs.declared.table.Table.{Table}
use Rattle.span_schema.specs.declared.table.Column.{Column}
use Rattle.span_schema.specs.Tables.{kind_of}
use Rattle.span_schema.specs.Numbers.{IsTable, number_named, columns_of}
use Rattle.span_trees.specs.declared.tree.Spelling.{Spelling}
use Rattle.span_trees.specs.declared.tree.Expr.{Expr}
use Rattle.span_expr.specs.declared.expr.Expr.{Expr as TypedExpr}
use Rattle.span_query.specs.declared.query.BoundQuery.{BoundQuery}
use Rattle.span_query.specs.declared.query.Item.TheVariants as item
use Rattle.span_query.specs.declared.query.Join.{Join}
use Rattle.span_params.specs.declared.params.Parameter.{Parameter}
use Rattle.span_typing.specs.declared.scope.Scope.{Scope}
use Rattle.span_typing.specs.declared.scope.ScopeColumn.{ScopeColumn}
use Rattle.span_operators.specs.declared.typed.Typed.{Typed}
use Rattle.span_operators.specs.declared.typed.Mode.TheVariants.{Rows}
use Rattle.span_operators.specs.Kinds.{takes}
use Rattle.span_typing.specs.Scopes.{item_named}
use Rattle.span_value.specs.Results.{and_then}
use Rattle.span_operators.specs.Steps.{TypingStep}
use Rattle.span_typing.specs.Typing.{typing}
use Rattle.span_query.specs.declared.query.OutputColumn.{OutputColumn}
use Rattle.span_blocks.specs.declared.bound.Source.{Source}
use Rattle.span_blocks.specs.declared.bound.FromItems.{FromItems}
use Rattle.span_blocks.specs.declared.bound.TypedQuery.{TypedQuery}

-- The tables named so far in a query are passed along it, by their numbers in the schema: its leaves.
abbrev pub Naming : Type 0 → Type 0
Naming A = TypingStep (List ℕ) A

-- the leaves are tables of the schema
abbrev pub AreTables : List Table → List ℕ → Type 0
AreTables schema leaves = All (IsTable schema) leaves

abbrev pub HasTables : {A : Type 0} → List Table → Result (A × List ℕ) Refusal → Type 0
HasTables schema (Ok p) = AreTables schema p.1
HasTables schema (Err why) = Unit {0}

-- ---- tables and derived tables

-- its alias, or else its name
abbrev pub name_or_alias : Spelling → Option Spelling → List ℕ
name_or_alias name None = name.text
name_or_alias name (Some alias) = alias.text

abbrev pub table_column : Column → OutputColumn
table_column c = record { name = Some c.name; kind = kind_of c.kind }

abbrev pub table_columns : List Table → ℕ → List OutputColumn
table_columns schema n = map table_column (columns_of schema n)

abbrev pub table_source : List Table → List ℕ → ℕ → ℕ → Source
table_source schema name leaf n = record { item = item.Table leaf; name = name; columns = table_columns schema n }

-- the table with this number is the next leaf
abbrev pub numbered_source : List Table → List ℕ → Option ℕ → Naming Source
numbered_source schema name None leaves = Err NoTable
numbered_source schema name (Some n) leaves = Ok (table_source schema name (length leaves + 1) n, leaves ++ (n ∷ []))

-- the most table names that a query may have
abbrev pub most_table_names : ℕ
most_table_names = 8

-- one more table name of the query
abbrev pub named_source : List Table → Spelling → Option Spelling → Naming Source
named_source schema name alias leaves =
    if nat_le most_table_names (length leaves) then Err TooManyTables
    else numbered_source schema (name_or_alias name alias) (number_named schema name.text) leaves

abbrev pub derived_source : Spelling → TypedQuery → Source
derived_source name q = record { item = item.Derived q.query; name = name.text; columns = q.columns }

-- ---- names

abbrev pub no_names : Scope
no_names = record { items = []; columns = []; keys = [] }

abbrev pub scope_column : ℕ → OutputColumn → ScopeColumn
scope_column item c = record { item = item; name = c.name; kind = c.kind }

-- the names of one more item
abbrev pub with_names : Scope → Source → Scope
with_names scope s =
    record {
      items = scope.items ++ (s.name ∷ []);
      columns = scope.columns ++ map (scope_column (length scope.items)) s.columns;
      keys = scope.keys;
    }

abbrev pub has_item : Scope → List ℕ → Bool
has_item scope name = is_some (item_named scope name)

-- ---- conditions

-- a condition is BOOL
abbrev pub check_bool : Typed → Result TypedExpr Refusal
check_bool x = if takes kind.Bool x.kind then Ok x.expr else Err TypeMismatch

-- at rows of the FROM, where no aggregate is allowed
unfoldable pub condition : Scope → List Parameter → Expr → Result TypedExpr Refusal
condition scope params e = and_then (typing scope params e Rows []) (λ p. check_bool p.0)

-- ---- joins

abbrev pub start_from : Source → FromItems
start_from s = record { scope = with_names no_names s; first = s.item; joins = [] }

abbrev pub join_of : Bool → Source → TypedExpr → Join BoundQuery
join_of is_left s on = record { is_left = is_left; item = s.item; width = length s.columns; on = on }

abbrev pub with_join : FromItems → Bool → Source → TypedExpr → FromItems
with_join f is_left s on =
    record { scope = with_names f.scope s; first = f.first; joins = f.joins ++ (join_of is_left s on ∷ []) }

-- one more item: its name is checked, and then its ON, which may use the items up to it
abbrev pub add_item : List Parameter → FromItems → Bool → Source → Expr → Result FromItems Refusal
add_item params f is_left s on =
    if has_item f.scope s.name then Err DuplicateAlias
    else and_then (condition (with_names f.scope s) params on) (λ e. Ok (with_join f is_left s e))
