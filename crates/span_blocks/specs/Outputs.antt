-- The output of a block: the typed expressions of its select list, and their columns.
use Rattle.std.specs.List.{range_with_len}
use Rattle.std.specs.Prelude.{ℕ, ◌+◌, ◌==◌, List, [], ◌∷◌, ◌++◌, length, slice_get, Option, Some, None, Result, Ok, Err, if◌then◌else◌}
use Rattle.span_value.specs.declared.refusal.Refusal.{Refusal}
use Rattle.span_value.specs.declared.refusal.Refusal.TheVariants.{NoColumn}
use Rattle.span_trees.specs.declared.tree.Spelling.{Spelling}
use Rattle.span_trees.specs.declared.tree.Expr.{Expr}
use Rattle.span_trees.specs.declared.tree.Expr.TheVariants as tree
use Rattle.span_parser.specs.declared.tree.Output.{Output}
use Rattle.span_parser.specs.declared.tree.Output.TheVariants as output
use Rattle.span_params.specs.declared.params.Parameter.{Parameter}
use Rattle.span_query.specs.declared.query.Aggregate.{Aggregate}
use Rattle.span_typing.specs.declared.scope.Scope.{Scope}
use Rattle.span_typing.specs.declared.scope.ScopeColumn.{ScopeColumn}
use Rattle.span_operators.specs.declared.typed.Typed.{Typed}
use Rattle.span_operators.specs.declared.typed.Mode.{Mode}
use Rattle.span_operators.specs.Kinds.{or_int}
use Rattle.span_typing.specs.Scopes.{item_named}
use Rattle.span_value.specs.Results.{and_then}
use Rattle.span_operators.specs.Steps.{pure, from_result, ◌>>=◌}
use Rattle.span_typing.specs.Typing.{Finds, typing, column_at}
use Rattle.span_blocks.specs.declared.bound.SelectItem.{SelectItem}
use Rattle.span_blocks.specs.Onward.{fold_results, each_of}

-- an expression, and its column; a NULL literal is INT64
abbrev pub projection : Option (List ℕ) → Typed → SelectItem
projection name x = record { expr = x.expr; column = record { name = name; kind = or_int x.kind } }

-- ---- stars

abbrev pub or_nameless : Option ScopeColumn → Option (List ℕ)
or_nameless None = None
or_nameless (Some c) = c.name

-- the column at a place of the FROM
abbrev pub projected_column : Scope → Mode → ℕ → Result SelectItem Refusal
projected_column scope m place =
    and_then (column_at scope m place) (λ x. Ok (projection (or_nameless (slice_get scope.columns place)) x))

unfoldable pub projected_columns : Scope → Mode → List ℕ → Result (List SelectItem) Refusal
projected_columns scope m places = each_of (projected_column scope m) places

abbrev pub all_places : Scope → List ℕ
all_places scope = range_with_len 0 (length scope.columns)

-- the places of the columns of an item, of columns that begin at a place
abbrev pub places_of : ℕ → ℕ → List ScopeColumn → List ℕ
places_of item place [] = []
places_of item place (c ∷ cs) =
    if c.item == item then place ∷ places_of item (place + 1) cs else places_of item (place + 1) cs

abbrev pub item_places : Scope → Option ℕ → Result (List ℕ) Refusal
item_places scope None = Err NoColumn
item_places scope (Some item) = Ok (places_of item 0 scope.columns)

-- ---- the select list

-- an alias, or else the name of a bare column
abbrev pub output_name : Expr → Option Spelling → Option (List ℕ)
output_name e (Some alias) = Some alias.text
output_name (tree.Column c) None = Some c.name.text
output_name e None = None

unfoldable pub project_all : Scope → Mode → Result (List SelectItem) Refusal
project_all scope m = projected_columns scope m (all_places scope)

unfoldable pub project_item : Scope → Mode → List ℕ → Result (List SelectItem) Refusal
project_item scope m name = and_then (item_places scope (item_named scope name)) (projected_columns scope m)

unfoldable pub project_value : Scope → List Parameter → Mode → Expr → Option Spelling → Finds (List SelectItem)
project_value scope params m e alias = typing scope params e m >>= (λ x. pure (projection (output_name e alias) x ∷ []))

abbrev pub project_output : Scope → List Parameter → Mode → Output → Finds (List SelectItem)
project_output scope params m output.All = from_result (project_all scope m)
project_output scope params m (output.AllOf item) = from_result (project_item scope m item.text)
project_output scope params m (output.Value e alias) = project_value scope params m e alias

-- the output of one more item of a select list, after the output and the aggregates found before
abbrev pub project_next : Scope → List Parameter → Mode → List SelectItem × List Aggregate → Output
    → Result (List SelectItem × List Aggregate) Refusal
project_next scope params m so_far o =
    and_then (project_output scope params m o so_far.1) (λ p. Ok (so_far.0 ++ p.0, p.1))

unfoldable pub select_list : Scope → List Parameter → Mode → List Output
    → Result (List SelectItem × List Aggregate) Refusal
select_list scope params m outputs = fold_results (project_next scope params m) outputs ([], [])
