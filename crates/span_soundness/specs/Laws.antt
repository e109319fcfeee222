-- The laws of types and of plans.
use Rattle.std.specs.Prelude.{◌≡◌, true, ◌||◌, ℕ, List, [], ◌++◌, map, Ok}
use Rattle.span_value.specs.declared.value.Kind.{Kind}
use Rattle.span_value.specs.declared.value.Kind.TheVariants as kind
use Rattle.span_value.specs.declared.value.Value.{Value}
use Rattle.span_value.specs.declared.truth.Outcome.TheVariants.{Val}
use Rattle.span_schema.specs.declared.table.Table.{Table}
use Rattle.span_schema.specs.Fitting.{is_of_kind}
use Rattle.span_trees.specs.declared.tree.Expr.{Expr as Tree}
use Rattle.span_parser.specs.declared.tree.Query.{Query}
use Rattle.span_expr.specs.declared.expr.Expr.{Expr}
use Rattle.span_expr.specs.declared.expr.Operator.{Operator}
use Rattle.span_expr.specs.declared.expr.Comparison.{Comparison}
use Rattle.span_pattern.specs.declared.pattern.PatternPart.{PatternPart}
use Rattle.span_expr.specs.Outcomes.{is_null, condition_of, outcome_of}
use Rattle.span_expr.specs.Operators.{apply_operator, arithmetic_negation, compare_values, has_prefix, length_of}
use Rattle.span_pattern.specs.Patterns.{like}
use Rattle.span_expr.specs.Meaning.{val}
use Rattle.span_query.specs.declared.query.Aggregate.{Aggregate}
use Rattle.span_query.specs.declared.query.BoundQuery.{BoundQuery}
use Rattle.span_query.specs.declared.query.BoundQuery.TheOpen.{BoundQuery-F}
use Rattle.span_query.specs.declared.query.BoundQuery.TheViews.{roll-BoundQuery}
use Rattle.span_query.specs.declared.query.Statement.{Statement}
use Rattle.span_query.specs.Rows.{Row}
use Rattle.span_query.specs.Meaning.{meaning}
use Rattle.span_params.specs.declared.params.Parameter.{Parameter}
use Rattle.span_params.specs.Parameters.{with_parameter}
use Rattle.span_typing.specs.declared.scope.Scope.{Scope}
use Rattle.span_operators.specs.declared.typed.Typed.{Typed}
use Rattle.span_operators.specs.declared.typed.Mode.{Mode}
use Rattle.span_typing.specs.Typing.{typing}
use Rattle.span_blocks.specs.declared.bound.TypedQuery.{TypedQuery}
use Rattle.span_binder.specs.Queries.{query_step, bound}
use Rattle.span_binder.specs.Understands.{Understands}
use Rattle.span_planner.specs.Plannable.{IsPlannable}
use Rattle.span_soundness.specs.Types.{IsOutcomeOf, IsNullOnlyIf, IsRowOf, is_text, is_operand, is_of}
use Rattle.span_soundness.specs.Bindings.{column_types, output_types, table_types, AreAggregatesOf, AreTyped, StaysTyped}
use Rattle.span_soundness.specs.WellTyped.{IsLayerOf, IsQueryOf}
use Rattle.span_soundness.specs.Results.{AreResultsOf, AreTablesOf}

-- ---- expressions

abbrev pub ExpressionsKeepTypes : Type 0
ExpressionsKeepTypes =
    (types : List Kind) (row : List Value) (e : Expr) (k : Kind) → IsRowOf types row → is_of types e k ≡ true
    → IsOutcomeOf k (val row e)

-- On operands of its types an operator answers NULL only where one of them is NULL: a well typed expression never comes
-- to an operand of a wrong type, for which NULL is answered too. A comparison is of any type, and so is IS NULL.
abbrev pub NullComesOfNull : Type 0
NullComesOfNull =
    ((op : Operator) (k : Kind) (v w : Value) → is_operand op k ≡ true → is_of_kind k v ≡ true → is_of_kind k w ≡ true
    → IsNullOnlyIf (is_null v || is_null w) (apply_operator op v w))
    × ((v : Value) → is_of_kind kind.Int v ≡ true → IsNullOnlyIf (is_null v) (arithmetic_negation v))
    × ((c : Comparison) (v w : Value) → IsNullOnlyIf (is_null v || is_null w) (compare_values c v w))
    × ((pattern : List PatternPart) (v : Value) → is_of_kind kind.Str v ≡ true
    → IsNullOnlyIf (is_null v) (like pattern v))
    × ((k : Kind) (v w : Value) → is_text k ≡ true → is_of_kind k v ≡ true → is_of_kind k w ≡ true
    → IsNullOnlyIf (is_null v || is_null w) (has_prefix v w))
    × ((k : Kind) (v : Value) → is_text k ≡ true → is_of_kind k v ≡ true → IsNullOnlyIf (is_null v) (length_of v))
    × ((v : Value) → is_of_kind kind.Bool v ≡ true → IsNullOnlyIf (is_null v) (outcome_of (condition_of (Val v))))

-- there are none at first
abbrev pub ParametersStayTyped : Type 0
ParametersStayTyped =
    (p : Parameter) (ps : List Parameter) → is_of_kind p.kind p.value ≡ true → AreTyped ps
    → AreTyped (with_parameter p ps)

-- the aggregates that are found follow those found before
abbrev pub TypesAreRight : Type 0
TypesAreRight =
    (scope : Scope) (params : List Parameter) (tree : Tree) (m : Mode) (found after : List Aggregate)
    (kinds : List Kind) (x : Typed)
    → AreTyped params → AreAggregatesOf (column_types scope) found kinds
    → typing scope params tree m found ≡ Ok (x, after)
    → (new : List Aggregate) × (more : List Kind) × (after ≡ found ++ new)
    × AreAggregatesOf (column_types scope) new more × StaysTyped scope m (kinds ++ more) x

-- ---- queries

-- a query is typed layer by layer
abbrev pub LayersAreTyped : Type 0
LayersAreTyped = (leaves : List (List Kind)) (layer : BoundQuery-F BoundQuery) (types : List Kind)
    → (IsQueryOf leaves (roll-BoundQuery layer) types → IsLayerOf (IsQueryOf leaves) leaves layer types)
    × (IsLayerOf (IsQueryOf leaves) leaves layer types → IsQueryOf leaves (roll-BoundQuery layer) types)

-- the types of the columns of the leaves, which are tables of the schema
abbrev pub types_of_leaves : List Table → List ℕ → List (List Kind)
types_of_leaves schema leaves = map (table_types schema) leaves

abbrev pub QueriesAreTyped : Type 0
QueriesAreTyped = (schema : List Table) (params : List Parameter) (q : Query) (answer : TypedQuery) (leaves : List ℕ)
    → AreTyped params → query_step schema params q [] ≡ Ok (answer, leaves)
    → IsQueryOf (types_of_leaves schema leaves) answer.query (output_types answer.columns)

abbrev pub StatementsAreTyped : Type 0
StatementsAreTyped = (schema : List Table) (params : List Parameter) (q : Query) (statement : Statement)
    → AreTyped params → bound schema params q ≡ Ok statement
    → IsQueryOf (types_of_leaves schema statement.leaves) statement.query (output_types statement.columns)

abbrev pub QueriesKeepTypes : Type 0
QueriesKeepTypes =
    (leaves : List (List Kind)) (tables : List (List Row)) (q : BoundQuery) (types : List Kind)
    → AreTablesOf leaves tables → IsQueryOf leaves q types → AreResultsOf types (meaning tables q)

abbrev pub ResultsAreTyped : Type 0
ResultsAreTyped =
    (schema : List Table) (params : List Parameter) (q : Query) (answer : TypedQuery) (leaves : List ℕ)
    (tables : List (List Row))
    → AreTyped params → query_step schema params q [] ≡ Ok (answer, leaves)
    → AreTablesOf (types_of_leaves schema leaves) tables
    → AreResultsOf (output_types answer.columns) (meaning tables answer.query)

-- ---- plans

-- Whatever values the parameters have, of their types or not, the statement that a query text is understood as can be
-- planned.
abbrev pub StatementsCanBePlanned : Type 0
StatementsCanBePlanned =
    (schema : List Table) (text : List ℕ) (params : List Parameter) (statement : Statement)
    → Understands schema text params (Ok statement) → IsPlannable schema statement
