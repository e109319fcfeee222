-- Which blocks are grouped: those with GROUP BY, with HAVING, or where an aggregate is called.
use Rattle.std.specs.List.{list_any}
use Rattle.std.specs.Option.{is_some}
use Rattle.std.specs.Prelude.{Bool, true, false, ◌||◌, List, [], ◌∷◌, Option, Some, None}
use Rattle.span_trees.specs.declared.tree.Spelling.{Spelling}
use Rattle.span_trees.specs.declared.tree.Column.{Column}
use Rattle.span_trees.specs.declared.tree.Expr.{Expr}
use Rattle.span_trees.specs.declared.tree.Arm.{Arm}
use Rattle.span_trees.specs.declared.tree.Link.{Link}
use Rattle.span_trees.specs.declared.tree.Expr.TheOpen.{Expr-F, Arm-F, Link-F}
use Rattle.span_trees.specs.declared.tree.Expr.TheFolds.{fold-Expr}
use Rattle.span_parser.specs.declared.tree.Output.{Output}
use Rattle.span_parser.specs.declared.tree.Output.TheVariants as output
use Rattle.span_operators.specs.declared.function.CalledFunction.{CalledFunction}
use Rattle.span_operators.specs.declared.function.CalledFunction.TheVariants as called
use Rattle.span_operators.specs.declared.typed.Mode.{Mode}
use Rattle.span_operators.specs.declared.typed.Mode.TheVariants.{Rows, Groups}
use Rattle.span_operators.specs.Functions.{function_named}

abbrev pub is_aggregate : Option CalledFunction → Bool
is_aggregate (Some (called.Aggregate f)) = true
is_aggregate f = false

-- a name of an aggregate
abbrev pub names_aggregate : Spelling → Bool
names_aggregate name = is_aggregate (function_named name.text)

abbrev pub or_false : Option Bool → Bool
or_false None = false
or_false (Some b) = b

abbrev pub some_true : List Bool → Bool
some_true bs = list_any (λ b. b) bs

abbrev pub arm_calls : Arm-F Bool Bool Bool → Bool
arm_calls a = a.condition || a.value

abbrev pub link_calls : Link-F Bool Bool Bool → Bool
link_calls l = l.operand

-- One layer of a tree, where each operand is replaced by whether it calls an aggregate.
abbrev pub calls_at : Expr-F Bool Bool Bool → Bool
calls_at (Expr-F.Integer n) = false
calls_at (Expr-F.Str s) = false
calls_at (Expr-F.Bytes s) = false
calls_at (Expr-F.Truth b place) = false
calls_at (Expr-F.Null place) = false
calls_at (Expr-F.Parameter p) = false
calls_at (Expr-F.Column c) = false
calls_at (Expr-F.CallStar name) = names_aggregate name
calls_at (Expr-F.Call name as') = names_aggregate name || some_true as'
calls_at (Expr-F.Case a arms other) = or_false a || some_true arms || or_false other
calls_at (Expr-F.Negative a) = a
calls_at (Expr-F.Chain a links) = a || some_true links
calls_at (Expr-F.Compare a c b) = a || b
calls_at (Expr-F.IsNull a) = a
calls_at (Expr-F.Like a pattern) = a
calls_at (Expr-F.Between a low high) = a || low || high
calls_at (Expr-F.In a members) = a || some_true members
calls_at (Expr-F.Not a) = a
calls_at (Expr-F.And a more) = a || some_true more
calls_at (Expr-F.Or a more) = a || some_true more

-- an aggregate is called somewhere in the tree
abbrev pub calls_aggregate : Expr → Bool
calls_aggregate = fold-Expr Bool Bool Bool calls_at arm_calls link_calls

abbrev pub arm_aggregates : Arm → Bool
arm_aggregates a = calls_aggregate a.condition || calls_aggregate a.value

abbrev pub link_aggregates : Link → Bool
link_aggregates l = calls_aggregate l.operand

abbrev pub maybe_calls : Option Expr → Bool
maybe_calls None = false
maybe_calls (Some e) = calls_aggregate e

abbrev pub output_calls : Output → Bool
output_calls output.All = false
output_calls (output.AllOf item) = false
output_calls (output.Value e alias) = calls_aggregate e

abbrev pub has_some : {A : Type 0} → List A → Bool
has_some [] = false
has_some (x ∷ xs) = true

-- by its GROUP BY, its HAVING, its WHERE, its select list and its ONs
abbrev pub is_grouped : List Column → Option Expr → Option Expr → List Output → List Expr → Bool
is_grouped groups having filter outputs ons =
    has_some groups || is_some having || maybe_calls filter || list_any output_calls outputs
    || list_any calls_aggregate ons

-- of what rows the select list speaks
abbrev pub mode_of : Bool → Mode
mode_of true = Groups
mode_of false = Rows
