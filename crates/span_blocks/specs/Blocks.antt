-- The typed block of a syntax tree, once its FROM is bound: faults are looked for in its select list, its WHERE, its
-- GROUP BY and its HAVING.
use Rattle.std.specs.Prelude.{ℕ, Bool, true, false, List, [], ◌∷◌, ◌++◌, map, Option, Some, None, Result, Ok, Err}
use Rattle.span_value.specs.declared.refusal.Refusal.{Refusal}
use Rattle.span_trees.specs.declared.tree.Column.{Column}
use Rattle.span_trees.specs.declared.tree.Expr.{Expr}
use Rattle.span_expr.specs.declared.expr.Expr.{Expr as TypedExpr}
use Rattle.span_parser.specs.declared.tree.Output.{Output}
use Rattle.span_parser.specs.declared.tree.Block.{Block}
use Rattle.span_parser.specs.declared.tree.Join.{Join}
use Rattle.span_parser.specs.declared.tree.Item.TheOpen.{Block-F}
use Rattle.span_parser.specs.declared.tree.Item.TheViews.{out-Block}
use Rattle.span_query.specs.declared.query.BoundQuery.{BoundQuery}
use Rattle.span_query.specs.declared.query.Item.{Item}
use Rattle.span_query.specs.declared.query.Join.{Join as BoundJoin}
use Rattle.span_query.specs.declared.query.Grouping.{Grouping}
use Rattle.span_query.specs.declared.query.Aggregate.{Aggregate}
use Rattle.span_params.specs.declared.params.Parameter.{Parameter}
use Rattle.span_typing.specs.declared.scope.Scope.{Scope}
use Rattle.span_operators.specs.declared.typed.Mode.{Mode}
use Rattle.span_operators.specs.declared.typed.Mode.TheVariants.{Groups}
use Rattle.span_typing.specs.Scopes.{column_place}
use Rattle.span_value.specs.Results.{and_then}
use Rattle.span_typing.specs.Typing.{Finds, typing}
use Rattle.span_query.specs.declared.query.OutputColumn.{OutputColumn}
use Rattle.span_blocks.specs.declared.bound.FromItems.{FromItems}
use Rattle.span_blocks.specs.declared.bound.SelectItem.{SelectItem}
use Rattle.span_blocks.specs.declared.bound.BoundBlock.{BoundBlock}
use Rattle.span_blocks.specs.declared.bound.Parts.{Parts}
use Rattle.span_blocks.specs.Sources.{check_bool, condition}
use Rattle.span_blocks.specs.Aggregating.{is_grouped, mode_of}
use Rattle.span_blocks.specs.Outputs.{select_list}

-- ---- GROUP BY

abbrev pub place_in : Result ℕ Refusal → List ℕ
place_in (Ok p) = p ∷ []
place_in (Err why) = []

-- the grouped columns; a name of no column, or of two, groups nothing
unfoldable pub group_places : Scope → List Column → List ℕ
group_places scope [] = []
group_places scope (c ∷ cs) = place_in (column_place scope c) ++ group_places scope cs

-- the first fault of a GROUP BY
unfoldable pub groups_named : Scope → List Column → Result (Unit {0}) Refusal
groups_named scope [] = Ok tt
groups_named scope (c ∷ cs) = and_then (column_place scope c) (λ p. groups_named scope cs)

abbrev pub with_keys : Scope → List ℕ → Scope
with_keys scope keys = record { items = scope.items; columns = scope.columns; keys = keys }

-- ---- WHERE and HAVING

unfoldable pub filter_of : Scope → List Parameter → Option Expr → Result (Option TypedExpr) Refusal
filter_of scope params None = Ok None
filter_of scope params (Some e) = and_then (condition scope params e) (λ x. Ok (Some x))

-- HAVING is at rows of the groups; its aggregates follow those of the select list
unfoldable pub having_of : Scope → List Parameter → Option Expr → Finds (Option TypedExpr)
having_of scope params None found = Ok (None, found)
having_of scope params (Some e) found =
    and_then (typing scope params e Groups found) (λ p. and_then (check_bool p.0) (λ x. Ok (Some x, p.1)))

-- ---- blocks

abbrev pub grouping_of : Bool → List ℕ → Option TypedExpr → List Aggregate → Option Grouping
grouping_of true keys having found = Some (record { keys = keys; aggregates = found; having = having })
grouping_of false keys having found = None

abbrev pub projected_exprs : List SelectItem → List TypedExpr
projected_exprs projection = map (λ (s : SelectItem). s.expr) projection

abbrev pub projected_columns : List SelectItem → List OutputColumn
projected_columns projection = map (λ (s : SelectItem). s.column) projection

-- the clauses of a block after its FROM
pub record BlockTail : Type 0 where
  pub is_grouped : Bool
  pub is_distinct : Bool
  pub outputs : List Output
  pub filter : Option Expr
  pub groups : List Column
  pub having : Option Expr

abbrev pub ons_of : List Join → List Expr
ons_of joins = map (λ (j : Join). j.on) joins

abbrev pub block_tail_of : {I B J Q : Type 0} → (J → Expr) → Block-F I B J Q → BlockTail
block_tail_of on b =
    record {
      is_grouped = is_grouped b.groups b.having b.filter b.outputs (map on b.joins);
      is_distinct = b.is_distinct;
      outputs = b.outputs;
      filter = b.filter;
      groups = b.groups;
      having = b.having;
    }

abbrev pub block_tail : Block → BlockTail
block_tail b = block_tail_of (λ (j : Join). j.on) (out-Block b)

-- the typed clauses after the FROM, in the order in which faults are looked for
unfoldable pub bind_parts : Scope → List Parameter → Mode → BlockTail → Result Parts Refusal
bind_parts scope params m b =
    and_then (select_list scope params m b.outputs) (λ projection.
    and_then (filter_of scope params b.filter) (λ filter.
    and_then (groups_named scope b.groups) (λ t.
    and_then (having_of scope params b.having projection.1) (λ having.
    Ok (record { projection = projection.0; filter = filter; having = having.0; aggregates = having.1 })))))

abbrev pub block_of : Item BoundQuery → List (BoundJoin BoundQuery) → Bool → Bool → List ℕ → Parts → BoundBlock
block_of first joins is_distinct is_grouped keys parts =
    record {
      block = record {
        from = first;
        joins = joins;
        filter = parts.filter;
        grouping = grouping_of is_grouped keys parts.having parts.aggregates;
        outputs = projected_exprs parts.projection;
        is_distinct = is_distinct;
      };
      columns = projected_columns parts.projection;
    }

unfoldable pub block_in : List Parameter → BlockTail → FromItems → List ℕ → Result BoundBlock Refusal
block_in params b f keys =
    and_then (bind_parts (with_keys f.scope keys) params (mode_of b.is_grouped) b)
    (λ parts. Ok (block_of f.first f.joins b.is_distinct b.is_grouped keys parts))

unfoldable pub bind_block : List Parameter → BlockTail → FromItems → Result BoundBlock Refusal
bind_block params b f = block_in params b f (group_places f.scope b.groups)
