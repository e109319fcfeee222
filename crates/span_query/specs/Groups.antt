-- Rows that are equal, groups by first appearance, and the row of a group with its aggregates.
use Rattle.std.specs.Prelude.{ℕ, ℤ, pos, ◌+ℤ◌, Bool, true, false, not, ◌&&◌, List, [], ◌∷◌, ◌++◌, length, map, filter, Option, Some, None, if◌then◌else◌}
use Rattle.std.specs.List.{fold}
use Rattle.std.specs.Ordering.{is_lt, is_gt, is_eq}
use Rattle.span_value.specs.declared.value.Value.{Value}
use Rattle.span_value.specs.declared.value.Value.TheVariants as value
use Rattle.span_value.specs.declared.truth.Outcome.{Outcome}
use Rattle.span_value.specs.declared.truth.Outcome.TheVariants.{Val}
use Rattle.span_value.specs.Orders.{value_order}
use Rattle.span_expr.specs.declared.expr.Expr.{Expr}
use Rattle.span_expr.specs.Meaning.{val}
use Rattle.span_expr.specs.Outcomes.{is_null}
use Rattle.span_expr.specs.Operators.{number, column_of}
use Rattle.span_query.specs.declared.query.Aggregate.{Aggregate}
use Rattle.span_query.specs.declared.query.Aggregate.TheVariants.{CountRows, Of}
use Rattle.span_query.specs.declared.query.Function.{Function}
use Rattle.span_query.specs.declared.query.Function.TheVariants.{Count, Sum, Min, Max}
use Rattle.span_query.specs.declared.query.Grouping.{Grouping}
use Rattle.span_query.specs.Rows.{Row, OrFault, Rows, ◌>>=◌, value_of, each, filter_where}

-- ---- rows that are equal

-- NULL equals NULL
abbrev pub is_equal : Value → Value → Bool
is_equal v w = is_eq (value_order v w)

abbrev pub are_equal : Row → Row → Bool
are_equal [] [] = true
are_equal (v ∷ vs) (w ∷ ws) = is_equal v w && are_equal vs ws
are_equal vs ws = false

-- each once, at its first place
abbrev pub distinct : List Row → List Row
distinct [] = []
distinct (x ∷ xs) = x ∷ filter (λ (y : Row). not (are_equal x y)) (distinct xs)

-- ---- groups

-- the values of the columns at some places
abbrev pub columns_at : List ℕ → Row → Row
columns_at places row = map (column_of row) places

-- the keys of the groups, by first appearance; without key columns there is one group, also over no rows
abbrev pub group_keys : List ℕ → List Row → List Row
group_keys [] rows = [] ∷ []
group_keys (p ∷ ps) rows = distinct (map (columns_at (p ∷ ps)) rows)

-- the rows of one group
abbrev pub rows_with : List ℕ → Row → List Row → List Row
rows_with places key rows = filter (λ (row : Row). are_equal key (columns_at places row)) rows

-- ---- aggregates

-- the values of an operand at the rows
abbrev pub operands : Expr → List Row → OrFault (List Value)
operands e rows = each (λ row. value_of (val row e)) rows

abbrev pub without_nulls : List Value → List Value
without_nulls vs = filter (λ (v : Value). not (is_null v)) vs

abbrev pub int_of : Value → ℤ
int_of (value.Int n) = n
int_of v = pos 0

-- the exact total
abbrev pub total : List Value → ℤ
total [] = pos 0
total (v ∷ vs) = int_of v +ℤ total vs

abbrev pub lesser : Value → Value → Value
lesser v w = if is_lt (value_order w v) then w else v

abbrev pub greater : Value → Value → Value
greater v w = if is_gt (value_order w v) then w else v

-- of the values that are not NULL: COUNT and SUM are the fault where the exact number is outside INT64
abbrev pub of_values : Function → List Value → Outcome
of_values Count vs = number (pos (length vs))
of_values f [] = Val value.Null
of_values Sum (v ∷ vs) = number (total (v ∷ vs))
of_values Min (v ∷ vs) = Val (fold lesser v vs)
of_values Max (v ∷ vs) = Val (fold greater v vs)

-- of the rows of a group
abbrev pub aggregate : List Row → Aggregate → OrFault Value
aggregate rows CountRows = value_of (number (pos (length rows)))
aggregate rows (Of f e) = operands e rows >>= (λ vs. value_of (of_values f (without_nulls vs)))

-- the key of a group, and then its aggregates
abbrev pub group_row : Grouping → List Row → Row → OrFault Row
group_row g rows key = each (aggregate (rows_with g.keys key rows)) g.aggregates >>= (λ vs. Some (key ++ vs))

-- a row for each group
abbrev pub groups : Grouping → List Row → Rows
groups g rows = each (group_row g rows) (group_keys g.keys rows)

-- the rows of the groups where HAVING is TRUE; every aggregate is computed of every group before
abbrev pub group_rows : Option Grouping → List Row → Rows
group_rows None rows = Some rows
group_rows (Some g) rows = groups g rows >>= filter_where g.having
