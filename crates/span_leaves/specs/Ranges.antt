-- The range of coded keys of a leaf: the family of its tables, narrowed by comparisons of the first root key column with literals.
use Rattle.std.specs.Prelude.{ℕ, ◌+◌, ◌==◌, nat_lt, Bool, true, false, ◌&&◌, List, [], ◌∷◌, ◌++◌, Option, Some, None, filter, flat_map, if◌then◌else◌}
use Rattle.std.specs.List.{fold, list_all}
use Rattle.std.specs.Str.{is_utf8}
use Rattle.std.specs.Option.{option_map}
use Rattle.span_value.specs.declared.value.Kind.{Kind}
use Rattle.span_value.specs.declared.value.Kind.TheVariants as kind
use Rattle.span_value.specs.declared.value.Value.{Value}
use Rattle.span_value.specs.declared.value.Value.TheVariants as value
use Rattle.span_value.specs.Numbers.{is_int64}
use Rattle.span_schema.specs.declared.table.Table.{Table}
use Rattle.span_schema.specs.declared.layout.KeyPart.{KeyPart}
use Rattle.span_schema.specs.Numbers.{root_of, key_columns, key_places}
use Rattle.span_keycode.specs.declared.range.KeyRange.{KeyRange}
use Rattle.span_keycode.specs.declared.range.RangeComparison.{RangeComparison}
use Rattle.span_keycode.specs.declared.range.RangeComparison.TheVariants as range
use Rattle.span_keycode.specs.Ranges.{range_start, range_end}
use Rattle.span_keycode.specs.Parts.{family, part_between}
use Rattle.span_expr.specs.declared.expr.Comparison.{Comparison}
use Rattle.span_expr.specs.declared.expr.Comparison.TheVariants as comparison
use Rattle.span_expr.specs.declared.expr.Expr.{Expr}
use Rattle.span_expr.specs.declared.expr.Expr.TheOpen.{Expr-F}
use Rattle.span_expr.specs.declared.expr.Expr.TheViews.{out-Expr}
use Rattle.span_expr.specs.Forms.{as_column, as_literal}

-- how a column is compared with a value
abbrev pub KeyBound : Type 0
KeyBound = RangeComparison × Value

-- a comparison that bounds its left side; `<>` does not
abbrev pub bound_of : Comparison → Option RangeComparison
bound_of comparison.Equal = Some range.Equal
bound_of comparison.NotEqual = None
bound_of comparison.Less = Some range.Less
bound_of comparison.AtMost = Some range.AtMost
bound_of comparison.Greater = Some range.Greater
bound_of comparison.AtLeast = Some range.AtLeast

-- the same comparison with its sides exchanged
abbrev pub exchanged : RangeComparison → RangeComparison
exchanged range.Equal = range.Equal
exchanged range.Less = range.Greater
exchanged range.AtMost = range.AtLeast
exchanged range.Greater = range.Less
exchanged range.AtLeast = range.AtMost

-- the bound of the column at a place, where it is compared so with a literal
abbrev pub bound_at : ℕ → Option ℕ → Option RangeComparison → Option Value → List KeyBound
bound_at place (Some p) (Some c) (Some v) = if p == place then (c, v) ∷ [] else []
bound_at place column c literal = []

-- those of a BETWEEN
abbrev pub bounds_between : ℕ → Option ℕ → Option Value → Option Value → List KeyBound
bounds_between place (Some p) (Some low) (Some high) =
    if p == place then (range.AtLeast, low) ∷ (range.AtMost, high) ∷ [] else []
bounds_between place column low high = []

-- those of a comparison of two operands
abbrev pub bounds_compared : ℕ → Expr → Comparison → Expr → List KeyBound
bounds_compared place a c b =
    bound_at place (as_column a) (bound_of c) (as_literal b)
    ++ bound_at place (as_column b) (option_map exchanged (bound_of c)) (as_literal a)

-- the bounds that a condition sets to the column at a place
abbrev pub bounds_at : ℕ → Expr-F Expr → List KeyBound
bounds_at place (Expr-F.Compare a c b) = bounds_compared place a c b
bounds_at place (Expr-F.Between a low high) = bounds_between place (as_column a) (as_literal low) (as_literal high)
bounds_at place y = []

abbrev pub bounds : ℕ → Expr → List KeyBound
bounds place e = bounds_at place (out-Expr e)

-- ---- values of a type

abbrev pub are_bytes : List ℕ → Bool
are_bytes bs = list_all (λ b. nat_lt b 256) bs

-- NULL, or a value of the type
abbrev pub is_of_type : Kind → Value → Bool
is_of_type k value.Null = true
is_of_type kind.Int (value.Int i) = is_int64 i
is_of_type kind.Str (value.Str bs) = is_utf8 bs && are_bytes bs
is_of_type kind.Bytes (value.Bytes bs) = are_bytes bs
is_of_type kind.Bool (value.Bool b) = true
is_of_type k v = false

-- ---- ranges

-- the bounds that conditions set to the column at a place, by values of its type
abbrev pub bounds_by : Kind → ℕ → List Expr → List KeyBound
bounds_by k place es = filter (λ (b : KeyBound). is_of_type k b.1) (flat_map (bounds place) es)

-- the part of a range where the first column of the key is bounded so
abbrev pub bounded : ℕ → KeyPart → KeyRange → KeyBound → KeyRange
bounded root part r b = part_between (Some (range_start root part b.0 b.1)) (Some (range_end root part b.0 b.1)) r

-- a family's range, narrowed by bounds of the first column of the key
abbrev pub range_by : ℕ → KeyPart → List KeyBound → KeyRange
range_by root part bs = fold (bounded root part) (family root) bs

-- a family's range, narrowed by conditions on the first column of the key, whose place is counted from at
abbrev pub narrowed : ℕ → List KeyPart → List ℕ → ℕ → List Expr → KeyRange
narrowed root (part ∷ parts) (place ∷ places) at es = range_by root part (bounds_by part.kind (at + place) es)
narrowed root parts places at es = family root

-- The range of a leaf: that of the family, narrowed by conditions on the first key column of its first table, whose columns begin at a place.
abbrev pub leaf_range : List Table → ℕ → ℕ → List Expr → KeyRange
leaf_range schema table at es =
    narrowed (root_of schema table) (key_columns schema table) (key_places schema table) at es

-- a range, narrowed by those bounds that have values of the column's type
abbrev pub narrowed_by : ℕ → KeyPart → KeyRange → List KeyBound → KeyRange
narrowed_by root part r bs = fold (bounded root part) r (filter (λ (b : KeyBound). is_of_type part.kind b.1) bs)
