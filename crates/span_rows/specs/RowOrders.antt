-- The order of rows.
use Rattle.std.specs.declared.cmp.Ordering.{Ordering}
use Rattle.std.specs.Cmp.Lexicographic.{slice_cmp}
use Rattle.span_value.specs.Orders.{value_order}
use Rattle.span_query.specs.Rows.{Row}

-- by the first value at which they differ
abbrev pub values_order : Row → Row → Ordering
values_order = slice_cmp value_order
