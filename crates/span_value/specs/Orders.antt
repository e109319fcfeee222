-- The order of values.
use Rattle.std.specs.Prelude.{ℕ}
use Rattle.std.specs.declared.cmp.Ordering.{Ordering}
use Rattle.std.specs.Ordering.{nat_cmp, int_cmp, bool_cmp}
use Rattle.std.specs.Cmp.Lexicographic.{slice_cmp}
use Rattle.span_value.specs.declared.value.Value.{Value}
use Rattle.span_value.specs.declared.value.Value.TheVariants as value

-- the rank of the kind of a value among the kinds: NULL is first
abbrev pub kind_rank : Value → ℕ
kind_rank value.Null = 0
kind_rank (value.Bool b) = 1
kind_rank (value.Int n) = 2
kind_rank (value.Str text) = 3
kind_rank (value.Bytes bytes) = 4

-- FALSE before TRUE, numbers by size, strings and bytes by their bytes
abbrev pub value_order : Value → Value → Ordering
value_order (value.Bool a) (value.Bool b) = bool_cmp a b
value_order (value.Int a) (value.Int b) = int_cmp a b
value_order (value.Str a) (value.Str b) = slice_cmp nat_cmp a b
value_order (value.Bytes a) (value.Bytes b) = slice_cmp nat_cmp a b
value_order a b = nat_cmp (kind_rank a) (kind_rank b)
