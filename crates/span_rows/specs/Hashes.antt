-- What a row is to a hasher, so that rows that are equal have one hash.
use Rattle.std.specs.Prelude.{[], ◌∷◌, flat_map}
use Rattle.std.specs.Hash as fed
use Rattle.std.specs.Hash.{HashWrites}
use Rattle.span_value.specs.declared.value.Value.{Value}
use Rattle.span_value.specs.declared.value.Value.TheVariants as value
use Rattle.span_query.specs.Rows.{Row}

-- the writes of one value
abbrev pub value_writes : Value → HashWrites
value_writes value.Null = fed.u8 0
value_writes (value.Int n) = fed.i64 n
value_writes (value.Str text) = fed.str text
value_writes (value.Bytes bytes) = bytes ∷ []
value_writes (value.Bool b) = fed.bool b

-- those of its values, one after another
abbrev pub row_writes : Row → HashWrites
row_writes row = flat_map value_writes row
