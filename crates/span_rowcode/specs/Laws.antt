-- The law of packed rows.
use Rattle.std.specs.Prelude.{◌≡◌, List}
use Rattle.span_value.specs.declared.value.Value.{Value}
use Rattle.span_value.specs.declared.value.Kind.{Kind}
use Rattle.span_rowcode.specs.Rows.{IsRow, row_code}

-- rows of the same kinds with equal packed bytes are the same
abbrev pub OneRow : Type 0
OneRow = (ks : List Kind) (vs ws : List Value) → IsRow ks vs → IsRow ks ws → row_code vs ≡ row_code ws → vs ≡ ws
