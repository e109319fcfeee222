-- Where the cells of a packed row end.
use Rattle.std.specs.Prelude.{◌≡◌, ℕ, List, ◌++◌, drop}
use Rattle.span_value.specs.declared.value.Value.{Value}
use Rattle.span_value.specs.declared.value.Kind.{Kind}
use Rattle.span_schema.specs.Fitting.{Fits}
use Rattle.span_rowcode.specs.Rows.{cell_code}

-- whatever cell of the kind is coded at a place, its code ends there
pub record IsCellEnd (k : Kind) (bytes : List ℕ) (at n : ℕ) : Type 0 where
  pub past : (v : Value) (more : List ℕ) → Fits k v → drop at bytes ≡ cell_code v ++ more → more ≡ drop n bytes
