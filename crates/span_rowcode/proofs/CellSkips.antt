-- Skipping the codings of cells.
use Rattle.std.proofs.Common.{◌≡◌, ℕ, ◌<◌, ◌^◌, List, ◌++◌, sym, ◌∙◌, ap, arith, length, drop}
use Rattle.span_value.specs.declared.value.Value.{Value}
use Rattle.span_value.specs.declared.value.Kind.{Kind}
use Rattle.span_schema.specs.Fitting.{Fits}
use Rattle.span_rowcode.specs.Rows.{cell_code, IsCell}
use Rattle.span_rowcode.proofs.RowReads.{one_cell}

-- the cell at the front of bytes is one
pub cell_once : (k : Kind) (bs : List ℕ) (v w : Value) (n : ℕ) (more : List ℕ) → length bs < 2 ^ 32 → IsCell k bs v n → Fits k w → bs ≡ cell_code w ++ more → (w ≡ v) × (more ≡ drop n bs)
cell_once k bs v w n more small c f e =
    let short : length (cell_code w ++ more) < 2 ^ 32 = omega (arith, small, ap (length {A = ℕ}) e) in
    one_cell k w v more (drop n bs) f c.fits short (sym e ∙ c.code)
