-- The value at the front of a column's bytes is one.
use Rattle.std.proofs.Common.{◌≡◌, ℕ, List, ◌++◌, sym, ◌∙◌, drop}
use Rattle.std.proofs.lemmas.Map.Lookups.{exact_bytes}
use Rattle.span_value.specs.declared.value.Value.{Value}
use Rattle.span_schema.specs.declared.layout.KeyPart.{KeyPart}
use Rattle.span_keycode.specs.Coding.{Fits, column_code, column_cmp}
use Rattle.span_keycode.specs.Reads.{IsColumn}
use Rattle.span_keycode.proofs.Order.{no_front}
use Rattle.span_keycode.proofs.Codes.{decides-column}
use Rattle.span_keycode.proofs.Exact.{exact_column}

pub column_once : (c : KeyPart) (bs : List ℕ) (v w : Value) (n : ℕ) (more : List ℕ) → IsColumn c bs v n → Fits c.kind w → bs ≡ column_code c w ++ more → (w ≡ v) × (more ≡ drop n bs)
column_once c bs v w n more read f e =
    let both = no_front (column_code c w) (column_code c v) more (drop n bs) (column_cmp c w v) (decides-column c w v f read.fits) (sym e ∙ read.code) in
    (exact_column c w v f read.fits both.0, exact_bytes more (drop n bs) both.1)
