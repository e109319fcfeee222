use Rattle.std.proofs.Common.{◌≡◌, ◌∙◌, ◌+◌, ◌++◌, ◌∷◌, [], ℕ, List, Option, true, false, sym, ap, drop, append_assoc}
use Rattle.span_value.specs.declared.value.Value.{Value}
use Rattle.span_schema.specs.Tables.{is_same_name, is_key_name}
use Rattle.span_checking.specs.Columns.{value_named, values_named}
use Rattle.span_checking.proofs.Taking.{take_more, skip_more, once_more}
use Rattle.span_checking.proofs.column.values_named.Goals.{then-not-is_in_key+in_ok-push, else-not-is_in_key}
use Rattle.span_checking.proofs.column.values_named.Goals as goal

pub loop-column-preserved : goal.loop-column-preserved
loop-column-preserved c =
    let key = c.args.key.now in
    let columns = c.args.columns.now in
    let i = c.loop-column.column-index in
    let column = c.column-item.result in
    let left = c.loop-column.left.items in
    let values = c.loop-column.values.items in
    let after = once_more columns i column c.loop-column-test.true c.column-item.is c.loop-column.invariant.once in
    elim c.if-not-is_in_key.branch [
      | then-not-is_in_key+in_ok-push w ↦
          let said : is_key_name key c.as_str.result.now ≡ false = sym c.is_in_key.ensures ∙ w.if-not-is_in_key.true in
          let outside : is_key_name key column.name ≡ false = rw c.as_str.ensures at said in
          let taken : w.take_value.result ≡ value_named left column.name = rw w.as_str-then-not-is_in_key.ensures at w.take_value.ensures.value in
          let same : (other : List ℕ) → is_same_name other column.name ≡ false → value_named w.take_value.new.cells.items other ≡ value_named left other = rw w.as_str-then-not-is_in_key.ensures at w.take_value.ensures.rest in
          let more = take_more key left w.take_value.new.cells.items columns i column c.loop-column-test.true c.column-item.is c.loop-column.invariant.once outside same in
          let grown : w.push.new.self.items ≡ values ++ w.take_value.result ∷ [] = w.in_ok-push.ensures.items in
          record {
            so_far = rw (w.values-is, w.left-is, grown, taken)
                (append_assoc values (value_named left column.name ∷ []) (values_named key w.take_value.new.cells.items (drop (i + 1) columns))
                ∙ ap (λ (l : List (Option Value)). values ++ l) more ∙ c.loop-column.invariant.so_far);
            once = after;
          }
      | else-not-is_in_key w ↦
          let said : is_key_name key c.as_str.result.now ≡ true = sym c.is_in_key.ensures ∙ w.if-not-is_in_key.false in
          let inside : is_key_name key column.name ≡ true = rw c.as_str.ensures at said in
          let more = skip_more key left columns i column c.loop-column-test.true c.column-item.is inside in
          record {
            so_far = rw (w.values-is, w.left-is) (ap (λ (l : List (Option Value)). values ++ l) more ∙ c.loop-column.invariant.so_far);
            once = after;
          }
    ]
