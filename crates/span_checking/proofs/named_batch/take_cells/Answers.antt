use Rattle.std.proofs.Common.{◌≡◌, ◌∙◌, ◌+◌, ◌++◌, ◌∷◌, [], ℕ, List, Option, None, ap, drop, get_or, map, append_assoc}
use Rattle.span_value.specs.declared.value.Value.{Value}
use Rattle.span_checking.specs.NamedBatches.{value_at}
use Rattle.span_checking.proofs.NamedRows.{take_next}
use Rattle.span_checking.proofs.named_batch.take_cells.Goals as goal

pub loop-name-preserved : goal.loop-name-preserved
loop-name-preserved c =
    let left = c.loop-name.left.items in
    let values = c.loop-name.values.items in
    let at = c.loop-name.name-index in
    let name : Option ℕ = get_or c.args.names.now at None in
    let taken : c.take_cell.result ≡ value_at left name = c.take_cell.ensures.value in
    let grown : c.push.new.self.items ≡ values ++ c.take_cell.result ∷ [] = c.in_ok-push.ensures.items in
    let more = take_next left c.take_cell.new.cells.items c.args.names.now at c.loop-name-test.true c.loop-name.invariant.apart c.take_cell.ensures.rest in
    record {
      so_far = rw (grown, taken)
          (append_assoc values (value_at left name ∷ []) (map (value_at c.take_cell.new.cells.items) (drop (at + 1) c.args.names.now))
          ∙ ap (λ (l : List (Option Value)). values ++ l) more.0 ∙ c.loop-name.invariant.so_far);
      apart = more.1;
    }
