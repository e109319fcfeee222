use Rattle.std.proofs.Common.{◌≡◌, true, false, not, List, Ok, is_some, sym, ap, ◌∙◌}
use Rattle.std.specs.List.{filter}
use Rattle.span_value.specs.declared.value.Value.{Value}
use Rattle.span_mutate.specs.declared.row.TableRow.{TableRow}
use Rattle.span_mutate.specs.Rows.{row_at}
use Rattle.span_mutate.specs.Database.{is_under, is_delete_blocked}
use Rattle.span_mutate.proofs.Deletes.{deletes}
use Rattle.span_mutate.proofs.root.delete.Goals as goal

pub returns : goal.returns
returns c =
    let tables = c.args.schema.now in
    let db = c.args.rows.items in
    let m = c.args.mutation.now in
    let key = c.as_slice-key.result.now in
    let there : is_some (row_at m.table m.key db) ≡ true =
    ap (λ (k : List Value). is_some (row_at m.table k db)) (sym c.as_slice-key.ensures)
    ∙ ap (λ (d : List TableRow). is_some (row_at m.table key d)) (sym c.as_slice.ensures.value) ∙ sym c.has_row.ensures ∙ c.if-not-has_row.false in
    let free : is_delete_blocked tables m.table m.key db ≡ false =
    ap (λ (k : List Value). is_delete_blocked tables m.table k db) (sym c.as_slice-key.ensures)
    ∙ ap (λ (d : List TableRow). is_delete_blocked tables m.table key d) (sym c.as_slice-2.ensures.value) ∙ sym c.in_ok-held.ensures ∙ c.if-held.false in
    deletes tables db m c.requires there free
    ∙ ap (λ (k : List Value). Ok (filter (λ (q : TableRow). not (is_under tables m.table k q)) db)) (sym c.as_slice-key.ensures)
    ∙ ap Ok (sym c.in_ok-rest.ensures)
