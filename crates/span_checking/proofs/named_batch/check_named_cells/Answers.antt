use Rattle.std.proofs.Common.{◌≡◌, ◌∙◌, ℕ, List, None, Some, ap, subst}
use Rattle.std.specs.Prelude.{Option, MatchResult}
use Rattle.span_value.specs.declared.value.Value.{Value}
use Rattle.span_value.specs.declared.refusal.Refusal.{Refusal}
use Rattle.span_schema.specs.declared.table.Column.{Column}
use Rattle.span_checking.specs.InOrder.{row_cause}
use Rattle.span_checking.proofs.NamedRows.{named_cause}
use Rattle.span_checking.proofs.named_batch.check_named_cells.Goals as goal

pub returns : goal.returns
returns c =
    let t = c.args.table.now in
    let columns = c.args.columns.now in
    let same =
    ap (λ (l : List Column). row_cause l c.as_slice-2.result.now c.as_slice-3.result.now) c.as_slice.ensures
    ∙ ap (λ (places : List ℕ). row_cause t.columns places c.as_slice-3.result.now) c.as_slice-2.ensures.value
    ∙ ap (λ (cells : List (Option Value)). row_cause t.columns columns.places.items cells) c.as_slice-3.ensures
    ∙ named_cause c.args.schema.now columns t c.requires.table c.args.heading.now c.requires.named c.args.row.now in
    subst (λ (o : Option Refusal). MatchResult c.check_cells.result (λ _. o ≡ None) (λ why. o ≡ Some why)) same c.check_cells.ensures
