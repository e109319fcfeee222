use Rattle.std.proofs.Common.{◌∙◌, ℕ, List, ap}
use Rattle.std.specs.Prelude.{Option}
use Rattle.span_value.specs.declared.value.Value.{Value}
use Rattle.span_schema.specs.declared.table.Column.{Column}
use Rattle.span_schema.specs.Numbers.{other_places}
use Rattle.span_checking.specs.NamedBatches.{lacks_value}
use Rattle.span_checking.proofs.NamedRows.{named_lack}
use Rattle.span_checking.proofs.named_batch.lacks_named.Goals as goal

pub returns : goal.returns
returns c =
    let tables = c.args.schema.now in
    let t = c.args.table.now in
    let columns = c.args.columns.now in
    c.lacks_value.ensures
    ∙ ap (λ (l : List Column). lacks_value l c.other_places.result.now c.as_slice-2.result.now c.as_slice-3.result.now) c.as_slice.ensures
    ∙ ap (λ (places : List ℕ). lacks_value t.columns places c.as_slice-2.result.now c.as_slice-3.result.now) c.other_places.ensures
    ∙ ap (λ (names : List (Option ℕ)). lacks_value t.columns (other_places tables columns.table) names c.as_slice-3.result.now) c.as_slice-2.ensures.value
    ∙ ap (λ (cells : List (Option Value)). lacks_value t.columns (other_places tables columns.table) columns.names.items cells) c.as_slice-3.ensures
    ∙ named_lack tables columns t c.requires.table c.args.heading.now c.requires.named c.args.row.now
