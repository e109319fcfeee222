use Rattle.std.proofs.Common.{◌≡◌, ◌∙◌, ℕ, List, None, Some, ap, subst}
use Rattle.std.specs.Prelude.{Option, MatchResult}
use Rattle.span_value.specs.declared.value.Value.{Value}
use Rattle.span_value.specs.declared.refusal.Refusal.{Refusal}
use Rattle.span_schema.specs.declared.table.Column.{Column}
use Rattle.span_schema.specs.Layouts as layout
use Rattle.span_checking.specs.InOrder.{row_cause}
use Rattle.span_checking.proofs.InOrder.{other_places_of}
use Rattle.span_checking.proofs.Batched.{full_cause}
use Rattle.span_checking.proofs.batch_check.check_full_cells.Goals as goal

pub returns : goal.returns
returns c =
    let tables = c.args.schema.now in
    let t = c.args.table.now in
    let n = c.args.number in
    let same =
    ap (λ (columns : List Column). row_cause columns c.other_places.result.now c.as_slice-2.result.now) c.as_slice.ensures
    ∙ ap (λ (places : List ℕ). row_cause t.columns places c.as_slice-2.result.now) (c.other_places.ensures ∙ other_places_of tables n t c.requires.table)
    ∙ ap (λ (cells : List (Option Value)). row_cause t.columns (layout.other_places t.key 0 t.columns) cells) c.as_slice-2.ensures
    ∙ full_cause tables c.meets_rules.ensures n t c.requires.table c.args.heading.now c.args.row.now c.requires.bound c.requires.full in
    subst (λ (o : Option Refusal). MatchResult c.check_cells.result (λ _. o ≡ None) (λ why. o ≡ Some why)) same c.check_cells.ensures
