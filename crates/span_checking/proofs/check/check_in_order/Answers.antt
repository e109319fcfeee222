use Rattle.std.proofs.Common.{◌≡◌, ◌∙◌, ℕ, List, None, Some, ap, subst}
use Rattle.std.specs.Prelude.{Option, MatchResult}
use Rattle.span_value.specs.declared.refusal.Refusal.{Refusal}
use Rattle.span_schema.specs.declared.table.Column.{Column}
use Rattle.span_schema.specs.Layouts as layout
use Rattle.span_mutate.specs.declared.mutation.NamedValue.{NamedValue}
use Rattle.span_checking.specs.InOrder.{values_cause}
use Rattle.span_checking.proofs.InOrder.{rules_at, other_places_of, named_cause}
use Rattle.span_checking.proofs.check.check_in_order.Goals as goal

pub returns : goal.returns
returns c =
    let tables = c.args.schema.now in
    let t = c.args.table.now in
    let n = c.args.number in
    let m = c.args.mutation.now in
    let same =
    ap (λ (columns : List Column). values_cause columns c.other_places.result.now c.as_slice-2.result.now) c.as_slice.ensures
    ∙ ap (λ (places : List ℕ). values_cause t.columns places c.as_slice-2.result.now) (c.other_places.ensures ∙ other_places_of tables n t c.requires.table)
    ∙ ap (λ (cells : List NamedValue). values_cause t.columns (layout.other_places t.key 0 t.columns) cells) c.as_slice-2.ensures
    ∙ named_cause t (rules_at tables c.meets_rules.ensures n t c.requires.table) m c.requires.put c.requires.order in
    subst (λ (o : Option Refusal). MatchResult c.check_values.result (λ _. o ≡ None) (λ why. o ≡ Some why)) same c.check_values.ensures
