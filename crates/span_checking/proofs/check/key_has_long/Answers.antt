use Rattle.std.proofs.Common.{◌∙◌, ℕ, List, ap}
use Rattle.span_schema.specs.declared.table.Column.{Column}
use Rattle.span_checking.specs.Columns.{is_too_long}
use Rattle.span_checking.specs.InOrder.{places_break}
use Rattle.span_checking.proofs.InOrder.{key_breaks_of}
use Rattle.span_checking.proofs.check.key_has_long.Goals as goal

pub returns : goal.returns
returns c =
    let tables = c.args.schema.now in
    let t = c.args.table.now in
    let key = c.args.key.now in
    c.has_long.ensures
    ∙ ap (λ (columns : List Column). places_break is_too_long columns c.key_places.result.now key) c.as_slice.ensures
    ∙ ap (λ (places : List ℕ). places_break is_too_long t.columns places key) c.key_places.ensures
    ∙ key_breaks_of tables c.meets_rules.ensures c.args.number t c.requires.table is_too_long key
