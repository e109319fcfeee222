use Rattle.std.proofs.Common.{◌≡◌, ◌∙◌, sym, ap}
use Rattle.std.proofs.lemmas.Slice.Eq.{bytes_eq-Decides}
use Rattle.span_schema.specs.Numbers.{number_named}
use Rattle.span_checking.proofs.Finding.{named_itself}
use Rattle.span_checking.proofs.check.is_table_named.Goals as goal

pub returns : goal.returns
returns c =
    let tables = c.args.schema.now in
    let t = c.table.result.now in
    λ yes.
    let same : c.as_str.result.now ≡ c.args.name.now = (bytes_eq-Decides c.as_str.result.now c.args.name.now).0 (sym c.eq.ensures ∙ yes) in
    ap (number_named tables) (sym same ∙ c.as_str.ensures) ∙ named_itself tables c.meets_rules.ensures c.args.number t c.requires c.table.ensures
