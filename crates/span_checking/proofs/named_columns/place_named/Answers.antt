use Rattle.std.proofs.Common.{◌∙◌, sym}
use Rattle.span_schema.specs.declared.table.Column.{Column}
use Rattle.span_schema.specs.Tables.{is_same_name}
use Rattle.span_checking.proofs.NamedRows.{past_all}
use Rattle.span_checking.proofs.named_columns.place_named.Goals as goal

pub returns-in-None : goal.returns-in-None
returns-in-None c = past_all (λ (x : Column). is_same_name x.name c.args.name.now) c.args.columns.now (sym c.column_place.ensures ∙ c.in-None.is)
