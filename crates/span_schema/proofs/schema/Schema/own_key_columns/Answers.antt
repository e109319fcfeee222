use Rattle.std.proofs.Common.{◌-◌, arith, length, ap}
use Rattle.span_schema.specs.declared.layout.KeyPart.{KeyPart}
use Rattle.span_schema.proofs.Numbered.{above_within}
use Rattle.span_schema.proofs.schema.Schema.own_key_columns.Goals as goal

pub parts_after-requires : goal.parts_after-requires
parts_after-requires c =
    omega (arith, above_within c.args.self.now c.columns_above.ensures.rules (c.args.table - 1) (omega arith), c.columns_above.ensures.columns, ap (length {A = KeyPart}) c.key_columns.ensures)
