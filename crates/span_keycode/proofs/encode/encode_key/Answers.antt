use Rattle.std.proofs.Common.{arith, length, sym, ◌∙◌, ap}
use Rattle.span_schema.specs.declared.layout.KeyPart.{KeyPart}
use Rattle.span_keycode.proofs.KindTests.{kinds_length}
use Rattle.span_keycode.proofs.encode.encode_key.Goals as goal

pub code-requires-clause-values : goal.code-requires-clause-values
code-requires-clause-values c =
    let same = kinds_length c.key_columns.result.now c.args.values.now (sym c.have_kinds.ensures.kinds ∙ c.if-not-have_kinds.false) in
    omega (arith, same, ap (length {A = KeyPart}) c.key_columns.ensures)
