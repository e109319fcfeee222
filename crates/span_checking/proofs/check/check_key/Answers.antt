use Rattle.std.proofs.Common.{arith, length, sym, ◌∙◌, ap}
use Rattle.span_schema.specs.declared.layout.KeyPart.{KeyPart}
use Rattle.span_keycode.proofs.KindTests.{kinds_length}
use Rattle.span_checking.proofs.check.check_key.Goals as goal

pub code_len-requires-clause-values : goal.code_len-requires-clause-values
code_len-requires-clause-values c =
    let same = kinds_length c.key_columns.result.now c.args.key.now (sym c.have_kinds.ensures.kinds ∙ c.if-not-have_kinds.false) in
    omega (arith, same, ap (length {A = KeyPart}) c.key_columns.ensures)
