use Rattle.std.proofs.Common.{◌<◌, false, drop, get_or, length, arith}
use Rattle.std.proofs.lemmas.Result.{err_from_is_err_and}
use Rattle.span_value.specs.declared.value.Kind.TheVariants as kind
use Rattle.span_schema.specs.declared.layout.KeyPart.{KeyPart}
use Rattle.span_keycode.specs.Limits.{IsTooLong}
use Rattle.span_keycode.specs.Coding.{column_code, tuple_code}
use Rattle.span_keycode.proofs.Lengths.{part_too_long, same_lengths, value_left}
use Rattle.span_keycode.proofs.column.push_tuple.Goals as goal

pub returns-in_err-push_value-clause-memory : goal.returns-in_err-push_value-clause-memory
returns-in_err-push_value-clause-memory c =
    let p = err_from_is_err_and c.from_residual.result c.from_residual.ensures.1 in
    let cs = c.args.columns.now in
    let vs = c.args.values.now in
    let i = c.loop-i.i in
    let out = c.loop-i.out in
    let none : KeyPart = record { kind = kind.Int; desc = false } in
    let v = c.index-values-i.result in
    let within : i < length vs = omega arith in
    let long : IsTooLong out (column_code (get_or cs i none) v) = c.in_err-push_value.ensures.memory in
    rw p.1 (part_too_long c.args.out.now out (tuple_code cs vs) (column_code (get_or cs i none) v) (tuple_code (drop i cs) (drop i vs)) c.loop-i.invariant.capacity
    (same_lengths c.args.out.now out (tuple_code cs vs) (tuple_code (drop i cs) (drop i vs)) c.loop-i.invariant.bytes) (value_left cs vs i none v c.loop-i-test.true within c.index-values-i.is) long)
