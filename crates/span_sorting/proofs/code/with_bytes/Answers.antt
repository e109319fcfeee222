use Rattle.std.proofs.Common.{◌∙◌, ◌<◌, ◌+◌, ◌*◌, ◌^◌, arith}
use Rattle.span_sorting.proofs.Codes.{digit_fits, digit_added, digit_read}
use Rattle.span_sorting.proofs.code.with_bytes.Goals as goal

pub overflow_mul-code : goal.overflow_mul-code
overflow_mul-code c =
    let fits : c.loop-place.code * 256 + 255 < 2 ^ 128 = digit_fits c.loop-place.place c.loop-place.code c.loop-place-test.true c.loop-place.invariant.low in
    omega (arith, fits)

pub overflow_add-code : goal.overflow_add-code
overflow_add-code c =
    let fits : c.loop-place.code * 256 + 255 < 2 ^ 128 = digit_fits c.loop-place.place c.loop-place.code c.loop-place-test.true c.loop-place.invariant.low in
    omega (arith, fits, c.byte_at.type_inv)

pub loop-place-preserved : goal.loop-place-preserved
loop-place-preserved c = record {
  code = c.loop-place.invariant.code ∙ digit_read c.loop-place.place c.loop-place.code c.byte_at.result c.args.bytes.now c.loop-place-test.true c.byte_at.ensures;
  low = digit_added c.loop-place.place c.loop-place.code c.byte_at.result c.byte_at.type_inv c.loop-place.invariant.low;
}
