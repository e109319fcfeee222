use Rattle.std.proofs.Common.{◌≡◌, ◌+◌, ◌∷◌, ◌++◌, [], drop, get_or, string_bytes, arith}
use Rattle.std.proofs.lemmas.Grind.{common_steps}
use Rattle.span_value.specs.Cells.{hex_pairs}
use Rattle.span_value.proofs.CellTexts.{hex_step, hex_end}
use Rattle.span_gather.proofs.explain.push_hex.Goals as goal

pub loop-byte-preserved : goal.loop-byte-preserved
loop-byte-preserved c =
    let next : drop c.loop-byte.byte-index c.args.bytes.now ≡ get_or c.args.bytes.now c.loop-byte.byte-index 0 ∷ drop (c.loop-byte.byte-index + 1) c.args.bytes.now = grind (arith, common_steps) in
    hex_step (string_bytes c.args.out.now ++ hex_pairs c.args.bytes.now) (string_bytes c.loop-byte.out) (string_bytes c.push_pair.new.out) (get_or c.args.bytes.now c.loop-byte.byte-index 0) _ _ c.loop-byte.invariant next c.in_ok-push_pair.ensures

pub returns : goal.returns
returns c =
    let over : drop c.loop-byte.byte-index c.args.bytes.now ≡ [] = grind (arith, common_steps) in
    hex_end (string_bytes c.args.out.now ++ hex_pairs c.args.bytes.now) (string_bytes c.loop-byte.out) _ c.loop-byte.invariant over
