use Rattle.std.proofs.Common.{◌≡◌, ◌+◌, [], ◌∷◌, ◌++◌, drop, get_or, arith}
use Rattle.std.proofs.lemmas.Grind.{common_steps}
use Rattle.span_value.specs.Cells.{hex_pairs}
use Rattle.span_value.proofs.CellTexts.{hex_step, hex_end}
use Rattle.span_answers.proofs.Begun.{begins_on}
use Rattle.span_answers.proofs.answer.Answers.hex.Goals as goal

pub loop-byte-preserved : goal.loop-byte-preserved
loop-byte-preserved c =
    let a = c.args in
    let at = c.loop-byte in
    let next : drop at.byte-index a.bytes.now ≡ get_or a.bytes.now at.byte-index 0 ∷ drop (at.byte-index + 1) a.bytes.now = grind (arith, common_steps) in (
      begins_on a.self.now at.self c.hex_byte.new.self at.invariant.0 c.hex_byte.ensures.grows,
      hex_step (a.self.now ++ hex_pairs a.bytes.now) at.self c.hex_byte.new.self (get_or a.bytes.now at.byte-index 0) _ _ at.invariant.1 next c.in_ok-hex_byte.ensures.added,
    )

pub returns-clause-added : goal.returns-clause-added
returns-clause-added c =
    let a = c.args in
    let at = c.loop-byte in
    let over : drop at.byte-index a.bytes.now ≡ [] = grind (arith, common_steps) in
    hex_end (a.self.now ++ hex_pairs a.bytes.now) at.self _ at.invariant.1 over
