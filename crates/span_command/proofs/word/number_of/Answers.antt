use Rattle.std.proofs.Common.{◌≡◌, ◌∙◌, true, false, sym, ap}
use Rattle.std.proofs.lemmas.Fmt.{parse-decimal}
use Rattle.span_command.specs.Words.{begins_plainly}
use Rattle.span_command.proofs.Numerals.{plain_read, decimal_begins}
use Rattle.span_command.proofs.word.number_of.Goals as goal

pub returns-in_default : goal.returns-in_default
returns-in_default c = λ n h. absurd (c.in_default.not-Ok n (parse-decimal 64 n c.args.word.now c.parse.result h.0 h.0 h.1 c.parse.ensures.value.0))

pub returns-then-begins_plainly : goal.returns-then-begins_plainly
returns-then-begins_plainly c =
    let plain : begins_plainly c.args.word.now ≡ true = ap begins_plainly (sym c.as_bytes.ensures.value) ∙ sym c.begins_plainly.ensures ∙ c.if-begins_plainly.true in
    plain_read c.args.word.now c.in-Ok.number c.parse.result c.parse.ensures.value.0 c.in-Ok.is plain

pub returns-else-begins_plainly : goal.returns-else-begins_plainly
returns-else-begins_plainly c = λ n h.
    let plain : begins_plainly c.args.word.now ≡ true = ap begins_plainly h.1 ∙ decimal_begins n h.0 in
    let not_plain : begins_plainly c.args.word.now ≡ false = ap begins_plainly (sym c.as_bytes.ensures.value) ∙ sym c.begins_plainly.ensures ∙ c.if-begins_plainly.false in
    let bad : false ≡ true = sym not_plain ∙ plain in
    absurd cc
