use Rattle.std.proofs.Common.{◌∙◌, ap, sym}
use Rattle.clap.specs.Words.{found_of}
use Rattle.span_program.proofs.Given.{Lent, is_true, lent_text, set_given}
use Rattle.span_program.proofs.words.is_set.Goals as goal

pub returns-in-Some : goal.returns-in-Some
returns-in-Some c =
    c.eq.ensures
    ∙ ap (λ (lent : Lent). is_true (lent_text lent)) (sym c.in-Some.is)
    ∙ set_given (found_of c.args.given.now) c.args.id.now c.get_str.result c.get_str.ensures

pub returns-in-None : goal.returns-in-None
returns-in-None c =
    ap (λ (lent : Lent). is_true (lent_text lent)) (sym c.in-None.is)
    ∙ set_given (found_of c.args.given.now) c.args.id.now c.get_str.result c.get_str.ensures
