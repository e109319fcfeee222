use Rattle.std.proofs.Common.{◌∙◌, ap, sym, []}
use Rattle.std.specs.Prelude.{unwrap_or}
use Rattle.clap.specs.Words.{found_of}
use Rattle.span_program.proofs.Given.{Lent, lent_text, value_given}
use Rattle.span_program.proofs.words.value_of.Goals as goal

pub returns-in-Some : goal.returns-in-Some
returns-in-Some c =
    ap (λ (lent : Lent). unwrap_or (lent_text lent) []) (sym c.in-Some.is)
    ∙ value_given (found_of c.args.given.now) c.args.id.now c.get_str.result c.get_str.ensures

pub returns-in-None : goal.returns-in-None
returns-in-None c =
    ap (λ (lent : Lent). unwrap_or (lent_text lent) []) (sym c.in-None.is)
    ∙ value_given (found_of c.args.given.now) c.args.id.now c.get_str.result c.get_str.ensures
