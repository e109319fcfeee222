use Rattle.std.proofs.Common.{◌∙◌, sym, ap}
use Rattle.span_grammar.specs.Reading.{text_read}
use Rattle.span_grammar.proofs.Verdicts.{reads, reads_all, wrongs, wrongs_all, deeps, deeps_all}
use Rattle.span_grammar.proofs.judge.judge.Goals as goal

pub returns-clause-read : goal.returns-clause-read
returns-clause-read c = λ h. reads c.args.goal c.args.tokens.now (ap (λ p. text_read p c.args.tokens.now) (sym c.part_for.ensures) ∙ sym c.read_all.ensures ∙ h)

pub returns-clause-read_all : goal.returns-clause-read_all
returns-clause-read_all c = λ x h. c.read_all.ensures ∙ ap (λ p. text_read p c.args.tokens.now) c.part_for.ensures ∙ reads_all c.args.goal c.args.tokens.now x h

pub returns-clause-wrong : goal.returns-clause-wrong
returns-clause-wrong c = λ h. wrongs c.args.goal c.args.tokens.now (ap (λ p. text_read p c.args.tokens.now) (sym c.part_for.ensures) ∙ sym c.read_all.ensures ∙ h)

pub returns-clause-wrong_all : goal.returns-clause-wrong_all
returns-clause-wrong_all c = λ h. c.read_all.ensures ∙ ap (λ p. text_read p c.args.tokens.now) c.part_for.ensures ∙ wrongs_all c.args.goal c.args.tokens.now h

pub returns-clause-deep : goal.returns-clause-deep
returns-clause-deep c = λ h. deeps c.args.goal c.args.tokens.now (ap (λ p. text_read p c.args.tokens.now) (sym c.part_for.ensures) ∙ sym c.read_all.ensures ∙ h)

pub returns-clause-deep_all : goal.returns-clause-deep_all
returns-clause-deep_all c = λ h. c.read_all.ensures ∙ ap (λ p. text_read p c.args.tokens.now) c.part_for.ensures ∙ deeps_all c.args.goal c.args.tokens.now h
