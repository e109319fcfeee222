use Rattle.std.proofs.Common.{◌∙◌, sym, ap}
use Rattle.span_grammar.specs.Contexts.{words_with, context_words}
use Rattle.span_grammar.proofs.Spelled.{word_by_letter, no_word_empty}
use Rattle.span_grammar.proofs.classify.context_word.Goals as goal

pub returns-in-Some : goal.returns-in-Some
returns-in-Some c = c.matching_word.ensures ∙ word_by_letter c.args.bytes.now _ c.in-Some.first.now c.words_with.result.now c.in-Some.ensures.cases.0 (c.words_with.ensures ∙ ap (λ l. words_with l context_words) c.to_ascii_lowercase.ensures.value)

pub returns-in-None : goal.returns-in-None
returns-in-None c = sym (no_word_empty c.args.bytes.now c.in-None.ensures.cases)
