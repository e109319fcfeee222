use Rattle.std.proofs.Common.{◌∙◌, refl, true≢false, sym, ap}
use Rattle.std.specs.Str.{str_to_ascii_lowercase}
use Rattle.span_lexer.specs.declared.token.Word.TheVariants as w
use Rattle.span_lexer.proofs.Words.{word_found, word_passed, words_over}
use Rattle.span_lexer.proofs.word.matching_word.Goals as goal

pub returns-then-eq_ignore_ascii_case : goal.returns-then-eq_ignore_ascii_case
returns-then-eq_ignore_ascii_case c =
    sym (word_found c.args.words.now c.args.bytes.now c.loop-word.word-index w.All c.loop-word.invariant c.loop-word-test.true
    (c.if-eq_ignore_ascii_case.ensures.test.0 refl ∙ ap str_to_ascii_lowercase (c.as_bytes.ensures.value ∙ c.spelling.ensures)))

pub loop-word-preserved : goal.loop-word-preserved
loop-word-preserved c =
    word_passed c.args.words.now c.args.bytes.now c.loop-word.word-index w.All c.loop-word.invariant c.loop-word-test.true
    (λ e. true≢false (sym (c.if-eq_ignore_ascii_case.ensures.test.1 (e ∙ ap str_to_ascii_lowercase (sym (c.as_bytes.ensures.value ∙ c.spelling.ensures))))))

pub returns : goal.returns
returns c = sym (words_over c.args.words.now c.args.bytes.now c.loop-word.word-index c.loop-word.invariant c.loop-word-test.false)
