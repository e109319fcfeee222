use Rattle.std.proofs.Common.{◌≡◌, drop}
use Rattle.span_lexer.specs.Spellings.{matching_word}
use Rattle.span_lexer.proofs.word.matching_word.Given as goal

abbrev pub invariant-loop-word : goal.invariant-loop-word
invariant-loop-word l = matching_word (drop l.word-index l.words) l.bytes ≡ matching_word l.words l.bytes
