use Rattle.std.proofs.Common.{rules}
use Rattle.span_rowreader.proofs.Numbers.{word_descending, word_ascending}
use Rattle.span_rowreader.proofs.number.directed_word.Goals as goal

pub returns-then-desc : goal.returns-then-desc
returns-then-desc c = word_descending c.args.desc c.args.eight c.from_be_bytes-word.result c.if-desc.true (search rules) (λ i. search rules) c.from_be_bytes-word.ensures

pub returns-else-desc : goal.returns-else-desc
returns-else-desc c = word_ascending c.args.desc c.args.eight c.from_be_bytes-word.result c.if-desc.false (search rules) (λ i. search rules) c.from_be_bytes-word.ensures
