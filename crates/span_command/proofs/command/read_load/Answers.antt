use Rattle.span_command.proofs.Refusing.{other_columns}
use Rattle.span_command.proofs.command.read_load.Goals as goal

pub returns-then-not-is_one_word : goal.returns-then-not-is_one_word
returns-then-not-is_one_word c =
    other_columns c.args.words.now c.in_ok-table.table.now c.in_ok-table.columns.now c.in_ok-table.ensures.0 c.in_ok-table.ensures.1
    (λ word. cc (c.is_one_word.ensures.1 word, c.if-not-is_one_word.true))
