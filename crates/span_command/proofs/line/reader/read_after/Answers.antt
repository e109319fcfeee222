use Rattle.std.proofs.Common.{take, ap, ◌∙◌, rules}
use Rattle.std.proofs.lemmas.List.{with_items_is, places}
use Rattle.span_command.proofs.line.reader.read_after.Goals as goal

pub returns-clause-front : goal.returns-clause-front
returns-clause-front g c =
    ap (take c.args.front) (with_items_is c.args.buffer.now c.read_at.new.buffer (search (rules, places)))
    ∙ c.read_at.ensures.front ∙ ap (take c.args.front) c.as_mut_slice.ensures.value

pub returns-clause-bytes : goal.returns-clause-bytes
returns-clause-bytes g c = rw (with_items_is c.args.buffer.now c.read_at.new.buffer (search (rules, places))) c.read_at.ensures.bytes
