use Rattle.std.proofs.Common.{arith}
use Rattle.span_rowreader.proofs.KeyReads.{no_place_left}
use Rattle.span_rowreader.proofs.reads.add_column.Goals as goal

pub returns-then-at-places : goal.returns-then-at-places
returns-then-at-places c =
    no_place_left c.args.column c.args.above c.args.places.now c.args.reads.now.items (let none = c.if-at-places.true in omega arith)
