use Rattle.span_locks.proofs.Held.{keeper_first}
use Rattle.span_session.proofs.open.journal_of.Goals as goal

pub new-requires-in-Ok : goal.new-requires-in-Ok
new-requires-in-Ok g c =
    let board = c.args.board.now in
    let badge = c.args.badge in
    keeper_first g.J.Naming.schema board.schema g.J.Naming.table badge.table_id badge.views c.in-Ok.journal board.schema_is c.meets_rules.ensures c.requires.at c.requires.keeper c.in-Ok.ensures.start c.in-Ok.ensures.pieces
