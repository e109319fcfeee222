use Rattle.span_parts.proofs.Finishing.{finished, unfinished}
use Rattle.span_parts.proofs.steps.finish.Goals as goal

pub returns-in-Ok-finish_pieces : goal.returns-in-Ok-finish_pieces
returns-in-Ok-finish_pieces c = λ shards w.
    finished c.args.schema.now c.args.journal.now shards w c.args.query c.in-Ok.s c.in-Ok.top.now c.in-Ok.pieces.now c.in-Ok.ensures.ok c.in-Ok-finish_pieces.rows c.in-Ok-finish_pieces.ensures

pub returns-in-Err-finish_pieces : goal.returns-in-Err-finish_pieces
returns-in-Err-finish_pieces c = λ shards w.
    unfinished c.args.schema.now c.args.journal.now shards w c.args.query c.in-Ok.s c.in-Ok.top.now c.in-Ok.pieces.now c.in-Ok.ensures.ok c.in-Err-finish_pieces.why c.in-Err-finish_pieces.ensures
