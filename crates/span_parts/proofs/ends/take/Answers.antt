use Rattle.std.proofs.lemmas.Result.{IfOk-weaker, IfErr-weaker}
use Rattle.span_parts.proofs.Taking.{taken_meant, taken_faulty, taken_asked, taken_closed, taken_goes}
use Rattle.span_parts.proofs.ends.take.Goals as goal

pub returns-clause-meant : goal.returns-clause-meant
returns-clause-meant c =
    let j = c.args.journal.now in
    let k = c.take_pieces.new.self in
    IfOk-weaker c.take_pieces.result _ _ (λ taken t shards w. taken_meant c.args.schema.now j k c.args.query taken t shards w) c.take_pieces.ensures.ok

pub returns-clause-fault : goal.returns-clause-fault
returns-clause-fault c =
    let j = c.args.journal.now in
    let k = c.take_pieces.new.self in
    IfOk-weaker c.take_pieces.result _ _ (λ taken t shards w. taken_faulty c.args.schema.now j k c.args.query taken t shards w) c.take_pieces.ensures.ok

pub returns-clause-refused : goal.returns-clause-refused
returns-clause-refused c = IfErr-weaker c.take_pieces.result _ _ (λ why is. is c.args.schema.now) c.take_pieces.ensures.refused

pub returns-clause-asked : goal.returns-clause-asked
returns-clause-asked c =
    let j = c.args.journal.now in
    let k = c.take_pieces.new.self in
    IfOk-weaker c.take_pieces.result _ _ (λ taken t. taken_asked c.args.schema.now j k c.args.query taken t) c.take_pieces.ensures.ok

pub returns-clause-closed : goal.returns-clause-closed
returns-clause-closed c =
    let j = c.args.journal.now in
    let k = c.take_pieces.new.self in
    IfOk-weaker c.take_pieces.result _ _ (λ taken t. taken_closed c.args.schema.now j k c.args.query taken t) c.take_pieces.ensures.ok

pub returns-clause-whole : goal.returns-clause-whole
returns-clause-whole c = taken_goes c.args.schema.now c.args.journal.now c.take_pieces.new.self c.args.query c.take_pieces.result c.take_pieces.ensures.ok c.take_pieces.ensures.err
