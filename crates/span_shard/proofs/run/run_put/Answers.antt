use Rattle.std.proofs.lemmas.Result.{IfErr-weaker, on_ok_weaker}
use Rattle.span_shard.proofs.Alone.{alone_at, alone_added, alone_refused, put_added}
use Rattle.span_shard.proofs.run.run_put.Goals as goal

pub returns-in-Some-clause-ok : goal.returns-in-Some-clause-ok
returns-in-Some-clause-ok c =
    let tables = c.args.schema.now in
    let cs = c.args.store.now in
    let m = c.args.mutation.now in
    let es = c.args.changes.now in
    let alone = alone_at tables cs es m c.in_ok-row.field-0 c.in-Some.row c.in-Some.is c.in_ok-row.ensures.ok in
    on_ok_weaker c.add_row.result (λ a. alone_added tables cs m es c.add_row.new.changes c.args.key c.in-Some.row c.requires.key alone a) c.add_row.ensures.added

pub returns-in-Some-clause-refused : goal.returns-in-Some-clause-refused
returns-in-Some-clause-refused c =
    let tables = c.args.schema.now in
    let cs = c.args.store.now in
    let m = c.args.mutation.now in
    let es = c.args.changes.now in
    let alone = alone_at tables cs es m c.in_ok-row.field-0 c.in-Some.row c.in-Some.is c.in_ok-row.ensures.ok in
    IfErr-weaker c.add_row.result _ _ (λ why e. alone_refused tables cs m es c.args.key c.in-Some.row why c.requires.key alone e) c.add_row.ensures.refused

pub returns-in_ok-put-in-None-clause-ok : goal.returns-in_ok-put-in-None-clause-ok
returns-in_ok-put-in-None-clause-ok c =
    put_added c.args.schema.now c.args.store.now c.args.mutation.now c.args.changes.now c.put.new.self c.args.key c.in_ok-row-in-None.row c.requires.key c.in_ok-row-in-None.ensures c.in_ok-put-in-None.ensures.put
