use Rattle.std.proofs.Common.{arith}
use Rattle.std.proofs.lemmas.Result.{err_from_is_err_and}
use Rattle.span_shard.proofs.RunAll.{all_run, one_more, run_fault, run_number}
use Rattle.span_shard.proofs.run.run.Goals as goal

pub returns-in_err-known-clause-fault : goal.returns-in_err-known-clause-fault
returns-in_err-known-clause-fault c =
    let p = err_from_is_err_and c.from_residual-in_err-known.result c.from_residual-in_err-known.ensures.1 in
    rw (p.1, p.2) (run_fault c.args.schema.now c.args.mutations.now c.args.store.now c.loop-mutation.mutation-index c.mutation-item.result c.loop-mutation.changes c.in_err-known.field-0.0 c.loop-mutation-test.true c.mutation-item.is c.loop-mutation.invariant.run c.in_err-known.ensures.refused)

pub returns-in_err-known-clause-number : goal.returns-in_err-known-clause-number
returns-in_err-known-clause-number c =
    let p = err_from_is_err_and c.from_residual-in_err-known.result c.from_residual-in_err-known.ensures.1 in
    rw (p.1, p.2) (run_number c.args.schema.now c.args.mutations.now c.args.store.now c.loop-mutation.mutation-index c.mutation-item.result c.loop-mutation.changes c.in_err-known.field-0.0 c.loop-mutation-test.true c.mutation-item.is c.in_err-known.ensures.refused)

pub loop-mutation-preserved : goal.loop-mutation-preserved
loop-mutation-preserved c = record {
  run = one_more c.args.schema.now c.args.mutations.now c.requires.typed c.args.store.now c.loop-mutation.mutation-index c.mutation-item.result c.loop-mutation.changes c.run_one.new.changes c.loop-mutation-test.true c.mutation-item.is c.loop-mutation.invariant.run
      c.in_ok-known.ensures.ok c.in_ok-known.ensures.cleared;
  known = c.in_ok-known.ensures.known;
}

pub returns-clause-ok : goal.returns-clause-ok
returns-clause-ok c =
    let stop = c.loop-mutation-test.false in
    all_run c.args.schema.now c.args.mutations.now c.args.store.now c.loop-mutation.mutation-index c.loop-mutation.changes (omega arith) c.loop-mutation.invariant.run
