use Rattle.std.proofs.Common.{sym, subst}
use Rattle.std.proofs.lemmas.Result.{on_ok_weaker, IfErr-weaker}
use Rattle.span_shard.specs.Shard.{IsFree, HasNoneOf}
use Rattle.span_machine.specs.Pieces.{machine_of}
use Rattle.span_journal.specs.Judged.{MayPrepare}
use Rattle.span_parts.proofs.Changes.{all_some, of_some, shard_there}
use Rattle.span_parts.proofs.Preparing.{free, new, typed, unwritten_answer}
use Rattle.span_parts.proofs.steps.prepare_writes.Goals as goal

pub prepare_at-requires-clause-free : goal.prepare_at-requires-clause-free
prepare_at-requires-clause-free c =
    let a = c.args in
    let ms = c.as_slice.result.now in
    let may = subst (MayPrepare a.schema.now (machine_of a.journal.now) a.owner a.txn a.slot) (sym c.as_slice.ensures) c.in-Ok.ensures.accepted in
    all_some (IsFree a.schema.now ms) _ (λ before there. free a.schema.now a.journal.now a.shards.now.items c.requires a.owner a.txn a.slot ms may before there)

pub prepare_at-requires-clause-new : goal.prepare_at-requires-clause-new
prepare_at-requires-clause-new c =
    let a = c.args in
    let ms = c.as_slice.result.now in
    let may = subst (MayPrepare a.schema.now (machine_of a.journal.now) a.owner a.txn a.slot) (sym c.as_slice.ensures) c.in-Ok.ensures.accepted in
    all_some (HasNoneOf a.txn) _ (λ before there. new a.schema.now a.journal.now a.shards.now.items c.requires a.owner a.txn a.slot ms may before there)

pub prepare_at-requires-clause-typed : goal.prepare_at-requires-clause-typed
prepare_at-requires-clause-typed c =
    let a = c.args in
    let ms = c.as_slice.result.now in
    let may = subst (MayPrepare a.schema.now (machine_of a.journal.now) a.owner a.txn a.slot) (sym c.as_slice.ensures) c.in-Ok.ensures.accepted in
    let there = shard_there a.schema.now a.journal.now a.shards.now.items c.requires a.slot may.slot_state may.here in
    typed a.schema.now a.journal.now a.shards.now.items c.requires a.owner a.txn a.slot ms may there.0 there.1

pub returns-in-Ok-clause-written : goal.returns-in-Ok-clause-written
returns-in-Ok-clause-written c =
    let a = c.args in
    let may = subst (MayPrepare a.schema.now (machine_of a.journal.now) a.owner a.txn a.slot) (sym c.as_slice.ensures) c.in-Ok.ensures.accepted in
    let there = shard_there a.schema.now a.journal.now a.shards.now.items c.requires a.slot may.slot_state may.here in
    on_ok_weaker c.prepare_at.result (λ made.
    let put = of_some _ _ there.0 there.1 made in
    record { mutations = c.as_slice.result.now; may = may; before = there.0; here = there.1; writes = put.0; are = put.1; few = put.2; put = put.3 }) c.prepare_at.ensures.ok

pub returns-in-Ok-clause-refused : goal.returns-in-Ok-clause-refused
returns-in-Ok-clause-refused c =
    let a = c.args in
    let ms = c.as_slice.result.now in
    let may = subst (MayPrepare a.schema.now (machine_of a.journal.now) a.owner a.txn a.slot) (sym c.as_slice.ensures) c.in-Ok.ensures.accepted in
    let there = shard_there a.schema.now a.journal.now a.shards.now.items c.requires a.slot may.slot_state may.here in
    IfErr-weaker c.prepare_at.result _ _ (λ why fault.
    unwritten_answer a.schema.now a.journal.now a.shards.now.items c.requires a.owner a.txn a.slot ms may there.0 there.1 why (of_some _ _ there.0 there.1 fault)) c.prepare_at.ensures.fault
