use Rattle.std.proofs.Common.{sym, subst}
use Rattle.std.proofs.lemmas.Result.{on_ok_weaker, IfErr-weaker}
use Rattle.span_machine.specs.Pieces.{machine_of}
use Rattle.span_journal.specs.Judged.{MayPrepare}
use Rattle.span_parts.proofs.Preparing.{free, new, typed, unwritten_answer}
use Rattle.span_parts.proofs.slot.write_in.Goals as goal

pub write-requires-clause-free : goal.write-requires-clause-free
write-requires-clause-free c =
    let a = c.args in
    let ms = c.as_slice.result.now in
    let may = subst (MayPrepare a.schema.now (machine_of a.journal.now) a.owner a.txn a.slot) (sym c.as_slice.ensures) c.in-Ok.ensures.accepted in
    free a.schema.now a.journal.now c.requires.0 c.requires.1 a.owner a.txn a.slot ms may a.shard.now c.requires.2

pub write-requires-clause-new : goal.write-requires-clause-new
write-requires-clause-new c =
    let a = c.args in
    let ms = c.as_slice.result.now in
    let may = subst (MayPrepare a.schema.now (machine_of a.journal.now) a.owner a.txn a.slot) (sym c.as_slice.ensures) c.in-Ok.ensures.accepted in
    new a.schema.now a.journal.now c.requires.0 c.requires.1 a.owner a.txn a.slot ms may a.shard.now c.requires.2

pub write-requires-clause-typed : goal.write-requires-clause-typed
write-requires-clause-typed c =
    let a = c.args in
    let ms = c.as_slice.result.now in
    let may = subst (MayPrepare a.schema.now (machine_of a.journal.now) a.owner a.txn a.slot) (sym c.as_slice.ensures) c.in-Ok.ensures.accepted in
    typed a.schema.now a.journal.now c.requires.0 c.requires.1 a.owner a.txn a.slot ms may a.shard.now c.requires.2

pub returns-in-Ok-clause-written : goal.returns-in-Ok-clause-written
returns-in-Ok-clause-written c =
    let a = c.args in
    let may = subst (MayPrepare a.schema.now (machine_of a.journal.now) a.owner a.txn a.slot) (sym c.as_slice.ensures) c.in-Ok.ensures.accepted in
    on_ok_weaker c.write.result (λ made.
    record { mutations = c.as_slice.result.now; may = may; writes = made.0; are = made.1; few = made.2; put = made.3 }) c.write.ensures.ok

pub returns-in-Ok-clause-refused : goal.returns-in-Ok-clause-refused
returns-in-Ok-clause-refused c =
    let a = c.args in
    let ms = c.as_slice.result.now in
    let may = subst (MayPrepare a.schema.now (machine_of a.journal.now) a.owner a.txn a.slot) (sym c.as_slice.ensures) c.in-Ok.ensures.accepted in
    IfErr-weaker c.write.result _ _ (λ why fault.
    unwritten_answer a.schema.now a.journal.now c.requires.0 c.requires.1 a.owner a.txn a.slot ms may a.shard.now c.requires.2 why fault) c.write.ensures.fault
