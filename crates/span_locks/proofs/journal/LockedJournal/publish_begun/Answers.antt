use Rattle.std.proofs.Common.{◌∷◌, [], ap, ◌∙◌}
use Rattle.span_machine.specs.Pieces.{machine_of}
use Rattle.span_parts.proofs.Passing.{passed_same}
use Rattle.span_board.specs.declared.board.Role.TheVariants.{Keeper}
use Rattle.span_locks.specs.Held.{IsUnderstoodAs}
use Rattle.span_board.specs.Known.{grown}
use Rattle.span_board.specs.Rule.{known_at, seen_of, mine_of}
use Rattle.span_locks.proofs.Held.{keeper_goes, keeper_grown, kept_commit_is}
use Rattle.span_board.proofs.Meets.{keeper_shape}
use Rattle.span_board.proofs.Stories.{extended_begun, begun_same, begun_taken}
use Rattle.span_locks.proofs.journal.LockedJournal.publish_begun.Goals as goal

pub grow-requires-clause-tables : goal.grow-requires-clause-tables
grow-requires-clause-tables g c = (c.me.invariant.0, ap (λ b. b.table_id) c.replace-keeper.ensures.value ∙ c.self.invariant.at)

pub grow-requires-clause-client : goal.grow-requires-clause-client
grow-requires-clause-client g c = c.me.invariant.1

pub grow-requires-clause-keeper : goal.grow-requires-clause-keeper
grow-requires-clause-keeper g c = keeper_shape c.self.inside.badge.views _ (ap (λ b. b.views) c.replace-keeper.ensures.value) c.self.invariant.knows

pub invariant_of-self : goal.invariant_of-self
invariant_of-self g c =
    let schema = g.J.Naming.schema in
    let here = c.self.inside in
    let board = c.args.board.now in
    let owner = c.me.inside.owner in
    let k = c.commit.new.journal in
    let made = c.commit_of-made.result in
    let log = kept_commit_is here.journal owner c.in-Ok.timestamp k c.in-Some.found.now c.remove-begun.result made (begun_same c.me.inside.begun.items c.as_slice.result.now c.args.place c.in-Some.found.now c.remove-begun.result c.as_slice.ensures.value c.in-Some.ensures.lookup.3.1 c.remove-begun.ensures.value) (c.is_kept.ensures.begun c.if-not-is_kept.false) c.in-Ok.ensures.committed c.commit_of-made.ensures in
    let views = c.grow.ensures.keeper ∙ ap (λ b. (Keeper (grown (known_at b.views) made) ∷ []) ∷ []) c.replace-keeper.ensures.value in
    keeper_grown schema board.schema g.J.Naming.table here.badge.table_id here.badge.views here.journal board.schema_is c.self.invariant c.grow.result.table_id c.grow.result.views k made c.grow.ensures.tables.1 views log c.in-Ok.ensures.committed.queries c.in-Ok.ensures.whole

pub invariant_of-self-in-Err : goal.invariant_of-self-in-Err
invariant_of-self-in-Err g c =
    let schema = g.J.Naming.schema in
    let here = c.self.inside in
    let board = c.args.board.now in
    let k = c.commit.new.journal in
    keeper_goes schema board.schema g.J.Naming.table here.badge.table_id here.badge.views here.journal board.schema_is c.self.invariant k
    (passed_same (IsUnderstoodAs schema) board.schema (machine_of here.journal) c.self.invariant.asked (machine_of k) c.in-Err.ensures.committed)
    c.in-Err.ensures.whole

pub returns-in-Ok-clause-ok : goal.returns-in-Ok-clause-ok
returns-in-Ok-clause-ok g c =
    let me = c.me.inside in
    let known = c.grow.ensures.known in
    let v = c.grow.new.seat.me.0 in
    extended_begun me.owner (seen_of me.seat.me.0) (mine_of me.seat.me.0) _ c.commit_of-made.result c.in-Ok.timestamp c.remove-begun.result v me.begun.items _ c.args.place c.args.me.now
    c.me.view_is (ap (λ z. z.0) c.grow.ensures.client) c.commit_of-made.ensures known.0 known.1 known.2 (begun_taken me.begun.items c.as_slice.result.now c.args.place c.remove-begun.result c.as_slice.ensures.value c.in-Some.ensures.lookup.3.0 c.remove-begun.ensures.value) c.remove-begun.ensures.items
