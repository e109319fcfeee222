use Rattle.std.proofs.Common.{◌∷◌, [], List, refl, sym, ap, ◌∙◌, subst}
use Rattle.span_mutate.specs.declared.mutation.CheckedMutation.{CheckedMutation}
use Rattle.span_machine.specs.declared.transaction.Commit.{Commit}
use Rattle.span_machine.specs.Pieces.{machine_of}
use Rattle.span_parts.proofs.Passing.{passed_same}
use Rattle.span_board.specs.declared.board.Role.TheVariants.{Keeper}
use Rattle.span_locks.specs.Held.{IsUnderstoodAs}
use Rattle.span_board.specs.Known.{grown}
use Rattle.span_board.specs.Rule.{SessionHistory, Extends, known_at, seen_of, mine_of}
use Rattle.span_locks.proofs.Held.{keeper_goes, keeper_grown, commit_is}
use Rattle.span_board.proofs.Meets.{keeper_shape}
use Rattle.span_board.proofs.Stories.{extended}
use Rattle.span_locks.proofs.journal.LockedJournal.publish.Goals as goal

pub grow-requires-clause-tables : goal.grow-requires-clause-tables
grow-requires-clause-tables g c = (c.me.invariant.0, ap (λ b. b.table_id) c.replace-keeper.ensures.value ∙ c.self.invariant.at)

pub grow-requires-clause-client : goal.grow-requires-clause-client
grow-requires-clause-client g c = c.me.invariant.1

pub grow-requires-clause-keeper : goal.grow-requires-clause-keeper
grow-requires-clause-keeper g c = keeper_shape c.self.inside.badge.views _ (ap (λ b. b.views) c.replace-keeper.ensures.value) c.self.invariant.knows

pub invariant_of-self : goal.invariant_of-self
invariant_of-self g c =
    let schema = g.J.Naming.schema in
    let here = c.self.inside in
    let board = c.args.board.now in
    let owner = c.me.inside.owner in
    let k = c.commit.new.journal in
    let made : Commit = record { timestamp = c.in-Ok.timestamp; number = c.args.number; owner = owner; mutations = c.into_mutations.result } in
    let begun = c.is_begun.ensures.begun c.if-not-is_begun.false in
    let log = commit_is here.journal owner c.args.number c.in-Ok.timestamp k c.into_mutations.result (begun.0, begun.1, begun.2 ∙ c.mutations.ensures ∙ sym c.into_mutations.ensures) c.in-Ok.ensures.committed in
    let views = c.grow.ensures.keeper ∙ ap (λ b. (Keeper (grown (known_at b.views) made) ∷ []) ∷ []) c.replace-keeper.ensures.value in
    keeper_grown schema board.schema g.J.Naming.table here.badge.table_id here.badge.views here.journal board.schema_is c.self.invariant c.grow.result.table_id c.grow.result.views k made c.grow.ensures.tables.1 views log c.in-Ok.ensures.committed.queries c.in-Ok.ensures.whole

pub invariant_of-self-in-Err-1 : goal.invariant_of-self-in-Err-1
invariant_of-self-in-Err-1 g c =
    let schema = g.J.Naming.schema in
    let here = c.self.inside in
    let board = c.args.board.now in
    let k = c.commit.new.journal in
    keeper_goes schema board.schema g.J.Naming.table here.badge.table_id here.badge.views here.journal board.schema_is c.self.invariant k
    (passed_same (IsUnderstoodAs schema) board.schema (machine_of here.journal) c.self.invariant.asked (machine_of k) c.in-Err.ensures.committed)
    c.in-Err.ensures.whole

pub returns-in-Ok-clause-ok : goal.returns-in-Ok-clause-ok
returns-in-Ok-clause-ok g c =
    let me = c.me.inside in
    let made : Commit = record { timestamp = c.in-Ok.timestamp; number = c.args.number; owner = me.owner; mutations = c.into_mutations.result } in
    let known = c.grow.ensures.known in
    let v = c.grow.new.seat.me.0 in
    let after : SessionHistory = record { owner = me.owner; seen = seen_of v; mine = mine_of v; begun = me.begun.items } in
    let before : SessionHistory = record { owner = me.owner; seen = seen_of me.seat.me.0; mine = mine_of me.seat.me.0; begun = me.begun.items } in
    let all = extended me.owner (seen_of me.seat.me.0) (mine_of me.seat.me.0) _ made made v me.begun.items me.begun.items (ap (λ z. z.0) c.grow.ensures.client) refl known.0 known.1 known.2 in
    let handed = subst (λ (ms : List CheckedMutation). Extends before (record { timestamp = c.in-Ok.timestamp; number = c.args.number; owner = me.owner; mutations = ms }) after) c.into_mutations.ensures all in
    subst (λ (s : SessionHistory). Extends s (record { timestamp = c.in-Ok.timestamp; number = c.args.number; owner = s.owner; mutations = c.args.copy }) after) c.me.view_is handed
