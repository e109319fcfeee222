use Rattle.std.proofs.Common.{ap, ◌∙◌}
use Rattle.span_machine.specs.declared.step.Step.TheVariants as step
use Rattle.span_machine.specs.declared.step.Reply.TheVariants as reply
use Rattle.span_machine.specs.Pieces.{machine_of}
use Rattle.span_parts.proofs.Passing.{passed_take}
use Rattle.span_parts.proofs.Wholes.{no_text}
use Rattle.span_locks.specs.Held.{IsUnderstoodAs}
use Rattle.span_board.specs.Rule.{seen_of, known_at}
use Rattle.span_locks.proofs.Held.{keeper_goes, keeper_still, result_answers, result_faults}
use Rattle.span_board.proofs.Meets.{keeper_shape}
use Rattle.span_locks.proofs.Refusing.{end_refused}
use Rattle.span_locks.proofs.journal.LockedJournal.take.Goals as goal

pub show-requires-clause-tables : goal.show-requires-clause-tables
show-requires-clause-tables g c = (c.me.invariant.0, ap (λ b. b.table_id) c.replace-keeper.ensures.value ∙ c.self.invariant.at)

pub show-requires-clause-client : goal.show-requires-clause-client
show-requires-clause-client g c = c.me.invariant.1

pub show-requires-clause-keeper : goal.show-requires-clause-keeper
show-requires-clause-keeper g c = keeper_shape c.self.inside.badge.views _ (ap (λ b. b.views) c.replace-keeper.ensures.value) c.self.invariant.knows

pub invariant_of-self : goal.invariant_of-self
invariant_of-self g c =
    let schema = g.J.Naming.schema in
    let here = c.self.inside in
    let board = c.args.board.now in
    let k = c.take.new.journal in
    let views = c.show.ensures.keeper ∙ ap (λ b. b.views) c.replace-keeper.ensures.value in
    let still = keeper_still schema board.schema g.J.Naming.table here.badge.table_id here.badge.views here.journal board.schema_is c.self.invariant c.show.result.table_id c.show.result.views c.show.ensures.tables.1 views in
    keeper_goes schema board.schema g.J.Naming.table c.show.result.table_id c.show.result.views here.journal board.schema_is still k
    (passed_take (IsUnderstoodAs schema) board.schema (machine_of here.journal) c.self.invariant.asked c.take.result no_text (step.Close c.args.query) tt reply.Closed (machine_of k) c.take.ensures.closed c.take.ensures.err)
    c.take.ensures.whole

pub returns-clause-meant : goal.returns-clause-meant
returns-clause-meant g c =
    let schema = g.J.Naming.schema in
    let here = c.self.inside in
    let board = c.args.board.now in
    let seen = ap (λ z. seen_of z.0) c.show.ensures.client ∙ ap (λ b. (known_at b.views).commits) c.replace-keeper.ensures.value in
    result_answers schema board.schema g.J.Naming.table here.badge.table_id here.badge.views here.journal board.schema_is c.self.invariant c.args.query _ seen c.take.result c.take.ensures.asked c.take.ensures.meant

pub returns-clause-fault : goal.returns-clause-fault
returns-clause-fault g c =
    let schema = g.J.Naming.schema in
    let here = c.self.inside in
    let board = c.args.board.now in
    let seen = ap (λ z. seen_of z.0) c.show.ensures.client ∙ ap (λ b. (known_at b.views).commits) c.replace-keeper.ensures.value in
    result_faults schema board.schema g.J.Naming.table here.badge.table_id here.badge.views here.journal board.schema_is c.self.invariant c.args.query _ seen c.take.result c.take.ensures.asked c.take.ensures.fault

pub returns-clause-refused : goal.returns-clause-refused
returns-clause-refused g c =
    let schema = g.J.Naming.schema in
    let here = c.self.inside in
    let board = c.args.board.now in
    end_refused schema board.schema g.J.Naming.table here.badge.table_id here.badge.views here.journal board.schema_is c.self.invariant c.args.query c.take.result c.take.ensures.refused
