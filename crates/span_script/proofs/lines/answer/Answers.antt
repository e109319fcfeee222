use Rattle.std.proofs.Common.{List, refl, sym, subst}
use Rattle.span_schema.specs.declared.table.Table.{Table}
use Rattle.span_command.specs.declared.command.Command.TheVariants as command
use Rattle.span_steps.specs.States.{IsExplained, SetsClock, RefusesClock, Writes, RefusesWrite, Deletes, RefusesDelete}
use Rattle.span_script.specs.Scripts.{IsDone, IsReplied}
use Rattle.span_steps.specs.Running.{Changes, state_of}
use Rattle.span_script.proofs.Doing.{adds_weaker, changed, done_as, numbered}
use Rattle.span_script.proofs.lines.answer.Goals as goal

pub returns-in_ok-word_line-in-Clock-clause-exact : goal.returns-in_ok-word_line-in-Clock-clause-exact
returns-in_ok-word_line-in-Clock-clause-exact c =
    let a = c.args in
    let m = a.core.now.machine in
    let state = state_of a.running.now in
    let i = c.in-Clock in
    let next = state_of c.set_clock.new.self in
    let new = c.word_line.new.self in
    done_as a.core.now.schema a.command (command.Clock i.earliest i.latest) state m next m a.answers.now new c.set_clock.result i.is
    (changed (SetsClock i.earliest i.latest state) (RefusesClock i.earliest i.latest) m state next a.answers.now new c.set_clock.result
    c.in_ok-word_line-in-Clock.ensures.added c.set_clock.ensures)

pub returns-in_ok-word_line-in-Write-clause-exact : goal.returns-in_ok-word_line-in-Write-clause-exact
returns-in_ok-word_line-in-Write-clause-exact c =
    let a = c.args in
    let schema = a.core.now.schema in
    let m = a.core.now.machine in
    let state = state_of a.running.now in
    let i = c.in-Write in
    let next = state_of c.write.new.self in
    let new = c.word_line-in-Write.new.self in
    done_as schema a.command (command.Write i.kind i.table i.columns i.record) state m next m a.answers.now new c.write.result i.is
    (changed (Writes schema i.kind i.table.now i.columns.now i.record.now state) (RefusesWrite schema i.kind i.table.now i.columns.now i.record.now)
    m state next a.answers.now new c.write.result c.in_ok-word_line-in-Write.ensures.added
    (subst (λ (s : List Table). Changes (Writes s i.kind i.table.now i.columns.now i.record.now state) (RefusesWrite s i.kind i.table.now i.columns.now i.record.now) a.running.now c.write.new.self c.write.result)
    c.schema.ensures c.write.ensures))

pub returns-in_ok-word_line-in-Delete-clause-exact : goal.returns-in_ok-word_line-in-Delete-clause-exact
returns-in_ok-word_line-in-Delete-clause-exact c =
    let a = c.args in
    let schema = a.core.now.schema in
    let m = a.core.now.machine in
    let state = state_of a.running.now in
    let i = c.in-Delete in
    let next = state_of c.delete.new.self in
    let new = c.word_line-in-Delete.new.self in
    done_as schema a.command (command.Delete i.table i.record) state m next m a.answers.now new c.delete.result i.is
    (changed (Deletes schema i.table.now i.record.now state) (RefusesDelete schema i.table.now i.record.now)
    m state next a.answers.now new c.delete.result c.in_ok-word_line-in-Delete.ensures.added
    (subst (λ (s : List Table). Changes (Deletes s i.table.now i.record.now state) (RefusesDelete s i.table.now i.record.now) a.running.now c.delete.new.self c.delete.result)
    c.schema-in-Delete.ensures c.delete.ensures))

pub returns-in-Begin-clause-exact : goal.returns-in-Begin-clause-exact
returns-in-Begin-clause-exact c =
    let a = c.args in
    let schema = a.core.now.schema in
    let m = a.core.now.machine in
    let state = state_of a.running.now in
    let reply = c.begin-reply in
    let next = state_of reply.new.self in
    let last = reply.new.core.machine in
    done_as schema a.command command.Begin state m next last a.answers.now c.add_reply.new.answers c.add_reply.result c.in-Begin.is
    (adds_weaker (IsReplied reply.result) (λ answer. IsDone schema command.Begin state m answer next last) a.answers.now c.add_reply.new.answers c.add_reply.result
    (λ answer replied. (reply.result, reply.ensures.begun, replied, reply.ensures.emptied))
    c.add_reply.ensures.added)

pub returns-in-Open-clause-exact : goal.returns-in-Open-clause-exact
returns-in-Open-clause-exact c =
    let a = c.args in
    let schema = a.core.now.schema in
    let m = a.core.now.machine in
    let state = state_of a.running.now in
    let reply = c.open-reply in
    let last = reply.new.core.machine in
    let add = c.add_reply-in-Open in
    let i = c.in-Open in
    done_as schema a.command (command.Open i.bound i.text) state m state last a.answers.now add.new.answers add.result i.is
    (adds_weaker (IsReplied reply.result) (λ answer. IsDone schema (command.Open i.bound i.text) state m answer state last) a.answers.now add.new.answers add.result
    (λ answer replied. (reply.result, reply.ensures.taken, replied, refl))
    add.ensures.added)

pub returns-in-Split-clause-exact : goal.returns-in-Split-clause-exact
returns-in-Split-clause-exact c =
    let a = c.args in
    let schema = a.core.now.schema in
    let m = a.core.now.machine in
    let state = state_of a.running.now in
    let reply = c.split-reply in
    let next = state_of reply.new.self in
    let last = reply.new.core.machine in
    let add = c.add_reply-in-Split in
    let i = c.in-Split in
    done_as schema a.command (command.Split i.table i.record) state m next last a.answers.now add.new.answers add.result i.is
    (adds_weaker (IsReplied reply.result) (λ answer. IsDone schema (command.Split i.table i.record) state m answer next last) a.answers.now add.new.answers add.result
    (λ answer replied. (reply.result, reply.ensures.split, replied, reply.ensures.kept))
    add.ensures.added)

pub returns-in-Query-clause-exact : goal.returns-in-Query-clause-exact
returns-in-Query-clause-exact c =
    let a = c.args in
    let schema = a.core.now.schema in
    let m = a.core.now.machine in
    let state = state_of a.running.now in
    let reply = c.query-reply in
    let last = reply.new.core.machine in
    let add = c.add_reply-in-Query in
    let i = c.in-Query in
    done_as schema a.command (command.Query i.bound i.text) state m state last a.answers.now add.new.answers add.result i.is
    (adds_weaker (IsReplied reply.result) (λ answer. IsDone schema (command.Query i.bound i.text) state m answer state last) a.answers.now add.new.answers add.result
    (λ answer replied. (reply.result, reply.ensures.queried, replied, refl))
    add.ensures.added)

pub returns-in-Explain-clause-exact : goal.returns-in-Explain-clause-exact
returns-in-Explain-clause-exact c =
    let a = c.args in
    let schema = a.core.now.schema in
    let m = a.core.now.machine in
    let state = state_of a.running.now in
    let add = c.explain in
    let i = c.in-Explain in
    done_as schema a.command (command.Explain i.text) state m state m a.answers.now add.new.answers add.result i.is
    (adds_weaker (IsExplained schema i.text.now state.params) (λ answer. IsDone schema (command.Explain i.text) state m answer state m) a.answers.now add.new.answers add.result
    (λ answer explained. (explained, refl, refl))
    add.ensures.added)

pub returns-in-Some-clause-exact : goal.returns-in-Some-clause-exact
returns-in-Some-clause-exact c =
    let a = c.args in
    let schema = a.core.now.schema in
    let m = a.core.now.machine in
    let state = state_of a.running.now in
    let reply = c.take_step-reply in
    let last = reply.new.core.machine in
    let add = c.add_reply-in-Some in
    adds_weaker (IsReplied reply.result) (λ answer. IsDone schema a.command state m answer state last) a.answers.now add.new.answers add.result
    (λ answer replied. numbered schema a.command state m answer state last c.in-Some.step (sym c.in-Some.ensures.step) (reply.result, reply.ensures.taken, replied, refl))
    add.ensures.added
