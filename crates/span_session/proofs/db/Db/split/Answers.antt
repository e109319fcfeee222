use Rattle.std.proofs.Common.{List, [], ◌∷◌, sym, ap, ◌∙◌, subst}
use Rattle.std.specs.Prelude.{MatchOption}
use Rattle.span_value.specs.declared.refusal.Refusal.TheVariants.{BadSplit, OutOfMemory}
use Rattle.span_schema.specs.declared.table.Table.{Table}
use Rattle.span_machine.specs.Machine.{split_at}
use Rattle.span_machine.specs.declared.step.Reply.TheVariants.{Refused}
use Rattle.span_locks.specs.Replies.{IsAmong, MayReplyOnce}
use Rattle.span_locks.proofs.Replying.{key_replies, key_refused, no_key_refusal}
use Rattle.span_checking.specs.RootKeys.{root_key}
use Rattle.span_session.proofs.db.Db.split.Goals as goal

pub split_at-requires : goal.split_at-requires
split_at-requires g c =
    let a = c.args in
    record { coded = (a.table.now, a.key.now, c.requires.values, ap (λ s. root_key s a.table.now a.key.now) (sym a.self.now.locks.board.schema_is) ∙ c.in-Ok.ensures) }

pub returns-in-Ok-clause-reply : goal.returns-in-Ok-clause-reply
returns-in-Ok-clause-reply g c =
    let a = c.args in
    key_replies g.J.Naming.schema _ c.in-Ok.code c.split_at.result (ap (λ s. root_key s a.table.now a.key.now) (sym a.self.now.locks.board.schema_is) ∙ c.in-Ok.ensures) c.split_at.ensures.reply

pub returns-in-Err-clause-reply : goal.returns-in-Err-clause-reply
returns-in-Err-clause-reply g c =
    let a = c.args in
    let schema = g.J.Naming.schema in
    subst (λ (s : List Table). MatchOption (root_key s a.table.now a.key.now) (IsAmong (BadSplit ∷ OutOfMemory ∷ []) c.in-Err.why) (λ key. MayReplyOnce schema (λ m. split_at m key) (Refused c.in-Err.why))) a.self.now.locks.board.schema_is
    (key_refused schema _ c.in-Err.why c.in-Err.ensures)

pub returns-in-Err-clause-refused : goal.returns-in-Err-clause-refused
returns-in-Err-clause-refused g c = no_key_refusal g.J.Naming.schema _ c.in-Err.why c.in-Err.ensures
