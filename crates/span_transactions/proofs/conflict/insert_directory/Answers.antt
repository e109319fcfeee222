use Rattle.std.proofs.Common.{sym, ◌∙◌}
use Rattle.span_transactions.proofs.Conflicts.{added}
use Rattle.span_transactions.proofs.conflict.insert_directory.Goals as goal

pub returns : goal.returns
returns c =
    added c.args.schema.now c.meets_rules.ensures c.args.slot_state.now c.args.mutation.now c.in_ok-key.key c.args.directories.now.keys c.insert.new.self.keys
    c.in_ok-key.ensures (sym c.holds.ensures ∙ c.if-not-holds.false) (λ k. c.in-Ok.ensures.updates.0 k)
