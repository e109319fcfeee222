use Rattle.std.proofs.Common.{sym, subst, ◌∙◌}
use Rattle.span_shard.specs.Overlay.{Changes, AreRemoved, AddsCleared}
use Rattle.span_shard.proofs.Overlays.{clears}
use Rattle.span_shard.proofs.RunDeletes.{none_deleted}
use Rattle.span_shard.proofs.run.run_delete.Goals as goal

pub returns-then-not-has_row-clause-ok : goal.returns-then-not-has_row-clause-ok
returns-then-not-has_row-clause-ok c =
    none_deleted c.args.schema.now c.args.store.now c.args.changes.now c.args.mutation.now c.args.key c.requires.key (sym c.has_row.ensures ∙ c.if-not-has_row.true)

pub returns-clause-cleared : goal.returns-clause-cleared
returns-clause-cleared c =
    let key = c.args.key in
    let keys = c.in_ok-keys.keys.items in
    let new = c.clear.new.self in
    let same = c.in_ok-keys.ensures.same in
    clears c.args.store.now c.args.changes.now new key keys c.requires.cleared c.in_ok-keys.ensures.keys.0 (subst (λ (es : Changes). AreRemoved es keys new) same c.in_ok-clear.ensures.removed)
    (subst (λ (es : Changes). AddsCleared key es new) same c.in_ok-clear.ensures.cleared)
