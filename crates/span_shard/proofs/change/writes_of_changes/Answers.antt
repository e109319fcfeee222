use Rattle.std.proofs.Common.{[], Some, sym, subst, ◌∙◌}
use Rattle.span_maderows.proofs.Hashing.{popped_at, popped_out}
use Rattle.span_shard.specs.Overlay.{Changes, changes_of, AreWrittenFrom}
use Rattle.span_shard.proofs.RunAll.{written_of, written_left, made_taken, written_more, written_same}
use Rattle.span_shard.proofs.change.writes_of_changes.Goals as goal

pub loop-key-init : goal.loop-key-init
loop-key-init c =
    let made = c.changes.inside.made in
    subst (AreWrittenFrom c.args.store.now c.args.changes (changes_of c.in_ok-left.left [])) (sym c.reserve.ensures.items)
    (written_left c.args.store.now c.args.changes made c.in_ok-left.left c.in_ok-writes.writes.items c.in_ok-left.ensures
    (subst (λ (es : Changes). AreWrittenFrom c.args.store.now es (changes_of made []) c.in_ok-writes.writes.items) c.changes.view_is
    (written_of c.args.store.now (record { made = made; removed = c.changes.inside.removed.keys; cleared = c.changes.inside.cleared.keys }) (changes_of made []) c.in_ok-writes.writes.items c.in_ok-writes.ensures)))

pub loop-key-preserved-in-Continue-branch-4 : goal.loop-key-preserved-in-Continue-branch-4
loop-key-preserved-in-Continue-branch-4 c =
    let left = c.loop-key.left in
    let rest = c.pop.new.self in
    subst (AreWrittenFrom c.args.store.now c.args.changes (changes_of rest [])) (sym c.in_ok-push.ensures.items)
    (written_more c.args.store.now c.args.changes (changes_of left []) (changes_of rest []) c.loop-key.writes.items (record { key = c.in-Some.key; row = Some c.in-Some.row }) c.loop-key.invariant
    (made_taken left rest c.in-Some.key c.in-Some.row (popped_at left rest c.in-Some.key c.in-Some.row c.in-Some.ensures.distinct c.in-Some.ensures.last) (popped_out left rest c.in-Some.key c.in-Some.row c.in-Some.ensures.distinct c.in-Some.ensures.last))
    (sym c.is_change.ensures ∙ c.if-is_change.true))

pub loop-key-preserved-else-is_change : goal.loop-key-preserved-else-is_change
loop-key-preserved-else-is_change c =
    let left = c.loop-key.left in
    let rest = c.pop.new.self in
    written_same c.args.store.now c.args.changes (changes_of left []) (changes_of rest []) c.loop-key.writes.items c.in-Some.key (Some c.in-Some.row) c.loop-key.invariant
    (made_taken left rest c.in-Some.key c.in-Some.row (popped_at left rest c.in-Some.key c.in-Some.row c.in-Some.ensures.distinct c.in-Some.ensures.last) (popped_out left rest c.in-Some.key c.in-Some.row c.in-Some.ensures.distinct c.in-Some.ensures.last))
    (sym c.is_change.ensures ∙ c.if-is_change.false)
