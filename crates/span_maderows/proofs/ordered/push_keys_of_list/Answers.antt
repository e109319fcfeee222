use Rattle.std.proofs.Common.{◌++◌, ◌∷◌, ◌+◌, ◌-◌, [], ℕ, List, drop, take, length, sym, ap, ◌∙◌}
use Rattle.span_value.proofs.Lists.{drop_read}
use Rattle.span_maderows.proofs.MadeRows.{slice_is}
use Rattle.span_maderows.proofs.Pushing.{pushing_first, pushing_next, pushed_until}
use Rattle.span_maderows.proofs.ordered.push_keys_of_list.Goals as goal

pub loop-key-init : goal.loop-key-init
loop-key-init c =
    let rows = c.args.rows.now in
    let n = c.count_before.result in
    pushing_first rows c.args.front.now c.args.keys.now.items (take (length rows - n) (drop n rows)) c.requires (slice_is c.args.front.now rows n c.count_before.ensures.bound c.count_before.ensures.count)

pub returns-then-not-begins_with : goal.returns-then-not-begins_with
returns-then-not-begins_with c =
    let rows = c.args.rows.now in
    let n = c.count_before.result in
    let rest = take (length rows - n) (drop n rows) in
    let i = c.loop-key.key-index in
    let e = c.loop-key-item.result in
    pushed_until rows c.args.front.now c.args.keys.now.items c.loop-key.keys.items e.0 e.1 (drop i rest) (drop (i + 1) rest) (drop_read rest i e c.loop-key-test.true c.loop-key-item.is)
    (sym c.begins_with.ensures ∙ c.if-not-begins_with.true) c.loop-key.invariant

pub loop-key-preserved : goal.loop-key-preserved
loop-key-preserved c =
    let rows = c.args.rows.now in
    let n = c.count_before.result in
    let rest = take (length rows - n) (drop n rows) in
    let i = c.loop-key.key-index in
    let e = c.loop-key-item.result in
    pushing_next rows c.args.front.now c.args.keys.now.items c.loop-key.keys.items c.push.new.self.items e.0 e.1 (drop i rest) (drop (i + 1) rest) (drop_read rest i e c.loop-key-test.true c.loop-key-item.is)
    (c.in_ok-push.ensures.items ∙ ap (λ (k : List ℕ). c.loop-key.keys.items ++ k ∷ []) (c.in_ok-from_slice.ensures.bytes ∙ c.as_slice.ensures))
    (sym c.begins_with.ensures ∙ c.if-not-begins_with.false) c.loop-key.invariant
