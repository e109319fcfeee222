use Rattle.std.proofs.Common.{subst}
use Rattle.span_maderows.specs.Made.{AddsMade}
use Rattle.span_shard.specs.Overlay.{Changes}
use Rattle.span_shard.proofs.Overlays.{all_under}
use Rattle.span_shard.proofs.overlay.keys_under.Goals as goal

pub returns-clause-keys : goal.returns-clause-keys
returns-clause-keys c =
    let front = c.args.front.now in
    let old = c.in_ok-keys.keys.items in
    let new = c.push_keys.new.keys.items in
    all_under c.args.store.now c.args.changes.now front old new c.in_ok-keys.ensures (subst (λ (es : Changes). AddsMade es.made front old new) c.changes.view_is c.in_ok-push_keys.ensures.added)
