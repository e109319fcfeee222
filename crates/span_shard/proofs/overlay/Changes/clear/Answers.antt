use Rattle.std.proofs.Common.{ℕ, List, true, cond, ap, ◌∙◌}
use Rattle.std.specs.List.{list_any}
use Rattle.span_keycode.specs.Order.{is_same}
use Rattle.span_shard.specs.Overlay.{Changes}
use Rattle.span_shard.proofs.overlay.Changes.clear.Goals as goal

pub returns-clause-cleared : goal.returns-clause-cleared
returns-clause-cleared c = (λ k.
    c.in_ok-_is_first.ensures.updates.0 k
    ∙ ap (λ (l : List (List ℕ)). cond (is_same c.args.front k) true (list_any (is_same k) l)) (ap (λ (es : Changes). es.cleared) c.self.view_is ∙ c.in_ok-remove.ensures.cleared))
