use Rattle.std.proofs.Common.{sym, ap, subst, ◌∙◌}
use Rattle.std.specs.Prelude.{filter}
use Rattle.std.specs.List.{AllByRecursion}
use Rattle.span_store.specs.Versions.{is_used}
use Rattle.span_store.specs.KeyLists.{IsInUse, AreInOrder}
use Rattle.span_shard.proofs.Undo.{used_filtered}
use Rattle.span_shard.proofs.InOrder.{in_order_trimmed}
use Rattle.span_shard.proofs.shard.Shard.trim.Goals as goal

pub invariant_of-self : goal.invariant_of-self
invariant_of-self c = (
  subst (AllByRecursion IsInUse) (sym c.remove_unused.ensures) (used_filtered c.trim.new.self),
  subst AreInOrder (sym (c.remove_unused.ensures ∙ ap (filter is_used) c.trim.ensures)) (in_order_trimmed c.args.h c.self.inside.store c.self.invariant.1),
)
