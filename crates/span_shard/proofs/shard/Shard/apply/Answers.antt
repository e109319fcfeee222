use Rattle.std.proofs.Common.{◌∙◌, map, sym, ap, subst}
use Rattle.std.specs.Prelude.{filter}
use Rattle.std.specs.List.{AllByRecursion}
use Rattle.span_store.specs.Versions.{is_used, applied_to_key}
use Rattle.span_store.specs.KeyLists.{IsInUse, AreInOrder, IsLaterCommit}
use Rattle.span_shard.specs.Shard.{applied}
use Rattle.span_shard.proofs.Undo.{used_filtered, applied-committed}
use Rattle.span_shard.proofs.InOrder.{in_order_applied}
use Rattle.span_shard.proofs.shard.Shard.apply.Goals as goal

pub end-requires : goal.end-requires
end-requires c = subst (IsLaterCommit c.args.txn c.args.committed) (sym c.self.view_is) c.requires

pub invariant_of-self : goal.invariant_of-self
invariant_of-self c =
    let cs = c.self.inside.store in
    let same = c.end.ensures ∙ applied-committed c.args.txn c.args.committed cs (sym c.is_some.ensures ∙ c.if-is_some.true) c.self.invariant.0 in (
      subst (AllByRecursion IsInUse) (sym same) (used_filtered (map (applied_to_key c.args.txn c.args.committed) cs)),
      subst AreInOrder (sym same) (in_order_applied c.args.txn c.args.committed cs c.self.invariant.1),
    )

pub returns-then-is_some : goal.returns-then-is_some
returns-then-is_some c =
    c.end.ensures ∙ applied-committed c.args.txn c.args.committed c.self.inside.store (sym c.is_some.ensures ∙ c.if-is_some.true) c.self.invariant.0 ∙ ap (applied c.args.txn c.args.committed) c.self.view_is

pub invariant_of-self-2 : goal.invariant_of-self-2
invariant_of-self-2 c = (
  subst (AllByRecursion IsInUse) (sym c.remove_unused.ensures) (used_filtered c.end.new.self),
  subst AreInOrder (sym (c.remove_unused.ensures ∙ ap (filter is_used) c.end.ensures)) (in_order_applied c.args.txn c.args.committed c.self.inside.store c.self.invariant.1),
)
