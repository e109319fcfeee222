use Rattle.std.proofs.Common.{◌∙◌, sym, subst}
use Rattle.std.specs.List.{AllByRecursion}
use Rattle.span_store.specs.KeyLists.{IsInUse, AreInOrder}
use Rattle.span_shard.specs.Shard.{HasNoneOf, IsFree}
use Rattle.span_shard.proofs.InOrder.{in_order_with_writes}
use Rattle.span_shard.proofs.Undo.{given_back, used_with_writes}
use Rattle.span_shard.proofs.shard.Shard.prepare.Goals as goal

pub invariant_of-self : goal.invariant_of-self
invariant_of-self c = (
  subst (AllByRecursion IsInUse) (sym c.in-Ok.ensures.ok) (used_with_writes c.args.txn c.in_ok-writes.writes.items c.self.inside.store c.self.invariant.0),
  subst AreInOrder (sym c.in-Ok.ensures.ok) (in_order_with_writes c.args.txn c.in_ok-writes.writes.items c.self.inside.store c.self.invariant.1),
)

pub invariant_of-self-in-Err : goal.invariant_of-self-in-Err
invariant_of-self-in-Err c =
    let some = c.in-Err.ensures.err in (
      subst (AllByRecursion IsInUse) (sym some.put) (used_with_writes c.args.txn some.rest c.self.inside.store c.self.invariant.0),
      subst AreInOrder (sym some.put) (in_order_with_writes c.args.txn some.rest c.self.inside.store c.self.invariant.1),
    )

pub returns-in-Err-clause-err : goal.returns-in-Err-clause-err
returns-in-Err-clause-err c =
    let tables = c.args.schema.now in
    let ms = c.args.mutations.now in
    let cs = c.self.inside.store in
    let is = c.self.view_is in
    c.apply.ensures
    ∙ given_back c.args.txn tables ms c.in_ok-writes.writes.items cs c.put_all.new.store c.self.invariant.0 (subst (HasNoneOf c.args.txn) (sym is) c.requires.new) (subst (IsFree tables ms) (sym is) c.requires.free)
    c.in_ok-writes.ensures.ok.touched c.in-Err.ensures.err ∙ is
