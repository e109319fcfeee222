use Rattle.std.proofs.Common.{not, sym, subst}
use Rattle.std.specs.List.{AllByRecursion}
use Rattle.std.specs.Ordering.{is_lt}
use Rattle.span_keycode.specs.Order.{byte_order}
use Rattle.span_store.specs.KeyVersions.{KeyVersions}
use Rattle.span_store.specs.KeyLists.{IsInUse, AreInOrder}
use Rattle.span_store.proofs.Parting.{kept_in_use, kept_in_order}
use Rattle.span_shard.proofs.shard.Shard.split.Goals as goal

pub invariant_of-result : goal.invariant_of-result
invariant_of-result c = (
  subst (AllByRecursion IsInUse) (sym c.in_ok-split.ensures.part) (kept_in_use (λ (k : KeyVersions). not (is_lt (byte_order k.key c.args.key.now))) c.self.inside.store c.self.invariant.0),
  subst AreInOrder (sym c.in_ok-split.ensures.part) (kept_in_order (λ (k : KeyVersions). not (is_lt (byte_order k.key c.args.key.now))) c.self.inside.store c.self.invariant.1),
)

pub invariant_of-self-2 : goal.invariant_of-self-2
invariant_of-self-2 c = (
  subst (AllByRecursion IsInUse) (sym c.in_ok-split.ensures.before) (kept_in_use (λ (k : KeyVersions). is_lt (byte_order k.key c.args.key.now)) c.self.inside.store c.self.invariant.0),
  subst AreInOrder (sym c.in_ok-split.ensures.before) (kept_in_order (λ (k : KeyVersions). is_lt (byte_order k.key c.args.key.now)) c.self.inside.store c.self.invariant.1),
)
