use Rattle.std.proofs.Common.{rules}
use Rattle.std.specs.Map.{keys_of}
use Rattle.std.proofs.lemmas.Map.Keys.{IsDistinct-from_sorted}
use Rattle.span_keycode.specs.Order.{byte_order}
use Rattle.span_maderows.proofs.Hashing.{order_same}
use Rattle.span_maderows.proofs.hashed.HashedRows.from_list.Goals as goal

pub invariant_of-result : goal.invariant_of-result
invariant_of-result c = record { distinct = IsDistinct-from_sorted byte_order (keys_of c.args.list.items) c.requires; linked = search rules }

pub returns : goal.returns
returns c = order_same c.args.list.items c.requires
