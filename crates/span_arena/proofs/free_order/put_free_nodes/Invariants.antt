use Rattle.std.proofs.Common.{◌≡◌, ◌+◌, ◌-◌, ◌≤◌, ◌++◌, length, map, take}
use Rattle.std.specs.Prelude.{vec_len, vec_capacity}
use Rattle.span_arena.specs.FreeOrders.{free_node}
use Rattle.span_arena.proofs.free_order.put_free_nodes.Given as goal

-- the records so far, and the capacity for all
abbrev pub invariant-loop-place : goal.invariant-loop-place
invariant-loop-place l = record {
  records : l.nodes.items ≡ l.fn.nodes.items ++ map (free_node l.base l.order l.last l.count) (take l.place-index l.place-items);
  capacity : vec_len l.nodes + (length l.place-items - l.place-index) ≤ vec_capacity l.nodes;
}
