use Rattle.std.proofs.Common.{◌≡◌, ◌-◌, ◌≤◌, length, take, Some}
use Rattle.span_keywalk.specs.Walks.{walked_in, AreShortOf}
use Rattle.span_keywalk.proofs.batch.find_in_order.Given as goal

-- what was found, and the short ones of what is left, are all short ones
abbrev pub invariant-loop-left : goal.invariant-loop-left
invariant-loop-left l = record {
  short : AreShortOf l.arena.cells l.nexts l.most l.stop (walked_in l.arena.cells l.nexts l.fn.left (Some l.number) l.stop) (take l.count l.numbers) l.left (Some l.at);
  count : l.count ≤ 64;
  places : length l.numbers ≡ 64;
  left : l.left ≤ l.fn.left;
}

abbrev pub decreases-loop-left : goal.decreases-loop-left
decreases-loop-left l = l.left - l.last
