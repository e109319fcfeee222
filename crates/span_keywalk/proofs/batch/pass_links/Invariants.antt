use Rattle.std.proofs.Common.{◌≡◌, ◌+◌, ◌-◌, ◌≤◌, List, length, take, Some}
use Rattle.span_keytree.specs.Entries.{KeyEntry}
use Rattle.span_keywalk.specs.Walks.{walked_in, AreBelow, AreShortOf}
use Rattle.span_keywalk.proofs.batch.pass_links.Given as goal

-- what was right before is right after the keys so far
abbrev pub invariant-loop-left : goal.invariant-loop-left
invariant-loop-left l = record {
  below : AreBelow (length l.arena.cells) (walked_in l.arena.cells l.nexts l.left (Some l.here) l.stop);
  short : (es : List KeyEntry) → AreShortOf l.arena.cells l.nexts l.most l.stop es (take l.fn.count l.fn.numbers) l.fn.left (Some l.fn.number)
      → AreShortOf l.arena.cells l.nexts l.most l.stop es (take l.count l.numbers) l.left (Some l.here);
  room : l.count + l.left ≤ l.fn.count + l.fn.left;
  left : l.left ≤ l.fn.left;
  last : l.last ≤ l.left;
  places : length l.numbers ≡ 64;
  first : l.left ≡ l.fn.left → l.here ≡ l.fn.number;
}

abbrev pub decreases-loop-left : goal.decreases-loop-left
decreases-loop-left l = l.left - l.last
