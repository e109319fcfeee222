use Rattle.std.proofs.Common.{length}
use Rattle.std.specs.Map.{keys_of}
use Rattle.span_maderows.proofs.Linking.{IsSearching}
use Rattle.span_maderows.proofs.links.Links.search.Given as goal

-- the key is at no row from a place on
abbrev pub invariant-loop-left : goal.invariant-loop-left
invariant-loop-left l = IsSearching (keys_of l.rows) l.key (length l.self.lasts.items) l.class l.left

abbrev pub decreases-loop-left : goal.decreases-loop-left
decreases-loop-left l = l.left
