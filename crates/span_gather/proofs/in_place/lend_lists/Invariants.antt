use Rattle.std.proofs.Common.{◌≡◌, ◌++◌, Some, drop, true}
use Rattle.span_query.specs.Rows.{append_results}
use Rattle.span_merging.specs.PartPlaces.{joined, lists}
use Rattle.span_algebra.specs.ColumnOrders.{have_width}
use Rattle.span_gather.specs.Gathered.{joined_pieces}
use Rattle.span_gather.specs.InPlace.{lists_of}
use Rattle.span_gather.proofs.in_place.lend_lists.Given as goal

-- the rows of the pieces so far, and those of the others
abbrev pub invariant-loop-piece : goal.invariant-loop-piece
invariant-loop-piece l = record {
  each : lists l.lent.items ++ lists_of (drop l.piece-index l.pieces) ≡ lists_of l.pieces;
  rows : joined_pieces l.pieces ≡ append_results (Some (joined (lists l.lent.items))) (joined_pieces (drop l.piece-index l.pieces));
  wide : have_width l.width (joined (lists l.lent.items)) ≡ true;
}
