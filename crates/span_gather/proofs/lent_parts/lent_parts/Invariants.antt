use Rattle.std.proofs.Common.{◌≡◌, Some, drop}
use Rattle.span_query.specs.Rows.{append_results}
use Rattle.span_collected.specs.Parts.{all_rows}
use Rattle.span_gather.specs.Gathered.{joined_pieces}
use Rattle.span_gather.proofs.lent_parts.lent_parts.Given as goal

-- the rows of the pieces so far, and those of the others
abbrev pub invariant-loop-piece : goal.invariant-loop-piece
invariant-loop-piece l = joined_pieces l.pieces ≡ append_results (Some (all_rows l.parts.items)) (joined_pieces (drop l.piece-index l.pieces))
