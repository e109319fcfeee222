use Rattle.std.proofs.Common.{◌≡◌, ◌++◌, drop, map}
use Rattle.span_gather.specs.Gathered.{joined_pieces}
use Rattle.span_gather.proofs.finish.tables_of.Given as goal

-- the tables so far, and the leaves that are left
abbrev pub invariant-loop-pieces : goal.invariant-loop-pieces
invariant-loop-pieces l = l.tables ++ map joined_pieces (drop l.pieces-index l.leaves) ≡ map joined_pieces l.leaves
