use Rattle.std.proofs.Common.{◌≡◌, map, take}
use Rattle.span_machine.specs.Pieces.{no_pieces}
use Rattle.span_openqueries.proofs.query.empty_pieces.Given as goal

-- the pieces so far
abbrev pub invariant-loop-leaf : goal.invariant-loop-leaf
invariant-loop-leaf l = l.pieces ≡ map no_pieces (take l._leaf-index l.leaves)
