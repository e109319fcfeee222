use Rattle.std.proofs.Common.{take}
use Rattle.std.specs.Map.{keys_of}
use Rattle.span_maderows.specs.Linked.{AreLinked}
use Rattle.span_maderows.proofs.hashed.links_of.Given as goal

-- the rows so far are linked
abbrev pub invariant-loop-key : goal.invariant-loop-key
invariant-loop-key l = AreLinked (keys_of (take l.key-index l.rows)) l.links.lasts.items l.links.befores.items
