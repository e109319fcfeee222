use Rattle.std.proofs.Common.{◌≡◌, drop}
use Rattle.span_mutate.specs.Typed.{AreNamed, are_named_kinds}
use Rattle.span_checking.proofs.column.have_named_kinds.Given as goal

abbrev pub invariant-loop-i : goal.invariant-loop-i
invariant-loop-i l = (are_named_kinds l.kinds l.named ≡ are_named_kinds (drop l.i l.kinds) (drop l.i l.named)) × (AreNamed (drop l.i l.kinds) (drop l.i l.named) → AreNamed l.kinds l.named)
