use Rattle.std.proofs.Common.{◌≡◌, ◌++◌, drop, map}
use Rattle.span_schema.specs.Layouts.{layout_of}
use Rattle.span_schema.proofs.layout.layouts_of.Given as goal

abbrev pub invariant-loop-table : goal.invariant-loop-table
invariant-loop-table l = l.layouts.items ++ map layout_of (drop l.table-index l.tables) ≡ map layout_of l.tables
