use Rattle.std.proofs.Common.{◌≡◌, ◌++◌, drop, map}
use Rattle.span_checking.specs.NamedBatches.{place_named}
use Rattle.span_checking.proofs.named_columns.places_named.Given as goal

-- the places so far, and those of the names that are left
abbrev pub invariant-loop-name : goal.invariant-loop-name
invariant-loop-name l = l.places.items ++ map (place_named l.columns) (drop l.name-index l.names) ≡ map (place_named l.columns) l.names
