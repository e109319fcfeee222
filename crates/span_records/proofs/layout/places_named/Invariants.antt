use Rattle.std.proofs.Common.{length}
use denote.Text.{Utf8}
use denote.Shadow.{shadow}
use Rattle.span_schema.specs.Numbers.{columns_of}
use Rattle.span_records.proofs.Named.{Found}
use Rattle.span_records.proofs.layout.places_named.Given as goal

-- the places of the names before the rest are found
abbrev pub invariant-loop-name : goal.invariant-loop-name
invariant-loop-name l = shadow (Utf8 l.rest) × Found (columns_of l.schema l.table) l.names l.places.items l.rest

abbrev pub decreases-loop-name : goal.decreases-loop-name
decreases-loop-name l = length l.rest
