-- A range of keys in which a store has no row.
use Rattle.std.specs.Prelude.{ℕ, List, Bool, false, Option, Some, None}
use Rattle.span_store.specs.Ends.{is_from_to, HasNoRowFrom}
use Rattle.span_shard.specs.declared.lookups.EmptyRange.{EmptyRange}
use Rattle.span_store.specs.KeyVersions.{KeyVersions}

abbrev pub is_in_range : EmptyRange → List ℕ → Bool
is_in_range r k = is_from_to r.low r.high k

abbrev pub is_in_empty : Option EmptyRange → List ℕ → Bool
is_in_empty None k = false
is_in_empty (Some r) k = is_in_range r k

abbrev pub HasNoRowIn : List KeyVersions → Option EmptyRange → Type 0
HasNoRowIn cs None = Unit {0}
HasNoRowIn cs (Some r) = HasNoRowFrom cs r.low r.high
