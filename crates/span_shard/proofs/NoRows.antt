-- A range of keys in which a store has no row.
use Rattle.std.proofs.Common.{◌≡◌, ℕ, true, false, List, Option, Some, None}
use Rattle.span_shard.specs.declared.lookups.EmptyRange.{EmptyRange}
use Rattle.span_store.specs.KeyVersions.{KeyVersions}
use Rattle.span_shard.specs.EmptyRanges.{is_in_empty, HasNoRowIn}
use Rattle.span_store.specs.KeyLists.{row_now}

-- a key in the range has no row
pub in_empty : (cs : List KeyVersions) (o : Option EmptyRange) (k : List ℕ) → HasNoRowIn cs o → is_in_empty o k ≡ true → row_now cs k ≡ None
in_empty cs None k h here = (let q : false ≡ true = here in absurd cc)
in_empty cs (Some r) k h here = h k here
