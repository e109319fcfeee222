-- The order in which new free numbers are handed out.
use Rattle.std.specs.Prelude.{◌≡◌, ℕ, ◌+◌, ◌-◌, ◌<◌, ◌++◌, List, [], length, map, get_or, slice_index_or, false}
use Rattle.span_arena.specs.declared.record.ChainRecord.{ChainRecord}
use Rattle.span_arena.specs.declared.record.ChainRecord.TheVariants as chain
use Rattle.span_arena.specs.declared.record.NodeRecord.{NodeRecord}
use Rattle.span_arena.specs.declared.record.NodeUse.TheVariants.{Free}

-- the number has this place
pub record IsPlaceOf (places : List ℕ) (number place : ℕ) : Type 0 where
  pub within : number < length places
  pub is : get_or places number 0 ≡ place

-- under each of the numbers is its place among them
pub record AreInverse (numbers places : List ℕ) : Type 0 where
  pub long : length places ≡ length numbers
  pub each : (i : ℕ) → i < length numbers → IsPlaceOf places (get_or numbers i 0) i
  pub within : (i : ℕ) → i < length numbers → get_or places i 0 < length numbers

-- the number at a place, where the first of the new ones is `base`; after the last another
abbrev pub number_at : ℕ → List ℕ → ℕ → ℕ → ℕ
number_at base numbers last place = slice_index_or (map (λ (n : ℕ). base + n) numbers) place last

-- the record of the free chain, or of the free node, at a place of the order, where `count` others are free
abbrev pub free_chain : ℕ → List ℕ → ℕ → ℕ → ℕ → ChainRecord
free_chain base numbers last count place =
    chain.Free (number_at base numbers last (place + 1)) (count + (length numbers - place))

abbrev pub free_node : ℕ → List ℕ → ℕ → ℕ → ℕ → NodeRecord
free_node base numbers last count place = record {
  used = Free (count + (length numbers - place));
  next = number_at base numbers last (place + 1);
  has_image = false;
  timestamp = 0;
  image = [];
}

-- these are the records of all free chains, or of all free nodes, of the order, by their numbers
pub record AreFreeChains (base : ℕ) (numbers : List ℕ) (last count : ℕ) (records : List ChainRecord) : Type 0 where
  pub places : List ℕ
  pub inverse : AreInverse numbers places
  pub are : records ≡ map (free_chain base numbers last count) places

pub record AreFreeNodes (base : ℕ) (numbers : List ℕ) (last count : ℕ) (records : List NodeRecord) : Type 0 where
  pub places : List ℕ
  pub inverse : AreInverse numbers places
  pub are : records ≡ map (free_node base numbers last count) places

-- these records are after those of others, whose numbers end where theirs begin
pub record HasFreeChains (numbers : List ℕ) (last count : ℕ) (old new : List ChainRecord) : Type 0 where
  pub records : List ChainRecord
  pub free : AreFreeChains (length old) numbers last count records
  pub after : new ≡ old ++ records

pub record HasFreeNodes (numbers : List ℕ) (last count : ℕ) (old new : List NodeRecord) : Type 0 where
  pub records : List NodeRecord
  pub free : AreFreeNodes (length old) numbers last count records
  pub after : new ≡ old ++ records
