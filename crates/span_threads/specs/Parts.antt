-- What calls are given and leave, of a part of some items, the first of which is at the place `base` of all.
use Rattle.std.specs.Prelude.{◌≡◌, ℕ, ◌+◌, ◌<◌, List, length, slice_index_or}
use Rattle.std.specs.Fork.{AcceptsAt, ChangesAt}
use denote.Ref.{MutBor}
use denote.Param.Members.{Shared}

module _ {F T : Type 0} (g : Shared F (ℕ × (MutBor T × Unit {0})) ((Unit {0}) × (MutBor T × Unit {0}))) (f : F) (base : ℕ) where
  -- f may be called with each item and its place
  abbrev pub AcceptsFrom : List T → Type 0
  AcceptsFrom items = (k : ℕ) (d : T) → k < length items → AcceptsAt g f (base + k) (slice_index_or items k d)

  -- each item is what a call of f left of the one at this place
  pub record ChangesFrom (old new : List T) : Type 0 where
    pub long : length new ≡ length old
    pub each : (k : ℕ) (d : T) → k < length old → ChangesAt g f (base + k) (slice_index_or old k d) (slice_index_or new k d)
