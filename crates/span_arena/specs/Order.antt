-- The order of versions: by their timestamps, the latest first.
use Rattle.std.specs.Prelude.{◌≡◌, ◌⊎◌, ℕ, ◌<◌, ◌≤◌, List, [], ◌∷◌, map, Contains, Option, MatchOption}
use Rattle.std.specs.List.{AllByRecursion}
use Rattle.span_arena.specs.declared.version.ArenaVersion.{ArenaVersion}
use Rattle.span_arena.specs.Content.{Content, IsSomePrepared, versions, prepared_at}

-- the timestamp is later than the first of these
abbrev pub IsLater : ℕ → List ℕ → Type 0
IsLater s [] = Unit {0}
IsLater s (t ∷ ts) = t < s

-- each is later than the next, so the first is the latest
abbrev pub AreFalling : List ℕ → Type 0
AreFalling [] = Unit {0}
AreFalling (t ∷ ts) = IsLater t ts × AreFalling ts

abbrev pub timestamps : List ArenaVersion → List ℕ
timestamps vs = map (λ (v : ArenaVersion). v.timestamp) vs

-- of versions with these timestamps it is one at or below s, and every other one at or below s is older
pub record IsLast (V : Type 0) (timestamp : V → ℕ) (s : ℕ) (vs : List V) (v : V) : Type 0 where
  pub is_one : Contains vs v
  pub upto : timestamp v ≤ s
  pub others : AllByRecursion (λ (w : V). timestamp w ≤ s → (w ≡ v) ⊎ (timestamp w < timestamp v)) vs

-- the last one at or below s; or all are later than s
abbrev pub IsLastUpto : (V : Type 0) → (V → ℕ) → ℕ → List V → Option V → Type 0
IsLastUpto V timestamp s vs found =
    MatchOption found (AllByRecursion (λ (w : V). s < timestamp w) vs) (IsLast V timestamp s vs)

-- the last version at or below s, where there is one
abbrev pub IsNewestUpto : ℕ → List ArenaVersion → Option ArenaVersion → Type 0
IsNewestUpto s vs found = IsLastUpto ArenaVersion (λ (v : ArenaVersion). v.timestamp) s vs found

-- the versions of each chain fall
abbrev pub AreInTimeOrder : Content → Type 0
AreInTimeOrder c = (chain : ℕ) → AreFalling (timestamps (versions c chain))

-- something is prepared in the node, and the timestamp is later than the newest version of its chain
abbrev pub IsLaterFor : Content → ℕ → ℕ → Type 0
IsLaterFor c node s = IsSomePrepared (prepared_at c node) (λ p. IsLater s (timestamps (versions c p.chain)))
