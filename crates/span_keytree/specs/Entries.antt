-- A sorted list of keys with their chains.
use Rattle.std.specs.Prelude.{◌≡◌, ◌≢◌, ◌⊎◌, ℕ, List, ◌∷◌, ◌++◌, Bool, not, ◌&&◌, nat_eq, filter, All, AllPairs, Contains, map}
use Rattle.std.specs.List.{starts_with}
use Rattle.std.specs.Borrow.{Bor}
use Rattle.std.specs.Ordering.{is_lt, is_gt}
use Rattle.std.specs.declared.cmp.Ordering.TheVariants.{Less}
use Rattle.span_keycode.specs.Order.{byte_order}
use Rattle.span_keycode.specs.declared.range.KeyRange.{KeyRange}
use Rattle.span_arena.specs.Content.{Content, IsNewChain}
use Rattle.span_arena.specs.declared.token.Chain.{Chain}

-- a key and its chain
pub record KeyEntry : Type 0 where
  pub key : List ℕ
  pub chain : Chain

-- each key is below all later ones
abbrev pub IsRising : List KeyEntry → Type 0
IsRising es = AllPairs (λ e f. byte_order e.key f.key ≡ Less) es

-- the key has the chain
abbrev pub HasChain : List KeyEntry → List ℕ → Chain → Type 0
HasChain es key chain = Contains es (record { key = key; chain = chain })

-- no entry has the key
abbrev pub IsAbsent : List KeyEntry → List ℕ → Type 0
IsAbsent es key = All (λ e. e.key ≢ key) es

-- the entries with smaller keys, the entry, those with greater ones
abbrev pub with_entry : List KeyEntry → KeyEntry → List KeyEntry
with_entry es new =
    filter (λ e. is_lt (byte_order e.key new.key)) es ++ new ∷ filter (λ e. is_gt (byte_order e.key new.key)) es

-- the key has the chain, and nothing changed; or it was not there, and is now, with a new chain
abbrev pub IsSlotFor : List KeyEntry → List KeyEntry → Content → Content → List ℕ → Chain → Type 0
IsSlotFor old new before after key chain =
    (HasChain old key chain × (new ≡ old) × (after ≡ before))
    ⊎ (IsAbsent old key × IsNewChain before after chain.number
    × (new ≡ with_entry old (record { key = key; chain = chain })))

-- at or above the first bytes of a range, and before the first after it
abbrev pub is_within : KeyRange → List ℕ → Bool
is_within range key = not (is_lt (byte_order key range.low)) && is_lt (byte_order key range.high)

-- the entries whose keys are in the range
abbrev pub entries_in : KeyRange → List KeyEntry → List KeyEntry
entries_in range es = filter (λ e. is_within range e.key) es

-- the entries whose keys begin with these bytes
abbrev pub entries_under : List ℕ → List KeyEntry → List KeyEntry
entries_under front es = filter (λ e. starts_with nat_eq e.key front) es

-- what a walk hands out, as an entry
abbrev pub entry_of : Bor (List ℕ) × Chain → KeyEntry
entry_of r = record { key = r.0.now; chain = r.1 }

-- the entries with smaller keys, and those from a key on
abbrev pub entries_before : List ℕ → List KeyEntry → List KeyEntry
entries_before key es = filter (λ e. is_lt (byte_order e.key key)) es

abbrev pub entries_from : List ℕ → List KeyEntry → List KeyEntry
entries_from key es = filter (λ e. not (is_lt (byte_order e.key key))) es

abbrev pub keys_of : List KeyEntry → List (List ℕ)
keys_of es = map (λ e. e.key) es
