-- What a caller sees of an arena: a map from chains to versions, what is prepared, and how many nodes are free.
use Rattle.std.specs.Prelude.{◌≡◌, ◌⊎◌, ℕ, ◌+◌, ◌-◌, ◌<◌, ◌≤◌, List, [], ◌∷◌, ◌++◌, ◌&&◌, length, replicate, Option, Some, None, slice_index_or, slice_set, Bool, nat_le, nat_lt, nat_eq, find, if◌then◌else◌}
use Rattle.span_arena.specs.Cells.{blank}
use Rattle.span_arena.specs.declared.cell.Cell.{Cell}
use Rattle.span_arena.specs.declared.version.ArenaVersion.{ArenaVersion}
use Rattle.span_value.specs.declared.refusal.Refusal.{Refusal}
use Rattle.span_value.specs.declared.refusal.Refusal.TheVariants.{ShardFull, OutOfMemory}

-- what is prepared in a node: the number of the chain that it is for, and the image; none is a deletion
pub record Prepared : Type 0 where
  pub chain : ℕ
  pub image : Option (List ℕ)

-- Under a chain's number its versions, newest first, or None where it is no chain, and its key with its links, which
-- are blank where it is none; under a node's number what is prepared in it, or None where it is in a chain or free; how
-- many nodes are free; and how many may be in use.
pub record Content : Type 0 where
  pub chains : List (Option (List ArenaVersion))
  pub cells : List Cell
  pub prepared : List (Option Prepared)
  pub free : ℕ
  pub most : ℕ

abbrev pub versions_in : Option (List ArenaVersion) → List ArenaVersion
versions_in None = []
versions_in (Some vs) = vs

-- the versions of a chain, newest first
abbrev pub versions : Content → ℕ → List ArenaVersion
versions c chain = versions_in (slice_index_or c.chains chain None)

abbrev pub prepared_at : Content → ℕ → Option Prepared
prepared_at c node = slice_index_or c.prepared node None

abbrev pub IsChain : Content → ℕ → Type 0
IsChain c chain = (vs : List ArenaVersion) × (slice_index_or c.chains chain None ≡ Some vs)

abbrev pub IsSomePrepared : Option Prepared → (Prepared → Type 0) → Type 0
IsSomePrepared None P = ⊥
IsSomePrepared (Some p) P = P p

-- something is prepared in the node
abbrev pub IsPrepared : Content → ℕ → Type 0
IsPrepared c node = IsSomePrepared (prepared_at c node) (λ _. Unit {0})

-- ---- how many

-- the sum of what is counted for each node
abbrev pub sum_for : (Option Prepared → ℕ) → List (Option Prepared) → ℕ
sum_for w [] = 0
sum_for w (p ∷ ps) = w p + sum_for w ps

abbrev pub one_if : Option Prepared → ℕ
one_if None = 0
one_if (Some p) = 1

abbrev pub one_for : ℕ → Option Prepared → ℕ
one_for chain None = 0
one_for chain (Some p) = (if nat_eq p.chain chain then 1 else 0)

-- how many nodes have something prepared for a chain
abbrev pub prepared_for : ℕ → List (Option Prepared) → ℕ
prepared_for chain ps = sum_for (one_for chain) ps

abbrev pub count_prepared : List (Option Prepared) → ℕ
count_prepared ps = sum_for one_if ps

abbrev pub count_versions : List (Option (List ArenaVersion)) → ℕ
count_versions [] = 0
count_versions (c ∷ cs) = length (versions_in c) + count_versions cs

-- how many nodes are in use: each version of a chain has one, and each prepared image
abbrev pub live : Content → ℕ
live c = count_versions c.chains + count_prepared c.prepared

-- no version, and nothing prepared
abbrev pub is_unused : Content → ℕ → Bool
is_unused c chain = nat_eq (length (versions c chain)) 0 && nat_eq (prepared_for chain c.prepared) 0

-- ---- what holds of every arena

-- Every node is in one place: in use or free. What is prepared is for a chain.
pub record IsInOrder (c : Content) : Type 0 where
  pub placed : c.free + live c ≡ length c.prepared
  pub bounded : length c.prepared ≤ c.most
  pub for_chains : (node : ℕ) → (p : Prepared) → prepared_at c node ≡ Some p → IsChain c p.chain

-- ---- what the calls do

-- the newest version at or below s
abbrev pub newest_upto : ℕ → List ArenaVersion → Option ArenaVersion
newest_upto s vs = find (λ v. nat_le v.timestamp s) vs

-- with a value at a place: in the place of what was there, or one more at the end
abbrev pub with_at : {A : Type 0} → List A → ℕ → A → List A
with_at xs i x = (if nat_lt i (length xs) then slice_set xs i x else (xs ++ x ∷ []))

-- every number up to the last is a chain's
abbrev pub AreAllChains : Content → Type 0
AreAllChains c = (d : ℕ) → d < length c.chains → IsChain c d

-- A number that was no chain is one now, with no version, and nothing is prepared for it. The numbers grow only where
-- all are chains. Of the keys and links nothing is said.
pub record IsNewChain (old new : Content) (chain : ℕ) : Type 0 where
  pub number : chain ≤ length old.chains
  pub was_none : slice_index_or old.chains chain None ≡ None
  pub none_prepared : prepared_for chain old.prepared ≡ 0
  pub grows : length old.chains ≤ chain → AreAllChains old
  pub now : new ≡ record old { chains = with_at old.chains chain (Some []); cells = new.cells }

abbrev pub without_chain : Content → ℕ → Content
without_chain c chain = record c { chains = slice_set c.chains chain None; cells = slice_set c.cells chain blank }

-- with other keys and links
abbrev pub with_cells : Content → List Cell → Content
with_cells c cells = record c { cells = cells }

abbrev pub reserved : Content → ℕ → ℕ → Option (List ℕ) → Content
reserved c node chain image =
    record c { prepared = with_at c.prepared node (Some (record { chain = chain; image = image })); free = c.free - 1 }

-- An image is prepared in a node where nothing was: in a free one if there was one.
pub record IsReserved (old new : Content) (chain : ℕ) (image : Option (List ℕ)) (node : ℕ) : Type 0 where
  pub room : live old < old.most
  pub number : node ≤ length old.prepared
  pub was_none : prepared_at old node ≡ None
  pub from_free : 0 < old.free → node < length old.prepared
  pub now : new ≡ reserved old node chain image

-- as many nodes are in use as may be; or there may be more, no node is free, and memory ran out
abbrev pub IsRefusedNode : Content → Refusal → Type 0
IsRefusedNode c why = ((why ≡ ShardFull) × (live c ≡ c.most)) ⊎ ((why ≡ OutOfMemory) × (live c < c.most) × (c.free ≡ 0))

abbrev pub linked_as : Content → ℕ → ℕ → Option Prepared → Content
linked_as c node timestamp None = c
linked_as c node timestamp (Some p) = record c {
  chains = slice_set c.chains p.chain (Some (record { timestamp = timestamp; image = p.image } ∷ versions c p.chain));
  prepared = slice_set c.prepared node None;
}

-- what is prepared in the node is the newest version of its chain
abbrev pub linked : Content → ℕ → ℕ → Content
linked c node timestamp = linked_as c node timestamp (prepared_at c node)

abbrev pub given_back : Content → ℕ → Content
given_back c node = record c { prepared = slice_set c.prepared node None; free = c.free + 1 }

-- the newest version at or below the horizon, unless it is a deletion
abbrev pub kept_at : ArenaVersion → Option (List ℕ) → List ArenaVersion
kept_at v None = []
kept_at v (Some image) = v ∷ []

-- what is kept at a horizon: the newest version at or below it, unless it is a deletion, and all later ones
abbrev pub kept_upto : ℕ → List ArenaVersion → List ArenaVersion
kept_upto h [] = []
kept_upto h (v ∷ vs) = (if nat_le v.timestamp h then kept_at v v.image else (v ∷ kept_upto h vs))

-- with no horizon nothing is kept
abbrev pub kept_by : Option ℕ → List ArenaVersion → List ArenaVersion
kept_by None vs = []
kept_by (Some h) vs = kept_upto h vs

-- only these versions of a chain are kept, and the nodes of the others are free
abbrev pub with_kept : Content → ℕ → List ArenaVersion → Content
with_kept c chain vs =
    record c { chains = slice_set c.chains chain (Some vs); free = c.free + (length (versions c chain) - length vs) }

abbrev pub trimmed : Content → ℕ → ℕ → Content
trimmed c chain horizon = with_kept c chain (kept_upto horizon (versions c chain))

abbrev pub cleared : Content → ℕ → Content
cleared c chain = with_kept c chain []

-- with a free node more
abbrev pub with_free_node : Content → Content
with_free_node c = record c { prepared = c.prepared ++ None ∷ []; free = c.free + 1 }

-- there are as many nodes as may be in use; or there may be more, and memory ran out
abbrev pub IsRefusedRoom : Content → Refusal → Type 0
IsRefusedRoom c why =
    ((why ≡ ShardFull) × (length c.prepared ≡ c.most)) ⊎ ((why ≡ OutOfMemory) × (length c.prepared < c.most))

-- there would be more nodes than may be in use; or there may be as many, and memory ran out
abbrev pub AreRefusedNodes : Content → ℕ → Refusal → Type 0
AreRefusedNodes c n why =
    ((why ≡ ShardFull) × (c.most < length c.prepared + n)) ⊎ ((why ≡ OutOfMemory) × (length c.prepared + n ≤ c.most))

-- the version was the newest of its chain, which has the others now; its node is free
pub record IsTakenFrom (old new : Content) (chain : ℕ) (v : ArenaVersion) : Type 0 where
  pub rest : List ArenaVersion
  pub was : versions old chain ≡ v ∷ rest
  pub now : new ≡ with_kept old chain rest

-- a chain that had no version has these, in nodes that were free
abbrev pub with_versions : Content → ℕ → List ArenaVersion → Content
with_versions c chain vs = record c { chains = slice_set c.chains chain (Some vs); free = c.free - length vs }

-- with free numbers of chains after the others
abbrev pub with_free_chains : ℕ → Content → Content
with_free_chains n c =
    record c { chains = c.chains ++ replicate n None; cells = c.cells ++ replicate n blank }

-- with free nodes after the others
abbrev pub with_free_nodes : ℕ → Content → Content
with_free_nodes n c = record c { prepared = c.prepared ++ replicate n None; free = c.free + n }
