-- How a shard keeps its keys: in an index with their chains, whose versions are in an arena, with the nodes in which
-- something is prepared. No public clause cites this module.
use Rattle.std.specs.Prelude.{◌≡◌, ◌⊎◌, ℕ, ◌+◌, ◌<◌, ◌≤◌, ◌==◌, nat_eq, Bool, not, List, [], ◌∷◌, ◌++◌, length, take, drop, map, filter, Option, Some, None, slice_index_or, if◌then◌else◌}
use Rattle.std.specs.List.{AllByRecursion}
use Rattle.span_value.specs.declared.refusal.Refusal.{Refusal}
use Rattle.span_value.specs.declared.refusal.Refusal.TheVariants.{OutOfMemory, ShardFull}
use Rattle.span_arena.specs.Content.{Content, Prepared, versions, prepared_at, prepared_for, IsChain, IsPrepared, IsInOrder, live, linked, given_back, kept_upto}
use Rattle.span_arena.specs.Order.{IsLaterFor}
use Rattle.span_arena.specs.Limits.{most_nodes}
use Rattle.span_arena.specs.declared.version.ArenaVersion.{ArenaVersion}
use Rattle.span_keytree.specs.Arenas.{IsArenaOf, HasSameChains}
use Rattle.span_keyindex.specs.Indexes.{IsIndexOf}
use Rattle.span_keyindex.specs.declared.index.KeyIndex.{KeyIndex}
use Rattle.span_keytree.specs.Entries.{KeyEntry}
use Rattle.span_keytree.specs.Items.{holders}
use Rattle.span_store.specs.declared.chain.Version.{Version}
use Rattle.span_store.specs.declared.chain.PreparedWrite.{PreparedWrite}
use Rattle.span_store.specs.declared.node.PreparedNode.{PreparedNode}
use Rattle.span_store.specs.KeyVersions.{KeyVersions}
use Rattle.span_store.specs.Versions.{applied_to_key, IsLaterWrite}

-- a version of the arena
abbrev pub version_of : ArenaVersion → Version
version_of v = record { timestamp = v.timestamp; row = v.image }

-- the versions of a chain
abbrev pub chain_versions : Content → ℕ → List Version
chain_versions a c = map version_of (versions a c)

-- the node is for this chain
abbrev pub is_for : ℕ → PreparedNode → Bool
is_for c p = nat_eq p.chain.number c

abbrev pub image_of : Option Prepared → Option (List ℕ)
image_of None = None
image_of (Some p) = p.image

abbrev pub write_of : Content → PreparedNode → PreparedWrite
write_of a p = record { txn = p.txn; row = image_of (prepared_at a p.node.number) }

-- what is prepared for a chain
abbrev pub write_for : Content → List PreparedNode → ℕ → Option PreparedWrite
write_for a [] c = None
write_for a (p ∷ ps) c = (if is_for c p then Some (write_of a p) else write_for a ps c)

-- a key with a chain
abbrev pub kept : Content → List PreparedNode → List ℕ → ℕ → KeyVersions
kept a ps key c = record { key = key; versions = chain_versions a c; prepared = write_for a ps c }

abbrev pub kept_entry : Content → List PreparedNode → KeyEntry → KeyVersions
kept_entry a ps e = kept a ps e.key e.chain.number

-- all keys
abbrev pub all_kept : Content → List PreparedNode → List KeyEntry → List KeyVersions
all_kept a ps es = map (kept_entry a ps) es

-- how many nodes are prepared for a chain
abbrev pub count_for : ℕ → List PreparedNode → ℕ
count_for c [] = 0
count_for c (p ∷ ps) = (if is_for c p then 1 else 0) + count_for c ps

-- something is prepared in the node, for this chain
pub record IsNodeOf (a : Content) (p : PreparedNode) : Type 0 where
  pub image : Option (List ℕ)
  pub prepared : prepared_at a p.node.number ≡ Some (record { chain = p.chain.number; image = image })
  pub is_chain : IsChain a p.chain.number

-- these are the arena's prepared nodes, at most one for a chain
pub record AreOwned (a : Content) (ps : List PreparedNode) : Type 0 where
  pub nodes : AllByRecursion (IsNodeOf a) ps
  pub counted : (c : ℕ) → prepared_for c a.prepared ≡ count_for c ps
  pub once : (c : ℕ) → count_for c ps ≤ 1

-- the chains are those of the keys, and the prepared nodes these
pub record IsStored (es : List KeyEntry) (a : Content) (ps : List PreparedNode) : Type 0 where
  pub own : IsArenaOf es a
  pub owned : AreOwned a ps
  pub most : a.most ≡ most_nodes

-- the index is the arena's, and the prepared nodes are these
pub record IsKept (i : KeyIndex) (a : Content) (ps : List PreparedNode) : Type 0 where
  pub index : IsIndexOf i a
  pub owned : AreOwned a ps
  pub most : a.most ≡ most_nodes

-- ---- prepare

-- the node there is for this chain
pub record IsPlaceFor (c : ℕ) (ps : List PreparedNode) (i : ℕ) : Type 0 where
  pub in_range : i < length ps
  pub is_for : (d : PreparedNode) → (slice_index_or ps i d).chain.number ≡ c

-- a write is prepared for a chain, and all else is as it was
pub record HasPrepared (a b : Content) (ps qs : List PreparedNode) (c : ℕ) (write : PreparedWrite) : Type 0 where
  pub owned : AreOwned b qs
  pub most : b.most ≡ a.most
  pub chains : b.chains ≡ a.chains
  pub cells : b.cells ≡ a.cells
  pub writes : (d : ℕ) → write_for b qs d ≡ (if nat_eq c d then Some write else write_for a ps d)

-- out of memory; or nothing is prepared for the chain, and as many nodes are in use as may be
abbrev pub IsRefusedFor : Content → ℕ → Refusal → Type 0
IsRefusedFor a c why =
    (why ≡ OutOfMemory) ⊎ ((why ≡ ShardFull) × (prepared_for c a.prepared ≡ 0) × IsInOrder a × (live a ≡ a.most))

-- ---- apply

-- what is prepared in the node is a version, or given back
abbrev pub ended : Content → ℕ → Option ℕ → Content
ended a node None = given_back a node
ended a node (Some timestamp) = linked a node timestamp

-- what is prepared in the node may be ended so: a version is later than those of its chain
abbrev pub IsEndable : Content → ℕ → Option ℕ → Type 0
IsEndable a node None = IsPrepared a node
IsEndable a node (Some timestamp) = IsLaterFor a node timestamp

abbrev pub IsLaterEnd : ℕ → Option ℕ → List Version → Option PreparedWrite → Type 0
IsLaterEnd txn None vs write = Unit {0}
IsLaterEnd txn (Some timestamp) vs write = IsLaterWrite txn timestamp vs write

-- the commit timestamp, where there is one, is later than the versions of every chain for which the transaction has a
-- node
abbrev pub AreLaterEnds : ℕ → Option ℕ → Content → List PreparedNode → Type 0
AreLaterEnds txn committed a ps = (c : ℕ) → IsLaterEnd txn committed (chain_versions a c) (write_for a ps c)

-- the node is of another transaction
abbrev pub is_other : ℕ → PreparedNode → Bool
is_other txn p = not (p.txn == txn)

-- after the first i nodes were ended, where they are of the transaction
abbrev pub remaining_nodes : ℕ → ℕ → List PreparedNode → List PreparedNode
remaining_nodes txn i ps = filter (is_other txn) (take i ps) ++ drop i ps

-- some of the transaction's nodes were ended: with the others ended too each key is what it is to be
pub record HasEnded (txn : ℕ) (committed : Option ℕ) (a b : Content) (ps qs : List PreparedNode) : Type 0 where
  pub owned : AreOwned b qs
  pub most : b.most ≡ a.most
  pub same : HasSameChains a b
  pub cells : b.cells ≡ a.cells
  pub keys : (key : List ℕ) (c : ℕ)
      → applied_to_key txn committed (kept b qs key c) ≡ applied_to_key txn committed (kept a ps key c)

-- ---- trim

-- Some of the chains were trimmed; those that were not are as they were. With the others trimmed too each chain is what
-- it is to be.
pub record HasTrimmed (h : ℕ) (a b : Content) : Type 0 where
  pub same : HasSameChains a b
  pub cells : b.cells ≡ a.cells
  pub most : b.most ≡ a.most
  pub prepared : b.prepared ≡ a.prepared
  pub chains : (c : ℕ) → kept_upto h (versions b c) ≡ kept_upto h (versions a c)

-- the chain is trimmed
abbrev pub IsTrimmed : ℕ → Content → Content → KeyEntry → Type 0
IsTrimmed h a b e = versions b e.chain.number ≡ kept_upto h (versions a e.chain.number)

-- some keys' chains are trimmed, and these are left
pub record AreTrimmed (h : ℕ) (es left : List KeyEntry) (a b : Content) : Type 0 where
  pub done : List KeyEntry
  pub whole : done ++ left ≡ es
  pub each : AllByRecursion (IsTrimmed h a b) done
  pub so_far : HasTrimmed h a b

-- ---- split

-- how many versions the keys have
abbrev pub versions_count : Content → List KeyEntry → ℕ
versions_count a [] = 0
versions_count a (e ∷ es) = length (versions a e.chain.number) + versions_count a es

-- there are free nodes more, and all else is as it was
pub record AreReserved (n : ℕ) (a b : Content) : Type 0 where
  pub chains : b.chains ≡ a.chains
  pub cells : b.cells ≡ a.cells
  pub most : b.most ≡ a.most
  pub free : b.free ≡ a.free + n
  pub prepared : (c : ℕ) → prepared_for c b.prepared ≡ prepared_for c a.prepared

-- the keys of the one have the versions of those of the other, each of its own
abbrev pub HaveVersions : Content → Content → List KeyEntry → List KeyEntry → Type 0
HaveVersions a d [] [] = Unit {0}
HaveVersions a d [] (f ∷ fs) = ⊥
HaveVersions a d (e ∷ es) [] = ⊥
HaveVersions a d (e ∷ es) (f ∷ fs) = (versions d f.chain.number ≡ versions a e.chain.number) × HaveVersions a d es fs

-- other versions, and all else is as it was
pub record HasSameKeys (a b : Content) : Type 0 where
  pub same : HasSameChains a b
  pub cells : b.cells ≡ a.cells
  pub most : b.most ≡ a.most
  pub prepared : b.prepared ≡ a.prepared

-- all versions of the keys es of a are those of the keys fs of d now: b is a without them, and d is c with them
pub record AreMoved (es fs : List KeyEntry) (a b c d : Content) : Type 0 where
  pub from : HasSameKeys a b
  pub gone : AllByRecursion (λ (e : KeyEntry). versions b e.chain.number ≡ []) es
  pub stay : (x : ℕ) → holders x es ≡ 0 → versions b x ≡ versions a x
  pub to : HasSameKeys c d
  pub there : HaveVersions a d es fs
