-- How an arena lays out its nodes and chains. No public clause cites this module.
use Rattle.std.specs.Prelude.{◌≡◌, ℕ, zero, suc, ◌+◌, ◌<◌, ◌≤◌, List, [], ◌∷◌, length, map, Option, Some, None, Bool, true, false, slice_index_or}
use Rattle.span_arena.specs.declared.cell.Cell.{Cell}
use Rattle.span_arena.specs.declared.version.ArenaVersion.{ArenaVersion}
use Rattle.span_arena.specs.declared.record.NodeRecord.{NodeRecord}
use Rattle.span_arena.specs.declared.record.ChainRecord.{ChainRecord}
use Rattle.span_arena.specs.declared.record.ChainRecord.TheVariants as chain
use Rattle.span_arena.specs.declared.record.VersionLinks.{VersionLinks}
use Rattle.span_arena.specs.declared.record.NodeUse.{NodeUse}
use Rattle.span_arena.specs.declared.record.NodeUse.TheVariants.{Free, Reserved, Linked}
use Rattle.span_arena.specs.Images.{image_of}
use Rattle.span_arena.specs.Content.{Content, Prepared, sum_for, one_if, prepared_for, kept_by}

-- what a place after the end is taken to have
abbrev pub blank : NodeRecord
blank = record { used = Free 0; next = 0; has_image = false; timestamp = 0; image = [] }

abbrev pub node_at : List NodeRecord → ℕ → NodeRecord
node_at nodes i = slice_index_or nodes i blank

abbrev pub prepared_of_use : NodeUse → Option (List ℕ) → Option Prepared
prepared_of_use (Free k) image = None
prepared_of_use (Reserved c) image = Some (record { chain = c; image = image })
prepared_of_use (Linked c) image = None

-- the version of a node; where it has no image, nothing is kept of one
abbrev pub version_of : NodeRecord → ArenaVersion
version_of n = record { timestamp = n.timestamp; image = image_of n.has_image n.image }

abbrev pub prepared_of : NodeRecord → Option Prepared
prepared_of n = prepared_of_use n.used (version_of n).image

-- k versions, from node h on
abbrev pub walk : (ℕ → NodeRecord) → ℕ → ℕ → List ArenaVersion
walk f zero h = []
walk f (suc k) h = version_of (f h) ∷ walk f k (f h).next

-- k nodes from h on are linked into chain c, and their ranks fall: so no node is in it twice
abbrev pub IsRun : (ℕ → NodeRecord) → (ℕ → ℕ) → ℕ → ℕ → ℕ → ℕ → Type 0
IsRun f rank c bound zero h = Unit {0}
IsRun f rank c bound (suc k) h = ((f h).used ≡ Linked c) × (rank h < bound) × IsRun f rank c (rank h) k (f h).next

-- k nodes from h on are those of a chain
pub record IsSomeRun (f : ℕ → NodeRecord) (k h : ℕ) : Type 0 where
  pub rank : ℕ → ℕ
  pub chain : ℕ
  pub bound : ℕ
  pub run : IsRun f rank chain bound k h

-- k nodes from h on are free, and each keeps how many there are from it on
abbrev pub IsFreeList : (ℕ → NodeRecord) → ℕ → ℕ → Type 0
IsFreeList f zero h = Unit {0}
IsFreeList f (suc k) h = ((f h).used ≡ Free (suc k)) × IsFreeList f k (f h).next

-- the links of a chain; one that is free has no version and nothing prepared
abbrev pub no_links : VersionLinks
no_links = record { newest = 0; count = 0; prepared = 0 }

abbrev pub links_of : ChainRecord → VersionLinks
links_of (chain.Free next k) = no_links
links_of (chain.Used l) = l

abbrev pub chain_of : (ℕ → NodeRecord) → ChainRecord → Option (List ArenaVersion)
chain_of f (chain.Free next k) = None
chain_of f (chain.Used l) = Some (walk f l.count l.newest)

abbrev pub is_used : ChainRecord → Bool
is_used (chain.Free next k) = false
is_used (chain.Used l) = true

abbrev pub no_record : ChainRecord
no_record = chain.Free 0 0

abbrev pub record_at : List ChainRecord → ℕ → ChainRecord
record_at rs c = slice_index_or rs c no_record

abbrev pub links_at : List ChainRecord → ℕ → VersionLinks
links_at rs c = links_of (record_at rs c)

abbrev pub total : List ChainRecord → ℕ
total [] = 0
total (r ∷ rs) = (links_of r).count + total rs

abbrev pub content : List NodeRecord → List ChainRecord → ℕ → ℕ → List Cell → Content
content nodes rs free_count most cells = record {
  chains = map (chain_of (node_at nodes)) rs;
  cells = cells;
  prepared = map prepared_of nodes;
  free = free_count;
  most = most;
}

-- Each chain has its versions, as many are prepared for it as it says, and each node is in a chain, prepared or in the
-- free list. A node that is linked later has the higher rank; it is kept nowhere.
pub record IsSound (nodes : List NodeRecord) (rs : List ChainRecord) (free free_count most : ℕ) : Type 0 where
  pub rank : ℕ → ℕ
  pub top : ℕ
  pub runs : (c : ℕ) → IsRun (node_at nodes) rank c top (links_at rs c).count (links_at rs c).newest
  pub free_list : IsFreeList (node_at nodes) free_count free
  pub prepared : (c : ℕ) → prepared_for c (map prepared_of nodes) ≡ (links_at rs c).prepared
  pub counted : free_count + (total rs + sum_for one_if (map prepared_of nodes)) ≡ length nodes
  pub bounded : length nodes ≤ most

-- each number of a chain, in use or free, has a cell
abbrev pub AreCellsOf : List ChainRecord → List Cell → Type 0
AreCellsOf rs cells = length cells ≡ length rs

-- k chains from h on are free, and each keeps how many there are from it on
abbrev pub IsSpare : List ChainRecord → ℕ → ℕ → Type 0
IsSpare rs h zero = Unit {0}
IsSpare rs h (suc k) = (next : ℕ) × (record_at rs h ≡ chain.Free next (suc k)) × IsSpare rs next k

abbrev pub one_used : ChainRecord → ℕ
one_used (chain.Free next k) = 0
one_used (chain.Used l) = 1

abbrev pub used_count : List ChainRecord → ℕ
used_count [] = 0
used_count (r ∷ rs) = one_used r + used_count rs

-- the list of free chains has every chain that is not in use
pub record AreSpare (rs : List ChainRecord) (spare spare_count : ℕ) : Type 0 where
  pub list : IsSpare rs spare spare_count
  pub counted : spare_count + used_count rs ≡ length rs

-- k links on from node h
abbrev pub follow : (ℕ → NodeRecord) → ℕ → ℕ → ℕ
follow f zero h = h
follow f (suc k) h = follow f k (f h).next

-- k nodes from h on have a rank of at least low
abbrev pub IsAbove : (ℕ → NodeRecord) → (ℕ → ℕ) → ℕ → ℕ → ℕ → Type 0
IsAbove f rank low zero h = Unit {0}
IsAbove f rank low (suc k) h = (low ≤ rank h) × IsAbove f rank low k (f h).next

-- where a chain is cut
pub record IsCut (f : ℕ → NodeRecord) (h count : ℕ) (horizon : Option ℕ) (kept at : ℕ) : Type 0 where
  pub within : kept ≤ count
  pub here : at ≡ follow f kept h
  pub same : walk f kept h ≡ kept_by horizon (walk f count h)

-- the state while nodes of a chain are freed: `left` nodes from `at` on are in no chain any more
pub record IsTrimming (nodes : List NodeRecord) (rs : List ChainRecord) (free free_count most c left at : ℕ) : Type 0
  where
    pub rank : ℕ → ℕ
    pub top : ℕ
    pub runs : (d : ℕ) → IsRun (node_at nodes) rank d top (links_at rs d).count (links_at rs d).newest
    pub low : ℕ
    pub above : IsAbove (node_at nodes) rank low (links_at rs c).count (links_at rs c).newest
    pub loose : IsRun (node_at nodes) rank c low left at
    pub free_list : IsFreeList (node_at nodes) free_count free
    pub prepared : (d : ℕ) → prepared_for d (map prepared_of nodes) ≡ (links_at rs d).prepared
    pub counted : free_count + (left + (total rs + sum_for one_if (map prepared_of nodes))) ≡ length nodes
    pub bounded : length nodes ≤ most
