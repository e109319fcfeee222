-- An index: its tree and its links with its arena.
use Rattle.std.specs.Prelude.{◌≡◌, List, []}
use Rattle.span_arena.specs.Content.{Content}
use Rattle.span_keytree.specs.Roots.{entries_at, IsIndex}
use Rattle.span_keyindex.specs.declared.index.KeyIndex.{KeyIndex}
use Rattle.span_keytree.specs.Arenas.{IsArenaOf}
use Rattle.span_keytree.specs.Entries.{KeyEntry}

-- the keys in order, each with its chain
abbrev pub entries_of : KeyIndex → Content → List KeyEntry
entries_of i a = entries_at a.cells i.tree

-- the index is a balanced tree of the arena's keys with links from each to the next, and its chains are those of the
-- arena
pub record IsIndexOf (i : KeyIndex) (a : Content) : Type 0 where
  pub index : IsIndex a.cells i.nexts i.tree
  pub own : IsArenaOf (entries_of i a) a

-- the index of an arena with no chain
abbrev pub IsEmptyIndex : KeyIndex → Type 0
IsEmptyIndex i = (a : Content) → a.chains ≡ [] → a.cells ≡ [] → IsIndexOf i a × (entries_of i a ≡ [])
