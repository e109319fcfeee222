-- A balanced tree of cells from its root, whose keys rise, with links from each cell to the next.
use Rattle.std.specs.Prelude.{◌≡◌, ◌⊎◌, ℕ, ◌+◌, ◌*◌, ◌≤◌, List, length, None}
use Rattle.span_arena.specs.declared.cell.Cell.{Cell}
use Rattle.span_arena.specs.Content.{Content, IsNewChain}
use Rattle.span_keytree.specs.declared.tree.TreeRoot.{TreeRoot}
use Rattle.span_keytree.specs.Trees.{Tree, IsAvl, height}
use Rattle.span_arena.specs.Counts.{Count}
use Rattle.span_keytree.specs.Puts.{tree_at, IsTree}
use Rattle.span_keytree.specs.Entries.{IsAbsent, with_entry, KeyEntry}
use Rattle.span_keytree.specs.Items.{entry, items, AreRising, HasCell}
use Rattle.span_keytree.specs.Nexts.{Nexts, next_of, IsLinked, last_cell}

abbrev pub tree_of : List Cell → TreeRoot → Tree
tree_of cs index = tree_at cs index.levels index.root

-- the keys in order, each with its cell
abbrev pub entries_at : List Cell → TreeRoot → List KeyEntry
entries_at cs index = items (tree_of cs index)

-- the index is a balanced tree of these cells, whose keys rise
pub record IsSearchTree (cs : List Cell) (index : TreeRoot) : Type 0 where
  pub tree : IsTree cs index.root (tree_of cs index)
  pub avl : IsAvl (tree_of cs index)
  pub tall : height (tree_of cs index) ≡ index.levels
  pub rising : AreRising (entries_at cs index)

-- and these are the links from each cell to the next, and this the last one
pub record IsIndex (cs : List Cell) (ns : Nexts) (index : TreeRoot) : Type 0 where
  pub search : IsSearchTree cs index
  pub linked : IsLinked (next_of ns) ns.first (entries_at cs index)
  pub places : length ns.next ≡ length cs
  pub last : index.last ≡ last_cell None (entries_at cs index)

-- the key has the chain of this number, and nothing changed
pub record IsSame (old new : Content) (ns ms : Nexts) (before after : TreeRoot) (key : List ℕ) (cell : ℕ) : Type 0 where
  pub here : HasCell (entries_at old.cells before) key cell
  pub arena : new ≡ old
  pub nexts : ms ≡ ns
  pub index : after ≡ before

-- it was not there, and is now, with a new chain
pub record IsMore (old new : Content) (before after : TreeRoot) (key : List ℕ) (cell : ℕ) : Type 0 where
  pub absent : IsAbsent (entries_at old.cells before) key
  pub fresh : IsNewChain old new cell
  pub now : entries_at new.cells after ≡ with_entry (entries_at old.cells before) (entry key cell)

abbrev pub IsSlot : Content → Content → Nexts → Nexts → TreeRoot → TreeRoot → List ℕ → ℕ → Type 0
IsSlot old new ns ms before after key cell =
    IsSame old new ns ms before after key cell ⊎ IsMore old new before after key cell

-- where there are fewer than 2 ^ d keys
pub record IsSlotCost (d : ℕ) (old new : Count) : Type 0 where
  pub compared : new.compared ≤ old.compared + 2 * d
  pub all : new.compared + new.written ≤ old.compared + old.written + (6 * d + 8)

-- the same of a search
pub record IsSearchCost (d : ℕ) (old new : Count) : Type 0 where
  pub compared : new.compared ≤ old.compared + 2 * d
  pub written : new.written ≡ old.written

-- of two searches, as for the first key of a walk and then for its end
pub record AreTwoSearches (d : ℕ) (old new : Count) : Type 0 where
  pub between : Count
  pub first : IsSearchCost d old between
  pub second : IsSearchCost d between new
