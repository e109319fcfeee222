-- The cells of a tree are those of chains.
use Rattle.std.proofs.Common.{◌≡◌, ℕ, ◌<◌, ◌≤◌, List, refl, arith, get_or, Option, Some, None}
use Rattle.span_arena.specs.declared.version.ArenaVersion.{ArenaVersion}
use Rattle.span_arena.specs.Content.{Content, IsChain}
use Rattle.span_keytree.specs.declared.tree.TreeRoot.{TreeRoot}
use Rattle.span_keytree.specs.Arenas.{one_if_chain, IsArenaOf}
use Rattle.span_keytree.specs.Entries.{KeyEntry}
use Rattle.span_keytree.specs.Items.{holders}
use Rattle.span_keytree.specs.Puts.{AreChains}
use Rattle.span_keytree.specs.Roots.{tree_of, entries_at}
use Rattle.span_keytree.proofs.Linking.{held_items}

pub is_some_chain : (o : Option (List ArenaVersion)) → 1 ≤ one_if_chain o → (vs : List ArenaVersion) × (o ≡ Some vs)
is_some_chain None h = absurd (omega arith)
is_some_chain (Some vs) h = (vs, refl)

-- a number that a key has is that of a chain
pub held_chain : (es : List KeyEntry) (a : Content) (c : ℕ) → IsArenaOf es a → 0 < holders c es → IsChain a c
held_chain es a c own some = is_some_chain (get_or a.chains c None) (omega (arith, own.each c))

-- the cells of the tree are those of chains
pub tree_chains : (a : Content) (index : TreeRoot) → IsArenaOf (entries_at a.cells index) a → AreChains a (tree_of a.cells index)
tree_chains a index own j some = held_chain (entries_at a.cells index) a j own (omega (arith, held_items j (tree_of a.cells index)))
