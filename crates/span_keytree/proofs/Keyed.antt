-- The cells of a tree have the keys of its entries.
use Rattle.std.proofs.Common.{◌≡◌, List, ◌∷◌, ap}
use Rattle.std.specs.List.{AllByRecursion}
use Rattle.span_value.proofs.Lists.{all_append}
use Rattle.span_arena.specs.declared.cell.Cell.{Cell}
use Rattle.span_keytree.specs.Trees.{Tree, Leaf, Fork, IsInCells}
use Rattle.span_arena.specs.Cells.{cell_at}
use Rattle.span_keytree.specs.Items.{entry, items}
use Rattle.span_keytree.specs.Entries.{KeyEntry}

pub keys_in_cells : (cs : List Cell) (t : Tree) → IsInCells (cell_at cs) t → AllByRecursion (λ (e : KeyEntry). (cell_at cs e.chain.number).key ≡ e.key) (items t)
keys_in_cells cs Leaf in_cells = tt
keys_in_cells cs (Fork l n k b r) in_cells =
    all_append (λ (e : KeyEntry). (cell_at cs e.chain.number).key ≡ e.key) (items l) (entry k n ∷ items r) (keys_in_cells cs l in_cells.1) (ap (λ (c : Cell). c.key) in_cells.0, keys_in_cells cs r in_cells.2)
