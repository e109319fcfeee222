-- Cells that follow each other by their links, made into a balanced tree.
use Rattle.std.specs.Prelude.{◌≡◌, ℕ, zero, suc, ◌*◌, ◌^◌, ◌<◌, ◌≤◌, List, length, Option, Some, None, nat_lt, if◌then◌else◌}
use Rattle.span_arena.specs.declared.cell.Cell.{Cell}
use Rattle.span_arena.specs.declared.cell.Balance.{Balance}
use Rattle.span_arena.specs.declared.cell.Balance.TheVariants.{Even, RightHigh}
use Rattle.span_keyindex.specs.declared.build.Built.{Built}
use Rattle.span_keytree.specs.Trees.{IsAvl, height}
use Rattle.span_arena.specs.Cells.{cell_at}
use Rattle.span_keytree.specs.Puts.{tree_at, IsTree}
use Rattle.span_keytree.specs.Items.{items, holders}
use Rattle.span_keytree.specs.Entries.{KeyEntry}
use Rattle.span_keytree.specs.Nexts.{Nexts, next_of}
use Rattle.span_keywalk.specs.Walks.{walked_in}

-- the link after n cells
abbrev pub after_cells : (ℕ → Option ℕ) → ℕ → Option ℕ → Option ℕ
after_cells g zero at = at
after_cells g (suc n) None = None
after_cells g (suc n) (Some i) = after_cells g n (g i)

-- the entries of n cells
abbrev pub run_of : List Cell → Nexts → ℕ → Option ℕ → List KeyEntry
run_of cs ns n at = walked_in cs ns n at None

-- there are n cells, each of them once, and in range
pub record IsRun (cs : List Cell) (ns : Nexts) (n : ℕ) (at : Option ℕ) : Type 0 where
  pub full : length (run_of cs ns n at) ≡ n
  pub once : (i : ℕ) → holders i (run_of cs ns n at) ≤ 1
  pub within : (i : ℕ) → 0 < holders i (run_of cs ns n at) → i < length cs
  pub places : length ns.next ≡ length cs

-- how many binary digits a number has
pub record IsDigits (levels n : ℕ) : Type 0 where
  pub above : n < 2 ^ levels
  pub most : 0 < n → 2 ^ levels ≤ 2 * n
  pub none : n ≡ 0 → levels ≡ 0
  pub few : levels ≤ n

-- the right part is as high as the left one, or one level higher
abbrev pub balance_of : ℕ → ℕ → Balance
balance_of left right = (if nat_lt left right then RightHigh else Even)

-- the entries of n cells are a balanced tree now; keys and other cells are as they were
pub record IsBuilt (old new : List Cell) (ns : Nexts) (n : ℕ) (at : Option ℕ) (b : Built) : Type 0 where
  pub tree : IsTree new b.root (tree_at new b.levels b.root)
  pub avl : IsAvl (tree_at new b.levels b.root)
  pub tall : height (tree_at new b.levels b.root) ≡ b.levels
  pub entries : items (tree_at new b.levels b.root) ≡ run_of old ns n at
  pub after : b.rest ≡ after_cells (next_of ns) n at
  pub digits : IsDigits b.levels n
  pub keys : (i : ℕ) → (cell_at new i).key ≡ (cell_at old i).key
  pub others : (i : ℕ) → holders i (run_of old ns n at) ≡ 0 → cell_at new i ≡ cell_at old i
  pub same_length : length new ≡ length old
