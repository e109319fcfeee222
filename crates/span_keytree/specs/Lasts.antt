-- A key after all those of a tree.
use Rattle.std.specs.Prelude.{◌≡◌, ◌⊎◌, ℕ, ◌+◌, ◌<◌, ◌≤◌, List, length, Option, Some, None, Bool, true, false}
use Rattle.std.specs.Ordering.{is_gt}
use Rattle.std.specs.declared.cmp.Ordering.TheVariants.{Greater}
use Rattle.span_keycode.specs.Order.{byte_order}
use Rattle.span_arena.specs.declared.cell.Cell.{Cell}
use Rattle.span_arena.specs.declared.cell.Balance.{Balance}
use Rattle.span_arena.specs.declared.cell.Balance.TheVariants.{LeftHigh, Even, RightHigh}
use Rattle.span_arena.specs.Cells.{cell_at, new_cell}
use Rattle.span_arena.specs.Counts.{Count}
use Rattle.span_keytree.specs.declared.join.GrownPart.{GrownPart}
use Rattle.span_keytree.specs.Trees.{Tree, Leaf, Fork, height}

-- the key is above those of the cells along the right links
abbrev pub IsAboveRight : List ℕ → Tree → Type 0
IsAboveRight key Leaf = Unit {0}
IsAboveRight key (Fork l n k b r) = (byte_order key k ≡ Greater) × IsAboveRight key r

-- the key is above that of a cell, if there is one
abbrev pub is_after : List Cell → Option ℕ → List ℕ → Bool
is_after cs None key = true
is_after cs (Some i) key = is_gt (byte_order key (cell_at cs i).key)

-- a new cell, not joined to others
pub record IsNewPart (cs : List Cell) (part : GrownPart) : Type 0 where
  pub alone : cell_at cs part.cell ≡ new_cell (cell_at cs part.cell).key
  pub here : part.cell < length cs
  pub root : part.root ≡ part.cell
  pub grew : part.grew ≡ true

-- ---- where a new cell changes the tree

abbrev pub stop_by : Balance → Option ℕ → Option ℕ → Option ℕ
stop_by LeftHigh stop above = above
stop_by Even stop above = stop
stop_by RightHigh stop above = above

-- along the right links, the cell above the last one whose parts differ in height
abbrev pub stop_in : Option ℕ → Option ℕ → Tree → Option ℕ
stop_in stop above Leaf = stop
stop_in stop above (Fork l n k b r) = stop_in (stop_by b stop above) (Some n) r

-- a tree is another, or on its right side
abbrev pub IsRight : Tree → Tree → Type 0
IsRight s Leaf = Leaf ≡ s
IsRight s (Fork l n k b r) = (Fork l n k b r ≡ s) ⊎ IsRight s r

abbrev pub IsUnevenBy : Balance → Type 0
IsUnevenBy LeftHigh = Unit {0}
IsUnevenBy Even = ⊥
IsUnevenBy RightHigh = Unit {0}

-- the parts of the first cell differ in height
abbrev pub IsUneven : Tree → Type 0
IsUneven Leaf = ⊥
IsUneven (Fork l n k b r) = IsUnevenBy b

-- the cell is on the right side of the tree, and above a part that takes up one level more
pub record IsStop (p : ℕ) (t : Tree) : Type 0 where
  pub left : Tree
  pub key : List ℕ
  pub balance : Balance
  pub right : Tree
  pub there : IsRight (Fork left p key balance right) t
  pub uneven : IsUneven right

-- a part that begins with this cell, if one is given
abbrev pub with_root : Option ℕ → GrownPart → GrownPart
with_root None part = part
with_root (Some root) part = record { cell = part.cell; root = root; grew = part.grew }

-- ---- what it costs

abbrev pub one_if_some : Option ℕ → ℕ
one_if_some None = 0
one_if_some (Some i) = 1

-- one key is compared where there is a cell
pub record IsAfterCost (last : Option ℕ) (old new : Count) : Type 0 where
  pub compared : new.compared ≡ old.compared + one_if_some last
  pub written : new.written ≡ old.written

abbrev pub turns_by : Bool → ℕ
turns_by true = 0
turns_by false = 2

-- no key is compared, and as many entries written as the tree has levels, and up to two
pub record IsHangCost (t : Tree) (part : GrownPart) (old new : Count) : Type 0 where
  pub compared : new.compared ≡ old.compared
  pub written : new.written ≤ old.written + (height t + turns_by part.grew)

-- at most this number of keys compared, and as many entries written as the tree has levels, and up to four
pub record IsTreeCost (most : ℕ) (t : Tree) (old new : Count) : Type 0 where
  pub compared : new.compared ≤ old.compared + most
  pub written : new.written ≤ old.written + (height t + 4)
