-- The way down to the place of a key, and the part of a tree that a key more changes.
use Rattle.std.specs.Prelude.{◌≡◌, ℕ, ◌+◌, ◌*◌, ◌<◌, ◌≤◌, List, Some, Bool, true, false, ◌||◌, ◌&&◌}
use Rattle.std.specs.declared.cmp.Ordering.{Ordering}
use Rattle.std.specs.declared.cmp.Ordering.TheVariants.{Less, Equal, Greater}
use Rattle.span_keycode.specs.Order.{byte_order}
use Rattle.span_arena.specs.Counts.{Count}
use Rattle.span_arena.specs.declared.cell.Cell.{Cell}
use Rattle.span_arena.specs.declared.cell.Balance.{Balance}
use Rattle.span_arena.specs.declared.cell.Balance.TheVariants.{LeftHigh, Even, RightHigh}
use Rattle.span_keytree.specs.declared.part.Way.{Way}
use Rattle.span_keytree.specs.declared.tree.TreeRoot.{TreeRoot}
use Rattle.span_keytree.specs.Roots.{tree_of}
use Rattle.span_keytree.specs.Puts.{tree_at}
use Rattle.span_keytree.specs.Trees.{Tree, Leaf, Fork, count}

-- the parts of the cell differ in height
abbrev pub is_uneven : Balance → Bool
is_uneven LeftHigh = true
is_uneven Even = false
is_uneven RightHigh = true

abbrev pub no_way : Way
no_way = record { is_left = false; is_right = false; is_uneven = false }

abbrev pub way_left : Balance → Way → Way
way_left b w = record { is_left = true; is_right = w.is_right; is_uneven = w.is_uneven || is_uneven b }

abbrev pub way_right : Balance → Way → Way
way_right b w = record { is_left = w.is_left; is_right = true; is_uneven = w.is_uneven || is_uneven b }

abbrev pub way_by : Ordering → Balance → Way → Way → Way
way_by Less b x y = way_left b x
way_by Equal b x y = no_way
way_by Greater b x y = way_right b y

-- the way from the root down to the place of a key; none where the key is met
abbrev pub way_in : List ℕ → Tree → Way
way_in key Leaf = no_way
way_in key (Fork l n k b r) = way_by (byte_order key k) b (way_in key l) (way_in key r)

abbrev pub is_part_by : Ordering → Way → Way → Bool
is_part_by Less x y = x.is_right && x.is_uneven
is_part_by Equal x y = false
is_part_by Greater x y = y.is_left && y.is_uneven

-- The way goes to both sides, and below the root it comes to a cell whose parts differ in height. So the key is between two keys of the
-- tree, and the tree with the key has the same root and as many levels.
abbrev pub is_part_for : List ℕ → Tree → Bool
is_part_for key Leaf = false
is_part_for key (Fork l n k b r) = is_part_by (byte_order key k) (way_in key l) (way_in key r)

-- the cell is in the tree, and the part of the tree below it is one for the key
pub record IsPartFor (cs : List Cell) (index : TreeRoot) (key : List ℕ) (cell : ℕ) : Type 0 where
  pub there : 0 < count cell (tree_of cs index)
  pub own : is_part_for key (tree_at cs index.levels (Some cell)) ≡ true

-- what it costs to put a key in near a chain, where there are fewer than 2 ^ d keys
pub record IsNearSlotCost (d : ℕ) (old new : Count) : Type 0 where
  pub compared : new.compared ≤ old.compared + 4 * d
  pub all : new.compared + new.written ≤ old.compared + old.written + (6 * d + 8)
