-- Trees as values, and how cells hold one.
use Rattle.std.specs.Prelude.{◌≡◌, ℕ, zero, suc, ◌+◌, List, Option, Some, None, Bool, true, false, nat_eq, max, if◌then◌else◌}
use Rattle.std.specs.declared.cmp.Ordering.{Ordering}
use Rattle.std.specs.declared.cmp.Ordering.TheVariants.{Less, Equal, Greater}
use Rattle.span_keycode.specs.Order.{byte_order}
use Rattle.span_arena.specs.declared.cell.Cell.{Cell}
use Rattle.span_arena.specs.declared.cell.Balance.{Balance}
use Rattle.span_arena.specs.declared.cell.Balance.TheVariants.{LeftHigh, Even, RightHigh}

-- left part, number of the cell, key, which side is higher, right part
pub data Tree : Type 0 where
  Leaf : Tree
  Fork : (left : Tree) → (cell : ℕ) → (key : List ℕ) → (balance : Balance) → (right : Tree) → Tree

abbrev pub root_of : Tree → Option ℕ
root_of Leaf = None
root_of (Fork l n k b r) = Some n

-- the cell that holds the root of such a tree
abbrev pub cell_of : Tree → List ℕ → Balance → Tree → Cell
cell_of l k b r = record { key = k; links = record { left = root_of l; right = root_of r; balance = b } }

-- each cell of the tree is as the tree says
abbrev pub IsInCells : (ℕ → Cell) → Tree → Type 0
IsInCells f Leaf = Unit {0}
IsInCells f (Fork l n k b r) = (f n ≡ cell_of l k b r) × IsInCells f l × IsInCells f r

abbrev pub one_at : ℕ → ℕ → ℕ
one_at i n = (if nat_eq n i then 1 else 0)

-- how often a cell is in the tree
abbrev pub count : ℕ → Tree → ℕ
count i Leaf = 0
count i (Fork l n k b r) = one_at i n + (count i l + count i r)

-- the most cells on a path from the root
abbrev pub height : Tree → ℕ
height Leaf = 0
height (Fork l n k b r) = suc (max (height l) (height r))

abbrev pub size : Tree → ℕ
size Leaf = 0
size (Fork l n k b r) = suc (size l + size r)

abbrev pub IsBalance : Balance → ℕ → ℕ → Type 0
IsBalance LeftHigh l r = l ≡ suc r
IsBalance Even l r = l ≡ r
IsBalance RightHigh l r = r ≡ suc l

-- the heights of the parts of each cell differ by at most one, and as it says
abbrev pub IsAvl : Tree → Type 0
IsAvl Leaf = Unit {0}
IsAvl (Fork l n k b r) = IsBalance b (height l) (height r) × IsAvl l × IsAvl r

-- the tree below a link, of at most this number of levels
abbrev pub shape : (ℕ → Cell) → ℕ → Option ℕ → Tree
shape f zero at = Leaf
shape f (suc n) None = Leaf
shape f (suc n) (Some i) =
    Fork (shape f n (f i).links.left) i (f i).key (f i).links.balance (shape f n (f i).links.right)

-- ---- a key more

pub record Grown : Type 0 where
  pub tree : Tree
  pub grew : Bool

-- the left part is two levels higher than the right one
abbrev pub after_left : Balance → Balance
after_left LeftHigh = Even
after_left Even = Even
after_left RightHigh = LeftHigh

abbrev pub after_right : Balance → Balance
after_right LeftHigh = RightHigh
after_right Even = Even
after_right RightHigh = Even

abbrev pub lifted_inner : Tree → ℕ → List ℕ → Tree → ℕ → List ℕ → Tree → Tree
lifted_inner ll m mk Leaf n k r = Fork (Fork ll m mk RightHigh Leaf) n k LeftHigh r
lifted_inner ll m mk (Fork a p pk pb b) n k r =
    Fork (Fork ll m mk (after_left pb) a) p pk Even (Fork b n k (after_right pb) r)

abbrev pub lifted_by : Balance → Tree → ℕ → List ℕ → Tree → ℕ → List ℕ → Tree → Tree
lifted_by LeftHigh ll m mk lr n k r = Fork ll m mk Even (Fork lr n k Even r)
lifted_by Even ll m mk lr n k r = Fork (Fork ll m mk Even lr) n k LeftHigh r
lifted_by RightHigh ll m mk lr n k r = lifted_inner ll m mk lr n k r

abbrev pub turned_right : Tree → ℕ → List ℕ → Tree → Tree
turned_right Leaf n k r = Fork Leaf n k LeftHigh r
turned_right (Fork ll m mk mb lr) n k r = lifted_by mb ll m mk lr n k r

abbrev pub higher_left : Tree → ℕ → List ℕ → Balance → Tree → Grown
higher_left l n k LeftHigh r = record { tree = turned_right l n k r; grew = false }
higher_left l n k Even r = record { tree = Fork l n k LeftHigh r; grew = true }
higher_left l n k RightHigh r = record { tree = Fork l n k Even r; grew = false }

abbrev pub joined_left : Bool → Tree → ℕ → List ℕ → Balance → Tree → Grown
joined_left false l n k b r = record { tree = Fork l n k b r; grew = false }
joined_left true l n k b r = higher_left l n k b r

abbrev pub sunk_inner : Tree → ℕ → List ℕ → Tree → ℕ → List ℕ → Tree → Tree
sunk_inner l n k Leaf m mk rr = Fork l n k RightHigh (Fork Leaf m mk LeftHigh rr)
sunk_inner l n k (Fork a p pk pb b) m mk rr =
    Fork (Fork l n k (after_left pb) a) p pk Even (Fork b m mk (after_right pb) rr)

abbrev pub sunk_by : Balance → Tree → ℕ → List ℕ → Tree → ℕ → List ℕ → Tree → Tree
sunk_by RightHigh l n k rl m mk rr = Fork (Fork l n k Even rl) m mk Even rr
sunk_by Even l n k rl m mk rr = Fork l n k RightHigh (Fork rl m mk Even rr)
sunk_by LeftHigh l n k rl m mk rr = sunk_inner l n k rl m mk rr

abbrev pub turned_left : Tree → ℕ → List ℕ → Tree → Tree
turned_left l n k Leaf = Fork l n k RightHigh Leaf
turned_left l n k (Fork rl m mk mb rr) = sunk_by mb l n k rl m mk rr

abbrev pub higher_right : Tree → ℕ → List ℕ → Balance → Tree → Grown
higher_right l n k RightHigh r = record { tree = turned_left l n k r; grew = false }
higher_right l n k Even r = record { tree = Fork l n k RightHigh r; grew = true }
higher_right l n k LeftHigh r = record { tree = Fork l n k Even r; grew = false }

abbrev pub joined_right : Bool → Tree → ℕ → List ℕ → Balance → Tree → Grown
joined_right false l n k b r = record { tree = Fork l n k b r; grew = false }
joined_right true l n k b r = higher_right l n k b r

-- a new cell in its place among those of the parts
abbrev pub placed : Ordering → Grown → Grown → Tree → ℕ → List ℕ → Balance → Tree → Grown
placed Less x y l n k b r = joined_left x.grew x.tree n k b r
placed Equal x y l n k b r = record { tree = Fork l n k b r; grew = false }
placed Greater x y l n k b r = joined_right y.grew l n k b y.tree

abbrev pub inserted : ℕ → List ℕ → Tree → Grown
inserted new key Leaf = record { tree = Fork Leaf new key Even Leaf; grew = true }
inserted new key (Fork l n k b r) = placed (byte_order key k) (inserted new key l) (inserted new key r) l n k b r

abbrev pub by_side : Ordering → Option ℕ → ℕ → Option ℕ → Option ℕ
by_side Less x n y = x
by_side Equal x n y = Some n
by_side Greater x n y = y

-- the cell of a key
abbrev pub search_in : List ℕ → Tree → Option ℕ
search_in key Leaf = None
search_in key (Fork l n k b r) = by_side (byte_order key k) (search_in key l) n (search_in key r)
