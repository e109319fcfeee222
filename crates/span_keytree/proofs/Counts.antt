-- Which cells a tree has after a key more.
use Rattle.std.proofs.Common.{◌≡◌, ℕ, ◌+◌, List, refl, arith, true, false, Option, Some, None}
use Rattle.std.specs.Prelude.{Bool}
use Rattle.std.specs.declared.cmp.Ordering.{Ordering}
use Rattle.std.specs.declared.cmp.Ordering.TheVariants.{Less, Equal, Greater}
use Rattle.span_keycode.specs.Order.{byte_order}
use Rattle.span_arena.specs.declared.cell.Balance.{Balance}
use Rattle.span_arena.specs.declared.cell.Balance.TheVariants.{LeftHigh, Even, RightHigh}
use Rattle.span_keytree.specs.Trees.{Tree, Leaf, Fork, Grown, count, one_at, turned_right, turned_left, joined_left, joined_right, placed, inserted, by_side, search_in}

count_turned_right : (i : ℕ) (l : Tree) (n : ℕ) (k : List ℕ) (r : Tree) → count i (turned_right l n k r) ≡ one_at i n + (count i l + count i r)
count_turned_right i Leaf n k r = omega arith
count_turned_right i (Fork ll m mk LeftHigh lr) n k r = omega arith
count_turned_right i (Fork ll m mk Even lr) n k r = omega arith
count_turned_right i (Fork ll m mk RightHigh Leaf) n k r = omega arith
count_turned_right i (Fork ll m mk RightHigh (Fork a p pk pb b)) n k r = omega arith

count_turned_left : (i : ℕ) (l : Tree) (n : ℕ) (k : List ℕ) (r : Tree) → count i (turned_left l n k r) ≡ one_at i n + (count i l + count i r)
count_turned_left i l n k Leaf = omega arith
count_turned_left i l n k (Fork rl m mk RightHigh rr) = omega arith
count_turned_left i l n k (Fork rl m mk Even rr) = omega arith
count_turned_left i l n k (Fork Leaf m mk LeftHigh rr) = omega arith
count_turned_left i l n k (Fork (Fork a p pk pb b) m mk LeftHigh rr) = omega arith

pub count_joined_left : (i : ℕ) (grew : Bool) (l : Tree) (n : ℕ) (k : List ℕ) (b : Balance) (r : Tree) → count i (joined_left grew l n k b r).tree ≡ one_at i n + (count i l + count i r)
count_joined_left i false l n k b r = refl
count_joined_left i true l n k LeftHigh r = count_turned_right i l n k r
count_joined_left i true l n k Even r = refl
count_joined_left i true l n k RightHigh r = refl

pub count_joined_right : (i : ℕ) (grew : Bool) (l : Tree) (n : ℕ) (k : List ℕ) (b : Balance) (r : Tree) → count i (joined_right grew l n k b r).tree ≡ one_at i n + (count i l + count i r)
count_joined_right i false l n k b r = refl
count_joined_right i true l n k LeftHigh r = refl
count_joined_right i true l n k Even r = refl
count_joined_right i true l n k RightHigh r = count_turned_left i l n k r

count_placed : (o : Ordering) (i new : ℕ) (x y : Grown) (l : Tree) (n : ℕ) (k : List ℕ) (b : Balance) (r : Tree) (u v : Option ℕ)
    → (u ≡ None → count i x.tree ≡ one_at i new + count i l) → (v ≡ None → count i y.tree ≡ one_at i new + count i r) → by_side o u n v ≡ None
    → count i (placed o x y l n k b r).tree ≡ one_at i new + (one_at i n + (count i l + count i r))
count_placed Less i new x y l n k b r u v left right none = omega (arith, left none, count_joined_left i x.grew x.tree n k b r)
count_placed Equal i new x y l n k b r u v left right none = absurd (let e : Some n ≡ None = none in cc)
count_placed Greater i new x y l n k b r u v left right none = omega (arith, right none, count_joined_right i y.grew l n k b y.tree)

-- one cell more
pub count_inserted : (i new : ℕ) (key : List ℕ) (t : Tree) → search_in key t ≡ None → count i (inserted new key t).tree ≡ one_at i new + count i t
count_inserted i new key Leaf none = omega arith
count_inserted i new key (Fork l n k b r) none =
    count_placed (byte_order key k) i new (inserted new key l) (inserted new key r) l n k b r (search_in key l) (search_in key r) (count_inserted i new key l) (count_inserted i new key r) none
