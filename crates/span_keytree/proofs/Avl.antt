-- Heights after a key more, and how high a balanced tree can be.
use Rattle.std.proofs.Common.{◌≡◌, ℕ, zero, suc, ◌+◌, ◌*◌, ◌^◌, ◌<◌, ◌≤◌, List, refl, arith, inl, inr, true, false}
use Rattle.std.specs.Prelude.{Bool}
use Rattle.std.specs.declared.cmp.Ordering.{Ordering}
use Rattle.std.specs.declared.cmp.Ordering.TheVariants.{Less, Equal, Greater}
use Rattle.std.proofs.Math.Nat.{pow-suc}
use Rattle.std.proofs.lemmas.Bool.{cases_lt}
use Rattle.span_keycode.specs.Order.{byte_order}
use Rattle.span_arena.specs.declared.cell.Balance.{Balance}
use Rattle.span_arena.specs.declared.cell.Balance.TheVariants.{LeftHigh, Even, RightHigh}
use Rattle.span_keytree.specs.Trees.{Tree, Leaf, Fork, Grown, height, size, IsAvl, IsBalance, turned_right, turned_left, joined_left, joined_right, higher_left, higher_right, placed, inserted}
use Rattle.span_keytree.specs.Avl.{grown_height, IsLeaned, IsGrown}

-- ---- how high a balanced tree can be

-- a tree of 2 * k levels has at least 2 ^ k - 1 cells: both parts of a cell are at most two levels lower
parts_near : (b : Balance) (x y : ℕ) → IsBalance b x y → (x ≤ suc y) × (y ≤ suc x)
parts_near LeftHigh x y e = (omega arith, omega arith)
parts_near Even x y e = (omega arith, omega arith)
parts_near RightHigh x y e = (omega arith, omega arith)

pub many_cells : (t : Tree) (k : ℕ) → IsAvl t → 2 * k ≤ height t → 2 ^ k ≤ size t + 1
many_cells t zero avl tall = omega arith
many_cells Leaf (suc k) avl tall = absurd (omega arith)
many_cells (Fork l n key b r) (suc k) avl tall =
    let near = parts_near b (height l) (height r) avl.0 in
    let hl : 2 * k ≤ height l = omega (arith, near.0, near.1) in
    let hr : 2 * k ≤ height r = omega (arith, near.0, near.1) in
    let p : 2 ^ suc k ≡ 2 ^ k * 2 = pow-suc 2 k in
    omega (arith, p, many_cells l k avl.1 hl, many_cells r k avl.2 hr)

-- one level more takes one cell more
pub more_cells : (t : Tree) (k : ℕ) → IsAvl t → 2 * k < height t → 2 ^ k < size t + 1
more_cells Leaf k avl tall = absurd (omega arith)
more_cells (Fork l n key b r) k avl tall = elim (cases_lt (height l) (2 * k)) [
  | inl low ↦ (let h : 2 * k ≤ height r = omega arith in omega (arith, many_cells r k avl.2 h))
  | inr high ↦ omega (arith, many_cells l k avl.1 high)
]

-- among fewer than 2 ^ d cells there are at most 2 * d levels
pub few_levels : (t : Tree) (d : ℕ) → IsAvl t → size t < 2 ^ d → height t ≤ 2 * d
few_levels t d avl few = elim (cases_lt (2 * d) (height t)) [
  | inl tall ↦ absurd (omega (arith, more_cells t d avl tall))
  | inr low ↦ low
]

-- a tree that has cells has 2 ^ k of them already at 2 * k levels
full_levels : (l : Tree) (n : ℕ) (key : List ℕ) (b : Balance) (r : Tree) (k : ℕ) → IsAvl (Fork l n key b r) → 2 * suc k ≤ height (Fork l n key b r) → 2 ^ suc k ≤ size (Fork l n key b r)
full_levels l n key b r k avl tall =
    let near = parts_near b (height l) (height r) avl.0 in
    let p : 2 ^ suc k ≡ 2 ^ k * 2 = pow-suc 2 k in
    elim (cases_lt (2 * k) (height l)) [
      | inl high ↦ (let hr : 2 * k ≤ height r = omega (arith, near.0, near.1) in omega (arith, p, more_cells l k avl.1 high, many_cells r k avl.2 hr))
      | inr low ↦ (let hl : 2 * k ≤ height l = omega (arith, near.0, near.1) in
          let hr : 2 * k < height r = omega (arith, near.0, near.1) in
          omega (arith, p, many_cells l k avl.1 hl, more_cells r k avl.2 hr))
    ]

-- among fewer than 2 ^ d cells, and at least one, there are fewer than 2 * d levels
pub fewer_levels : (t : Tree) (d : ℕ) → IsAvl t → 0 < size t → size t < 2 ^ d → height t < 2 * d
fewer_levels Leaf d avl some few = absurd (omega arith)
fewer_levels (Fork l n key b r) zero avl some few = absurd (omega arith)
fewer_levels (Fork l n key b r) (suc d) avl some few = elim (cases_lt (height (Fork l n key b r)) (2 * suc d)) [
  | inl low ↦ low
  | inr tall ↦ (let full : 2 ^ suc d ≤ size (Fork l n key b r) = full_levels l n key b r d avl tall in absurd (omega arith))
]

-- ---- a turn

pub turned_right_avl : (l : Tree) (n : ℕ) (k : List ℕ) (r : Tree) → IsAvl l → IsAvl r → height l ≡ suc (suc (height r)) → IsLeaned l → IsAvl (turned_right l n k r) × (height (turned_right l n k r) ≡ suc (suc (height r)))
turned_right_avl Leaf n k r al ar tall leans = absurd leans
turned_right_avl (Fork ll m mk LeftHigh lr) n k r al ar tall leans = (let e = al.0 in ((omega arith, al.1, (omega arith, al.2, ar)), omega arith))
turned_right_avl (Fork ll m mk Even lr) n k r al ar tall leans = (let e = al.0 in absurd (omega (arith, leans)))
turned_right_avl (Fork ll m mk RightHigh Leaf) n k r al ar tall leans = (let e = al.0 in absurd (omega arith))
turned_right_avl (Fork ll m mk RightHigh (Fork a p pk LeftHigh b)) n k r al ar tall leans = (let e = al.0 in let f = al.2.0 in ((omega arith, (omega arith, al.1, al.2.1), (omega arith, al.2.2, ar)), omega arith))
turned_right_avl (Fork ll m mk RightHigh (Fork a p pk Even b)) n k r al ar tall leans = (let e = al.0 in let f = al.2.0 in ((omega arith, (omega arith, al.1, al.2.1), (omega arith, al.2.2, ar)), omega arith))
turned_right_avl (Fork ll m mk RightHigh (Fork a p pk RightHigh b)) n k r al ar tall leans = (let e = al.0 in let f = al.2.0 in ((omega arith, (omega arith, al.1, al.2.1), (omega arith, al.2.2, ar)), omega arith))

pub turned_left_avl : (l : Tree) (n : ℕ) (k : List ℕ) (r : Tree) → IsAvl l → IsAvl r → height r ≡ suc (suc (height l)) → IsLeaned r → IsAvl (turned_left l n k r) × (height (turned_left l n k r) ≡ suc (suc (height l)))
turned_left_avl l n k Leaf al ar tall leans = absurd leans
turned_left_avl l n k (Fork rl m mk RightHigh rr) al ar tall leans = (let e = ar.0 in ((omega arith, (omega arith, al, ar.1), ar.2), omega arith))
turned_left_avl l n k (Fork rl m mk Even rr) al ar tall leans = (let e = ar.0 in absurd (omega (arith, leans)))
turned_left_avl l n k (Fork Leaf m mk LeftHigh rr) al ar tall leans = (let e = ar.0 in absurd (omega arith))
turned_left_avl l n k (Fork (Fork a p pk LeftHigh b) m mk LeftHigh rr) al ar tall leans = (let e = ar.0 in let f = ar.1.0 in ((omega arith, (omega arith, al, ar.1.1), (omega arith, ar.1.2, ar.2)), omega arith))
turned_left_avl l n k (Fork (Fork a p pk Even b) m mk LeftHigh rr) al ar tall leans = (let e = ar.0 in let f = ar.1.0 in ((omega arith, (omega arith, al, ar.1.1), (omega arith, ar.1.2, ar.2)), omega arith))
turned_left_avl l n k (Fork (Fork a p pk RightHigh b) m mk LeftHigh rr) al ar tall leans = (let e = ar.0 in let f = ar.1.0 in ((omega arith, (omega arith, al, ar.1.1), (omega arith, ar.1.2, ar.2)), omega arith))

-- ---- a part that may have grown

higher_left_grown : (l x : Tree) (n : ℕ) (k : List ℕ) (b : Balance) (r : Tree) → IsAvl x → IsAvl r → IsBalance b (height l) (height r) → height x ≡ suc (height l) → IsLeaned x → IsGrown (Fork l n k b r) (higher_left x n k b r)
higher_left_grown l x n k LeftHigh r ax ar e tall leans =
    let t = turned_right_avl x n k r ax ar (omega arith) leans in
    record { avl = t.0; tall = omega (arith, t.1); leans = λ f. absurd (let q : false ≡ true = f in cc) }
higher_left_grown l x n k Even r ax ar e tall leans = record { avl = (omega arith, ax, ar); tall = omega arith; leans = λ f. tt }
higher_left_grown l x n k RightHigh r ax ar e tall leans = record { avl = (omega arith, ax, ar); tall = omega arith; leans = λ f. absurd (let q : false ≡ true = f in cc) }

higher_right_grown : (l : Tree) (n : ℕ) (k : List ℕ) (b : Balance) (r x : Tree) → IsAvl l → IsAvl x → IsBalance b (height l) (height r) → height x ≡ suc (height r) → IsLeaned x → IsGrown (Fork l n k b r) (higher_right l n k b x)
higher_right_grown l n k RightHigh r x al ax e tall leans =
    let t = turned_left_avl l n k x al ax (omega arith) leans in
    record { avl = t.0; tall = omega (arith, t.1); leans = λ f. absurd (let q : false ≡ true = f in cc) }
higher_right_grown l n k Even r x al ax e tall leans = record { avl = (omega arith, al, ax); tall = omega arith; leans = λ f. tt }
higher_right_grown l n k LeftHigh r x al ax e tall leans = record { avl = (omega arith, al, ax); tall = omega arith; leans = λ f. absurd (let q : false ≡ true = f in cc) }

pub same_balance : (b : Balance) (x y z w : ℕ) → x ≡ y → z ≡ w → IsBalance b y w → IsBalance b x z
same_balance LeftHigh x y z w e f h = omega arith
same_balance Even x y z w e f h = omega arith
same_balance RightHigh x y z w e f h = omega arith

joined_left_grown : (grew : Bool) (l x : Tree) (n : ℕ) (k : List ℕ) (b : Balance) (r : Tree) → IsAvl x → IsAvl r → IsBalance b (height l) (height r) → height x ≡ grown_height grew (height l) → (grew ≡ true → IsLeaned x) → IsGrown (Fork l n k b r) (joined_left grew x n k b r)
joined_left_grown false l x n k b r ax ar e tall leans = record {
  avl = (same_balance b (height x) (height l) (height r) (height r) tall refl e, ax, ar);
  tall = omega arith;
  leans = λ f. absurd (let q : false ≡ true = f in cc);
}
joined_left_grown true l x n k b r ax ar e tall leans = higher_left_grown l x n k b r ax ar e tall (leans refl)

joined_right_grown : (grew : Bool) (l : Tree) (n : ℕ) (k : List ℕ) (b : Balance) (r x : Tree) → IsAvl l → IsAvl x → IsBalance b (height l) (height r) → height x ≡ grown_height grew (height r) → (grew ≡ true → IsLeaned x) → IsGrown (Fork l n k b r) (joined_right grew l n k b x)
joined_right_grown false l n k b r x al ax e tall leans = record {
  avl = (same_balance b (height l) (height l) (height x) (height r) refl tall e, al, ax);
  tall = omega arith;
  leans = λ f. absurd (let q : false ≡ true = f in cc);
}
joined_right_grown true l n k b r x al ax e tall leans = higher_right_grown l n k b r x al ax e tall (leans refl)

placed_grown : (o : Ordering) (x y : Grown) (l : Tree) (n : ℕ) (k : List ℕ) (b : Balance) (r : Tree) → IsAvl (Fork l n k b r) → IsGrown l x → IsGrown r y → IsGrown (Fork l n k b r) (placed o x y l n k b r)
placed_grown Less x y l n k b r avl gx gy = joined_left_grown x.grew l x.tree n k b r gx.avl avl.2 avl.0 gx.tall gx.leans
placed_grown Equal x y l n k b r avl gx gy = record { avl = avl; tall = refl; leans = λ f. absurd (let q : false ≡ true = f in cc) }
placed_grown Greater x y l n k b r avl gx gy = joined_right_grown y.grew l n k b r y.tree avl.1 gy.avl avl.0 gy.tall gy.leans

-- a balanced tree stays balanced
pub inserted_grown : (new : ℕ) (key : List ℕ) (t : Tree) → IsAvl t → IsGrown t (inserted new key t)
inserted_grown new key Leaf avl = record { avl = (refl, tt, tt); tall = refl; leans = λ f. refl }
inserted_grown new key (Fork l n k b r) avl =
    placed_grown (byte_order key k) (inserted new key l) (inserted new key r) l n k b r avl (inserted_grown new key l avl.1) (inserted_grown new key r avl.2)
