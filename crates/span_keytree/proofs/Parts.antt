-- A part of a tree that alone is changed where a key is put into it.
use Rattle.std.proofs.Common.{◌≡◌, ◌≢◌, ℕ, ◌<◌, ◌≤◌, List, ◌∷◌, refl, sym, ◌∙◌, ap, arith, inl, inr, true, false, Option, Some, None, subst}
use Rattle.std.specs.Prelude.{Bool, ◌⊎◌}
use Rattle.std.specs.List.{AllByRecursion}
use Rattle.std.specs.declared.cmp.Ordering.{Ordering}
use Rattle.std.specs.declared.cmp.Ordering.TheVariants.{Less, Equal, Greater}
use Rattle.std.proofs.lemmas.Bool.{cases_lt, cases_eq, and_parts, or_cases}
use Rattle.std.proofs.lemmas.List.{set-get_or}
use Rattle.std.proofs.Math.Nat.{le-max_left, le-max_right}
use Rattle.span_keycode.specs.Order.{byte_order}
use Rattle.span_arena.specs.declared.cell.Cell.{Cell}
use Rattle.span_arena.specs.declared.cell.Balance.{Balance}
use Rattle.span_arena.specs.declared.cell.Balance.TheVariants.{LeftHigh, Even, RightHigh}
use Rattle.span_arena.specs.Cells.{cell_at, blank, with_links}
use Rattle.span_keytree.specs.declared.part.Way.{Way}
use Rattle.span_keytree.specs.Effects.{links_of, links_with}
use Rattle.span_keytree.specs.Entries.{KeyEntry}
use Rattle.span_keytree.specs.Items.{entry, items, AreRising}
use Rattle.span_keytree.specs.Joins.{joined_left_cells}
use Rattle.span_keytree.specs.Nexts.{before_in}
use Rattle.span_keytree.specs.Puts.{IsTree, IsAdded}
use Rattle.span_keytree.specs.Trees.{Tree, Leaf, Fork, Grown, root_of, cell_of, IsInCells, count, height, by_side, search_in, joined_left, joined_right, placed, inserted}
use Rattle.span_keytree.specs.Ways.{is_uneven, way_by, way_in, is_part_by, is_part_for}
use Rattle.span_keytree.proofs.Counting.{one_here, one_same, one_other}
use Rattle.span_keytree.proofs.Puts.{put_left_at, put_right_at}
use Rattle.span_keytree.proofs.Rising.{AllBelow, AllAbove, IsAround, around, all_front, all_back, less_trans, turned}
use Rattle.span_keytree.proofs.Stopping.{kept_part, kept_join, tree_right}

-- a tree is another, or in one of its parts
abbrev pub IsPart : Tree → Tree → Type 0
IsPart s Leaf = Leaf ≡ s
IsPart s (Fork l n k b r) = (Fork l n k b r ≡ s) ⊎ (IsPart s l ⊎ IsPart s r)

pub in_cells_part : (f : ℕ → Cell) (s t : Tree) → IsPart s t → IsInCells f t → IsInCells f s
in_cells_part f s Leaf part in_cells = subst (λ (u : Tree). IsInCells f u) {x = Leaf} {y = s} part in_cells
in_cells_part f s (Fork l n k b r) part in_cells = elim part [
  | inl same ↦ subst (λ (u : Tree). IsInCells f u) {x = Fork l n k b r} {y = s} same in_cells
  | inr deeper ↦ elim deeper [
    | inl left ↦ in_cells_part f s l left in_cells.1
    | inr right ↦ in_cells_part f s r right in_cells.2
  ]
]

pub count_part : (i : ℕ) (s t : Tree) → IsPart s t → count i s ≤ count i t
count_part i s Leaf part = omega (arith, ap (λ (u : Tree). count i u) part)
count_part i s (Fork l n k b r) part = elim part [
  | inl same ↦ omega (arith, ap (λ (u : Tree). count i u) same)
  | inr deeper ↦ elim deeper [
    | inl left ↦ omega (arith, count_part i s l left)
    | inr right ↦ omega (arith, count_part i s r right)
  ]
]

pub height_part : (s t : Tree) → IsPart s t → height s ≤ height t
height_part s Leaf part = omega (arith, ap height part)
height_part s (Fork l n k b r) part = elim part [
  | inl same ↦ omega (arith, ap height same)
  | inr deeper ↦ elim deeper [
    | inl left ↦ omega (arith, height_part s l left, le-max_left (height l) (height r))
    | inr right ↦ omega (arith, height_part s r right, le-max_right (height l) (height r))
  ]
]

all_part : (P : KeyEntry → Type 0) (s t : Tree) → IsPart s t → AllByRecursion P (items t) → AllByRecursion P (items s)
all_part P s Leaf part all = subst (λ (u : Tree). AllByRecursion P (items u)) {x = Leaf} {y = s} part all
all_part P s (Fork l n k b r) part all = elim part [
  | inl same ↦ subst (λ (u : Tree). AllByRecursion P (items u)) {x = Fork l n k b r} {y = s} same all
  | inr deeper ↦ elim deeper [
    | inl left ↦ all_part P s l left (all_front P (items l) (entry k n ∷ items r) all)
    | inr right ↦ all_part P s r right (all_back P (items l) (entry k n ∷ items r) all).1
  ]
]

pub root_part : (s t : Tree) (x : ℕ) → IsPart s t → Some x ≡ root_of s → (y : ℕ) × (Some y ≡ root_of t)
root_part s Leaf x part is = absurd (let q : Some x ≡ None = is ∙ ap root_of (sym part) in cc)
root_part s (Fork l n k b r) x part is = (n, refl)

-- the part of a tree that begins at one of its cells
pub record IsThere (p : ℕ) (t : Tree) : Type 0 where
  pub left : Tree
  pub key : List ℕ
  pub balance : Balance
  pub right : Tree
  pub there : IsPart (Fork left p key balance right) t

pub part_there : (p : ℕ) (t : Tree) → 0 < count p t → IsThere p t
part_there p Leaf some = absurd (omega arith)
part_there p (Fork l n k b r) some = elim (cases_eq p n) [
  | inl same ↦ record { left = l; key = k; balance = b; right = r; there = inl (ap (λ (x : ℕ). Fork l x k b r) (sym same)) }
  | inr differs ↦ elim (cases_lt 0 (count p l)) [
    | inl there ↦ (let h = part_there p l there in
        record { left = h.left; key = h.key; balance = h.balance; right = h.right; there = inr (inl h.there) })
    | inr none ↦ (let h = part_there p r (omega (arith, one_other p n differs)) in
        record { left = h.left; key = h.key; balance = h.balance; right = h.right; there = inr (inr h.there) })
  ]
]

-- ---- the way goes to both sides: so the key is between keys of the tree

left_by : (key high : List ℕ) (l : Tree) (n : ℕ) (k : List ℕ) (b : Balance) (r : Tree) (o : Ordering) → byte_order key k ≡ o
    → (way_by o b (way_in key l) (way_in key r)).is_left ≡ true → byte_order k high ≡ Less
    → ((way_in key r).is_left ≡ true → byte_order key high ≡ Less) → byte_order key high ≡ Less
left_by key high l n k b r Less e is less rest = less_trans key k high e less
left_by key high l n k b r Equal e is less rest = absurd (let q : false ≡ true = is in cc)
left_by key high l n k b r Greater e is less rest = rest is

-- below a key that all keys of the tree are below
left_of : (key high : List ℕ) (t : Tree) → (way_in key t).is_left ≡ true → AllBelow high (items t) → byte_order key high ≡ Less
left_of key high Leaf is all = absurd (let q : false ≡ true = is in cc)
left_of key high (Fork l n k b r) is all =
    let own = all_back (λ (e : KeyEntry). byte_order e.key high ≡ Less) (items l) (entry k n ∷ items r) all in
    left_by key high l n k b r (byte_order key k) refl is own.0 (λ deeper. left_of key high r deeper own.1)

right_by : (key low : List ℕ) (l : Tree) (n : ℕ) (k : List ℕ) (b : Balance) (r : Tree) (o : Ordering) → byte_order key k ≡ o
    → (way_by o b (way_in key l) (way_in key r)).is_right ≡ true → byte_order low k ≡ Less
    → ((way_in key l).is_right ≡ true → byte_order key low ≡ Greater) → byte_order key low ≡ Greater
right_by key low l n k b r Less e is less rest = rest is
right_by key low l n k b r Equal e is less rest = absurd (let q : false ≡ true = is in cc)
right_by key low l n k b r Greater e is less rest = turned low key Less (less_trans low k key less (turned key k Greater e))

-- above a key that all keys of the tree are above
right_of : (key low : List ℕ) (t : Tree) → (way_in key t).is_right ≡ true → AllAbove low (items t) → byte_order key low ≡ Greater
right_of key low Leaf is all = absurd (let q : false ≡ true = is in cc)
right_of key low (Fork l n k b r) is all =
    let own = all_back (λ (e : KeyEntry). byte_order low e.key ≡ Less) (items l) (entry k n ∷ items r) all in
    right_by key low l n k b r (byte_order key k) refl is own.0
    (λ deeper. right_of key low l deeper (all_front (λ (e : KeyEntry). byte_order low e.key ≡ Less) (items l) (entry k n ∷ items r) all))

-- the key is between keys of the tree
pub record IsBetween (key : List ℕ) (t : Tree) : Type 0 where
  pub left : (way_in key t).is_left ≡ true
  pub right : (way_in key t).is_right ≡ true

between_by : (b : Balance) (x y : Way) (o : Ordering) → is_part_by o x y ≡ true → ((way_by o b x y).is_left ≡ true) × ((way_by o b x y).is_right ≡ true)
between_by b x y Less is = (refl, (and_parts x.is_right x.is_uneven is).0)
between_by b x y Equal is = absurd (let q : false ≡ true = is in cc)
between_by b x y Greater is = ((and_parts y.is_left y.is_uneven is).0, refl)

pub between : (key : List ℕ) (t : Tree) → is_part_for key t ≡ true → IsBetween key t
between key Leaf is = absurd (let q : false ≡ true = is in cc)
between key (Fork l n k b r) is =
    let h = between_by b (way_in key l) (way_in key r) (byte_order key k) is in
    record { left = h.0; right = h.1 }

module _ (key : List ℕ) (s l : Tree) (n : ℕ) (k : List ℕ) (b : Balance) (r : Tree) (rising : AreRising (items (Fork l n k b r))) (own : IsBetween key s) where
  parts : IsAround (items l) (entry k n) (items r)
  parts = around (items l) (entry k n) (items r) rising

  to_left : IsPart s l → byte_order key k ≡ Less
  to_left part = left_of key k s own.left (all_part (λ (e : KeyEntry). byte_order e.key k ≡ Less) s l part parts.smaller)

  to_right : IsPart s r → byte_order key k ≡ Greater
  to_right part = right_of key k s own.right (all_part (λ (e : KeyEntry). byte_order k e.key ≡ Less) s r part parts.greater)

-- ---- such a part has as many levels as before, and begins with the same cell

taken_left : (g : Bool) (l : Tree) (n : ℕ) (k : List ℕ) (b : Balance) (r : Tree) → is_uneven b ≡ true → (joined_left g l n k b r).grew ≡ false
taken_left false l n k b r uneven = refl
taken_left true l n k LeftHigh r uneven = refl
taken_left true l n k Even r uneven = absurd (let q : false ≡ true = uneven in cc)
taken_left true l n k RightHigh r uneven = refl

taken_right : (g : Bool) (l : Tree) (n : ℕ) (k : List ℕ) (b : Balance) (r : Tree) → is_uneven b ≡ true → (joined_right g l n k b r).grew ≡ false
taken_right false l n k b r uneven = refl
taken_right true l n k LeftHigh r uneven = refl
taken_right true l n k Even r uneven = absurd (let q : false ≡ true = uneven in cc)
taken_right true l n k RightHigh r uneven = refl

stays_low_by : (x y : Grown) (l : Tree) (n : ℕ) (k : List ℕ) (b : Balance) (r : Tree) (v w : Way) (o : Ordering) → (way_by o b v w).is_uneven ≡ true
    → (v.is_uneven ≡ true → x.grew ≡ false) → (w.is_uneven ≡ true → y.grew ≡ false) → (placed o x y l n k b r).grew ≡ false
stays_low_by x y l n k b r v w Less is left right = elim (or_cases v.is_uneven (is_uneven b) is) [
  | inl below ↦ ap (λ (g : Bool). (joined_left g x.tree n k b r).grew) (left below)
  | inr here ↦ taken_left x.grew x.tree n k b r here
]
stays_low_by x y l n k b r v w Equal is left right = absurd (let q : false ≡ true = is in cc)
stays_low_by x y l n k b r v w Greater is left right = elim (or_cases w.is_uneven (is_uneven b) is) [
  | inl below ↦ ap (λ (g : Bool). (joined_right g l n k b y.tree).grew) (right below)
  | inr here ↦ taken_right y.grew l n k b y.tree here
]

stays_low : (c : ℕ) (key : List ℕ) (t : Tree) → (way_in key t).is_uneven ≡ true → (inserted c key t).grew ≡ false
stays_low c key Leaf is = absurd (let q : false ≡ true = is in cc)
stays_low c key (Fork l n k b r) is =
    stays_low_by (inserted c key l) (inserted c key r) l n k b r (way_in key l) (way_in key r) (byte_order key k) is
    (λ below. stays_low c key l below) (λ below. stays_low c key r below)

-- a tree that begins with this cell, and has not grown
pub record IsKept (n : ℕ) (g : Grown) : Type 0 where
  pub low : g.grew ≡ false
  pub root : root_of g.tree ≡ Some n

kept_by : (x y : Grown) (l : Tree) (n : ℕ) (k : List ℕ) (b : Balance) (r : Tree) (v w : Way) (o : Ordering) → is_part_by o v w ≡ true
    → (v.is_uneven ≡ true → x.grew ≡ false) → (w.is_uneven ≡ true → y.grew ≡ false) → IsKept n (placed o x y l n k b r)
kept_by x y l n k b r v w Less is left right =
    let same : joined_left x.grew x.tree n k b r ≡ joined_left false x.tree n k b r = ap (λ (g : Bool). joined_left g x.tree n k b r) (left (and_parts v.is_right v.is_uneven is).1) in
    record { low = ap (λ (g : Grown). g.grew) same; root = ap (λ (g : Grown). root_of g.tree) same }
kept_by x y l n k b r v w Equal is left right = absurd (let q : false ≡ true = is in cc)
kept_by x y l n k b r v w Greater is left right =
    let same : joined_right y.grew l n k b y.tree ≡ joined_right false l n k b y.tree = ap (λ (g : Bool). joined_right g l n k b y.tree) (right (and_parts w.is_left w.is_uneven is).1) in
    record { low = ap (λ (g : Grown). g.grew) same; root = ap (λ (g : Grown). root_of g.tree) same }

pub kept_part_of : (c : ℕ) (key : List ℕ) (l : Tree) (n : ℕ) (k : List ℕ) (b : Balance) (r : Tree) → is_part_for key (Fork l n k b r) ≡ true → IsKept n (inserted c key (Fork l n k b r))
kept_part_of c key l n k b r is =
    kept_by (inserted c key l) (inserted c key r) l n k b r (way_in key l) (way_in key r) (byte_order key k) is
    (λ below. stays_low c key l below) (λ below. stays_low c key r below)

-- ---- the key is searched for in the part

pub search_part : (key : List ℕ) (s t : Tree) → AreRising (items t) → IsBetween key s → IsPart s t → search_in key t ≡ search_in key s
search_part key s Leaf rising own part = ap (λ (u : Tree). search_in key u) part
search_part key s (Fork l n k b r) rising own part = elim part [
  | inl same ↦ ap (λ (u : Tree). search_in key u) same
  | inr deeper ↦ elim deeper [
    | inl left ↦ ap (λ (o : Ordering). by_side o (search_in key l) n (search_in key r)) (to_left key s l n k b r rising own left)
        ∙ search_part key s l (around (items l) (entry k n) (items r) rising).front own left
    | inr right ↦ ap (λ (o : Ordering). by_side o (search_in key l) n (search_in key r)) (to_right key s l n k b r rising own right)
        ∙ search_part key s r (around (items l) (entry k n) (items r) rising).back own right
  ]
]

before_by : (key : List ℕ) (x y : Option ℕ) (l : Tree) (n : ℕ) (b : Balance) (r : Tree) (v w : Way) (o : Ordering) → (way_by o b v w).is_right ≡ true
    → (v.is_right ≡ true → before_in key x l ≡ before_in key y l) → by_side o (before_in key x l) n (before_in key (Some n) r) ≡ by_side o (before_in key y l) n (before_in key (Some n) r)
before_by key x y l n b r v w Less is left = left is
before_by key x y l n b r v w Equal is left = refl
before_by key x y l n b r v w Greater is left = refl

-- the key has one before it in the tree
before_inside : (key : List ℕ) (x y : Option ℕ) (t : Tree) → (way_in key t).is_right ≡ true → before_in key x t ≡ before_in key y t
before_inside key x y Leaf is = absurd (let q : false ≡ true = is in cc)
before_inside key x y (Fork l n k b r) is =
    before_by key x y l n b r (way_in key l) (way_in key r) (byte_order key k) is (λ deeper. before_inside key x y l deeper)

pub before_part : (key : List ℕ) (x y : Option ℕ) (s t : Tree) → AreRising (items t) → IsBetween key s → IsPart s t → before_in key x t ≡ before_in key y s
before_part key x y s Leaf rising own part = ap (λ (u : Tree). before_in key x u) part ∙ before_inside key x y s own.right
before_part key x y s (Fork l n k b r) rising own part = elim part [
  | inl same ↦ ap (λ (u : Tree). before_in key x u) same ∙ before_inside key x y s own.right
  | inr deeper ↦ elim deeper [
    | inl left ↦ ap (λ (o : Ordering). by_side o (before_in key x l) n (before_in key (Some n) r)) (to_left key s l n k b r rising own left)
        ∙ before_part key x y s l (around (items l) (entry k n) (items r) rising).front own left
    | inr right ↦ ap (λ (o : Ordering). by_side o (before_in key x l) n (before_in key (Some n) r)) (to_right key s l n k b r rising own right)
        ∙ before_part key (Some n) y s r (around (items l) (entry k n) (items r) rising).back own right
  ]
]

-- ---- what is above the part stays

kept_left : (cs : List Cell) (n root : ℕ) (l : Tree) (k : List ℕ) (b : Balance) (r : Tree) → cell_at cs n ≡ cell_of l k b r → Some root ≡ root_of l → cs ≡ joined_left_cells false cs n root
kept_left cs n root l k b r cell is =
    let e : (links_of cs n).left ≡ Some root = ap (λ (x : Cell). x.links.left) cell ∙ sym is in
    sym (ap (λ (o : Option ℕ). with_links cs n (links_with o (links_of cs n).right (links_of cs n).balance)) (sym e) ∙ set-get_or cs n blank)

left_tree : (cs : List Cell) (l : Tree) (n : ℕ) (k : List ℕ) (b : Balance) (r : Tree) → IsTree cs (Some n) (Fork l n k b r) → IsTree cs (root_of l) l
left_tree cs l n k b r tree = record {
  in_cells = tree.in_cells.1;
  root = refl;
  once = λ j. omega (arith, tree.once j);
  within = λ j h. tree.within j (omega arith);
}

pub added_part : (cs new : List Cell) (key : List ℕ) (c : ℕ) (t s : Tree) (x : ℕ) → IsPart s t → IsTree cs (root_of t) t → AreRising (items t) → IsBetween key s → count c t ≡ 0
    → Some x ≡ root_of s → IsAdded cs new s key (kept_part c x) → (y : ℕ) → Some y ≡ root_of t → IsAdded cs new t key (kept_part c y)
added_part cs new key c Leaf s x part tree rising own free root added y is = absurd (let q : Some y ≡ None = is in cc)
added_part cs new key c (Fork l n k b r) s x part tree rising own free root added y is =
    let parts = around (items l) (entry k n) (items r) rising in
    let differs : n ≢ c = λ q. absurd (omega (arith, one_same c n (sym q))) in
    let e : y ≡ n = (let q : Some y ≡ Some n = is in cc) in
    elim part [
      | inl same ↦ (let f : y ≡ x = (let q : Some y ≡ Some x = is ∙ ap root_of same ∙ sym root in cc) in
          subst (λ (u : Tree). IsAdded cs new u key (kept_part c y)) {x = s} {y = Fork l n k b r} (sym same)
          (subst (λ (z : ℕ). IsAdded cs new s key (kept_part c z)) {x = x} {y = y} (sym f) added))
      | inr deeper ↦ elim deeper [
        | inl left ↦ (let more = root_part s l x left root in
            let inner : IsAdded cs new l key (kept_part c more.0) = added_part cs new key c l s x left (left_tree cs l n k b r tree) parts.front own (omega arith) root added more.0 more.1 in
            let cell : cell_at new n ≡ cell_of l k b r = inner.others n differs (omega (arith, one_here n, tree.once n)) ∙ tree.in_cells.0 in
            put_left_at cs new new l n k b r key (kept_part c more.0) (kept_part c y) tree (to_left key s l n k b r rising own left) free inner (kept_left new n more.0 l k b r cell more.1) (ap (λ (z : ℕ). kept_part c z) e))
        | inr right ↦ (let more = root_part s r x right root in
            let inner : IsAdded cs new r key (kept_part c more.0) = added_part cs new key c r s x right (tree_right cs l n k b r tree) parts.back own (omega arith) root added more.0 more.1 in
            let cell : cell_at new n ≡ cell_of l k b r = inner.others n differs (omega (arith, one_here n, tree.once n)) ∙ tree.in_cells.0 in
            put_right_at cs new new l n k b r key (kept_part c more.0) (kept_part c y) tree (to_right key s l n k b r rising own right) free inner (kept_join new n more.0 l k b r cell more.1) (ap (λ (z : ℕ). kept_part c z) e))
      ]
    ]
