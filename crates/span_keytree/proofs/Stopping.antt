-- The part of a tree that a new cell at its right end changes.
use Rattle.std.proofs.Common.{◌≡◌, ◌≢◌, ℕ, zero, suc, ◌-◌, ◌<◌, ◌≤◌, List, refl, sym, ◌∙◌, ap, arith, length, true, false, Option, Some, None, subst, inl, inr}
use Rattle.std.specs.Prelude.{Bool, ◌⊎◌, IfSome}
use Rattle.std.specs.declared.cmp.Ordering.{Ordering}
use Rattle.std.proofs.Math.Nat.{le-max_right, max-le}
use Rattle.std.proofs.lemmas.List.{set-get_or}
use Rattle.span_arena.specs.declared.cell.Cell.{Cell}
use Rattle.span_arena.specs.declared.cell.Links.{Links}
use Rattle.span_arena.specs.declared.cell.Balance.{Balance}
use Rattle.span_arena.specs.declared.cell.Balance.TheVariants.{LeftHigh, Even, RightHigh}
use Rattle.span_arena.specs.Cells.{cell_at, blank, with_links}
use Rattle.span_arena.specs.Counts.{Count}
use Rattle.span_keytree.specs.declared.join.GrownPart.{GrownPart}
use Rattle.span_keytree.specs.Effects.{links_of, links_with}
use Rattle.span_keytree.specs.Joins.{joined_right_cells, joined_right_root, most_by, IsJoinCost}
use Rattle.span_keytree.specs.Lasts.{IsAboveRight, turns_by, IsHangCost, stop_by, stop_in, with_root, IsRight, IsUnevenBy, IsUneven, IsStop}
use Rattle.span_keytree.specs.Puts.{tree_at, IsTree, IsAdded}
use Rattle.span_keytree.specs.Trees.{Tree, Leaf, Fork, root_of, cell_of, IsInCells, count, height, shape, joined_right, placed, inserted}
use Rattle.span_keytree.proofs.Costs.{IsReady, ready_part}
use Rattle.span_keytree.proofs.Counting.{one_here, one_same}
use Rattle.span_keytree.proofs.Exits.{fork_some}
use Rattle.span_keytree.proofs.Puts.{places_more, put_right_at}
use Rattle.span_keytree.proofs.Whole.{shape_is}

pub in_cells_right : (f : ℕ → Cell) (s t : Tree) → IsRight s t → IsInCells f t → IsInCells f s
in_cells_right f s Leaf right in_cells = subst (λ (u : Tree). IsInCells f u) {x = Leaf} {y = s} right in_cells
in_cells_right f s (Fork l n k b r) right in_cells = elim right [
  | inl same ↦ subst (λ (u : Tree). IsInCells f u) {x = Fork l n k b r} {y = s} same in_cells
  | inr deeper ↦ in_cells_right f s r deeper in_cells.2
]

pub count_right : (i : ℕ) (s t : Tree) → IsRight s t → count i s ≤ count i t
count_right i s Leaf right = omega (arith, ap (λ (u : Tree). count i u) right)
count_right i s (Fork l n k b r) right = elim right [
  | inl same ↦ omega (arith, ap (λ (u : Tree). count i u) same)
  | inr deeper ↦ omega (arith, count_right i s r deeper)
]

pub height_right : (s t : Tree) → IsRight s t → height s ≤ height t
height_right s Leaf right = omega (arith, ap height right)
height_right s (Fork l n k b r) right = elim right [
  | inl same ↦ omega (arith, ap height same)
  | inr deeper ↦ omega (arith, height_right s r deeper, le-max_right (height l) (height r))
]

above_part : (key : List ℕ) (s t : Tree) → IsRight s t → IsAboveRight key t → IsAboveRight key s
above_part key s Leaf right above = subst (λ (u : Tree). IsAboveRight key u) {x = Leaf} {y = s} right above
above_part key s (Fork l n k b r) right above = elim right [
  | inl same ↦ subst (λ (u : Tree). IsAboveRight key u) {x = Fork l n k b r} {y = s} same above
  | inr deeper ↦ above_part key s r deeper above.1
]

-- ---- the cell above the last one whose parts differ in height

stop_balance : (b : Balance) (stop above : Option ℕ) (p : ℕ) (t : Tree) → stop_by b stop above ≡ Some p → (stop ≡ Some p) ⊎ (((above ≡ Some p) × IsUnevenBy b) ⊎ IsStop p t)
stop_balance LeftHigh stop above p t is = inr (inl (is, tt))
stop_balance Even stop above p t is = inl is
stop_balance RightHigh stop above p t is = inr (inl (is, tt))

stop_found : (t : Tree) (stop above : Option ℕ) (p : ℕ) → stop_in stop above t ≡ Some p → (stop ≡ Some p) ⊎ (((above ≡ Some p) × IsUneven t) ⊎ IsStop p t)
stop_found Leaf stop above p is = inl is
stop_found (Fork l n k b r) stop above p is = elim (stop_found r (stop_by b stop above) (Some n) p is) [
  | inl before ↦ stop_balance b stop above p (Fork l n k b r) before
  | inr rest ↦ elim rest [
    | inl here ↦ (let e : n ≡ p = (let q : Some n ≡ Some p = here.0 in cc) in
        inr (inr (record { left = l; key = k; balance = b; right = r; there = inl (ap (λ (x : ℕ). Fork l x k b r) e); uneven = here.1 })))
    | inr deeper ↦ inr (inr (record { left = deeper.left; key = deeper.key; balance = deeper.balance; right = deeper.right; there = inr deeper.there; uneven = deeper.uneven }))
  ]
]

pub stop_there : (t : Tree) (p : ℕ) → stop_in None None t ≡ Some p → IsStop p t
stop_there t p is = elim (stop_found t None None p is) [
  | inl none ↦ absurd (let q : None ≡ Some p = none in cc)
  | inr rest ↦ elim rest [
    | inl none ↦ absurd (let q : None ≡ Some p = none.0 in cc)
    | inr stop ↦ stop
  ]
]

-- each cell that is given is such a stop
pub stops : (t : Tree) (o : Option ℕ) → o ≡ stop_in None None t → IfSome o (λ (p : ℕ). IsStop p t)
stops t None is = tt
stops t (Some p) is = stop_there t p (sym is)

pub stop_of : (t : Tree) (o : Option ℕ) (p : ℕ) → o ≡ Some p → IfSome o (λ (q : ℕ). IsStop q t) → IsStop p t
stop_of t None p is stop = absurd (let q : None ≡ Some p = is in cc)
stop_of t (Some q) p is stop = (let e : q ≡ p = (let f : Some q ≡ Some p = is in cc) in subst (λ (x : ℕ). IsStop x t) {x = q} {y = p} e stop)

-- one link further
pub stop_more : (cs : List Cell) (levels : ℕ) (at : Option ℕ) (i : ℕ) (ls : Links) → at ≡ Some i → ls ≡ links_of cs i → IsTree cs at (tree_at cs levels at) → (stop above next : Option ℕ) → next ≡ stop_by ls.balance stop above
    → stop_in stop above (tree_at cs levels at) ≡ stop_in next (Some i) (tree_at cs (levels - 1) ls.right)
stop_more cs levels at i ls e read tree stop above next is =
    ap (λ (t : Tree). stop_in stop above t) (fork_some cs levels at i ls e read tree)
    ∙ ap (λ (x : Option ℕ). stop_in x (Some i) (tree_at cs (levels - 1) ls.right)) (sym is)

-- ---- such a part has as many levels as before

taken_up : (g : Bool) (l : Tree) (n : ℕ) (k : List ℕ) (b : Balance) (x : Tree) → IsUnevenBy b → (joined_right g l n k b x).grew ≡ false
taken_up false l n k b x uneven = refl
taken_up true l n k LeftHigh x uneven = refl
taken_up true l n k Even x uneven = absurd uneven
taken_up true l n k RightHigh x uneven = refl

not_grown : (c : ℕ) (key : List ℕ) (s : Tree) → IsUneven s → IsAboveRight key s → (inserted c key s).grew ≡ false
not_grown c key Leaf uneven above = absurd uneven
not_grown c key (Fork l n k b r) uneven above =
    ap (λ (o : Ordering). (placed o (inserted c key l) (inserted c key r) l n k b r).grew) above.0
    ∙ taken_up (inserted c key r).grew l n k b (inserted c key r).tree uneven

-- ---- what is above it stays

-- a part with the cell that it began with
pub kept_join : (cs : List Cell) (n root : ℕ) (l : Tree) (k : List ℕ) (b : Balance) (r : Tree) → cell_at cs n ≡ cell_of l k b r → Some root ≡ root_of r → cs ≡ joined_right_cells false cs n root
kept_join cs n root l k b r cell is =
    let e : (links_of cs n).right ≡ Some root = ap (λ (x : Cell). x.links.right) cell ∙ sym is in
    sym (ap (λ (o : Option ℕ). with_links cs n (links_with (links_of cs n).left o (links_of cs n).balance)) (sym e) ∙ set-get_or cs n blank)

some_root : (s t : Tree) (x : ℕ) → IsRight s t → Some x ≡ root_of s → (y : ℕ) × (Some y ≡ root_of t)
some_root s Leaf x right is = absurd (let q : Some x ≡ None = is ∙ ap root_of (sym right) in cc)
some_root s (Fork l n k b r) x right is = (n, refl)

pub tree_right : (cs : List Cell) (l : Tree) (n : ℕ) (k : List ℕ) (b : Balance) (r : Tree) → IsTree cs (Some n) (Fork l n k b r) → IsTree cs (root_of r) r
tree_right cs l n k b r tree = record {
  in_cells = tree.in_cells.2;
  root = refl;
  once = λ j. omega (arith, tree.once j);
  within = λ j h. tree.within j (omega arith);
}

abbrev pub kept_part : ℕ → ℕ → GrownPart
kept_part c root = record { cell = c; root = root; grew = false }

lifted : (cs new : List Cell) (key : List ℕ) (c : ℕ) (t s : Tree) (x : ℕ) → IsRight s t → IsTree cs (root_of t) t → IsAboveRight key t → count c t ≡ 0 → Some x ≡ root_of s → IsAdded cs new s key (kept_part c x) → (y : ℕ) → Some y ≡ root_of t → IsAdded cs new t key (kept_part c y)
lifted cs new key c Leaf s x right tree above free root added y is = absurd (let q : Some y ≡ None = is in cc)
lifted cs new key c (Fork l n k b r) s x right tree above free root added y is = elim right [
  | inl same ↦ (let e : y ≡ x = (let q : Some y ≡ Some x = is ∙ ap root_of same ∙ sym root in cc) in
      subst (λ (u : Tree). IsAdded cs new u key (kept_part c y)) {x = s} {y = Fork l n k b r} (sym same)
      (subst (λ (z : ℕ). IsAdded cs new s key (kept_part c z)) {x = x} {y = y} (sym e) added))
  | inr deeper ↦ (let more = some_root s r x deeper root in
      let inner : IsAdded cs new r key (kept_part c more.0) = lifted cs new key c r s x deeper (tree_right cs l n k b r tree) above.1 (omega arith) root added more.0 more.1 in
      let differs : n ≢ c = λ q. absurd (omega (arith, one_same c n (sym q))) in
      let cell : cell_at new n ≡ cell_of l k b r = inner.others n differs (omega (arith, one_here n, tree.once n)) ∙ tree.in_cells.0 in
      let e : y ≡ n = (let q : Some y ≡ Some n = is in cc) in
      put_right_at cs new new l n k b r key (kept_part c more.0) (kept_part c y) tree above.0 free inner (kept_join new n more.0 l k b r cell more.1) (ap (λ (z : ℕ). kept_part c z) e))
]

-- ---- the part is read again with the levels of the whole

levels_low : (f : ℕ → Cell) (n : ℕ) (at : Option ℕ) → height (shape f n at) ≤ n
levels_low f zero at = omega arith
levels_low f (suc n) None = omega arith
levels_low f (suc n) (Some i) =
    let most = max-le (levels_low f n (f i).links.left) (levels_low f n (f i).links.right) in
    omega (arith, most)

root_grew : (at : Option ℕ) (part : GrownPart) → (with_root at part).grew ≡ part.grew
root_grew None part = refl
root_grew (Some root) part = refl

module _ (cs : List Cell) (levels : ℕ) (at : Option ℕ) (key : List ℕ) (c p : ℕ) (l : Tree) (k : List ℕ) (b : Balance) (s : Tree)
    (tree : IsTree cs at (tree_at cs levels at)) (there : IsRight (Fork l p k b s) (tree_at cs levels at)) (uneven : IsUneven s) (above : IsAboveRight key (tree_at cs levels at)) (free : count c (tree_at cs levels at) ≡ 0) where
  fork_there : IsTree cs (Some p) (Fork l p k b s)
  fork_there = record {
    in_cells = in_cells_right (cell_at cs) (Fork l p k b s) (tree_at cs levels at) there tree.in_cells;
    root = refl;
    once = λ j. omega (arith, count_right j (Fork l p k b s) (tree_at cs levels at) there, tree.once j);
    within = λ j some. tree.within j (omega (arith, count_right j (Fork l p k b s) (tree_at cs levels at) there));
  }

  pub stop_inside : p < length cs
  stop_inside = fork_there.within p (omega (arith, one_here p))

  above_fork : IsAboveRight key (Fork l p k b s)
  above_fork = above_part key (Fork l p k b s) (tree_at cs levels at) there above

  lower : suc (height s) ≤ height (tree_at cs levels at)
  lower = omega (arith, height_right (Fork l p k b s) (tree_at cs levels at) there, le-max_right (height l) (height s))

  free_fork : count c (Fork l p k b s) ≡ 0
  free_fork = omega (arith, count_right c (Fork l p k b s) (tree_at cs levels at) there)

  module _ (ls : Links) (read : ls ≡ links_of cs p) where
    link_is : ls.right ≡ root_of s
    link_is = ap (λ (x : Links). x.right) read ∙ ap (λ (x : Cell). x.links.right) fork_there.in_cells.0

    same_part : tree_at cs levels ls.right ≡ s
    same_part =
        let low : height s ≤ levels = omega (arith, lower, levels_low (cell_at cs) levels at) in
        ap (λ (x : Option ℕ). shape (cell_at cs) levels x) link_is ∙ shape_is (cell_at cs) s levels fork_there.in_cells.2 low

    pub part_tree : IsTree cs ls.right (tree_at cs levels ls.right)
    part_tree =
        subst (λ (u : Tree). IsTree cs ls.right u) {x = s} {y = tree_at cs levels ls.right} (sym same_part)
        (subst (λ (x : Option ℕ). IsTree cs x s) {x = root_of s} {y = ls.right} (sym link_is) (tree_right cs l p k b s fork_there))

    pub part_free : count c (tree_at cs levels ls.right) ≡ 0
    part_free = ap (λ (u : Tree). count c u) same_part ∙ omega (arith, free_fork)

    pub part_above : IsAboveRight key (tree_at cs levels ls.right)
    part_above = subst (λ (u : Tree). IsAboveRight key u) {x = s} {y = tree_at cs levels ls.right} (sym same_part) above_fork.1

    module _ (mid : List Cell) (part : GrownPart) (added : IsAdded cs mid (tree_at cs levels ls.right) key part) where
      pub part_ready : IsReady mid part.root × (p < length mid)
      part_ready =
          (ready_part cs mid ls.right (tree_at cs levels ls.right) key part part_tree added, omega (arith, stop_inside, added.one_more, places_more (length cs) part.cell))

      stays_low : part.grew ≡ false
      stays_low =
          added.grew
          ∙ ap (λ (u : Tree). (inserted part.cell key u).grew) same_part
          ∙ not_grown part.cell key s uneven above_fork.1

      module _ (new : List Cell) (after : GrownPart) (same : part.cell ≡ c) (result : after ≡ joined_right_root part.grew mid p part) where
        after_is : after ≡ kept_part c p
        after_is = result ∙ ap (λ (g : Bool). joined_right_root g mid p part) stays_low ∙ ap (λ (x : ℕ). kept_part x p) same

        pub part_added : new ≡ joined_right_cells part.grew mid p part.root → IsAdded cs new (tree_at cs levels at) key (with_root at after)
        part_added cells =
            let inner : IsAdded cs mid s key part = subst (λ (u : Tree). IsAdded cs mid u key part) {x = tree_at cs levels ls.right} {y = s} same_part added in
            let none : count part.cell (Fork l p k b s) ≡ 0 = ap (λ (x : ℕ). count x (Fork l p k b s)) same ∙ free_fork in
            let joined : IsAdded cs new (Fork l p k b s) key after = put_right_at cs mid new l p k b s key part after fork_there above_fork.0 none inner cells result in
            let fork : IsAdded cs new (Fork l p k b s) key (kept_part c p) = subst (λ (x : GrownPart). IsAdded cs new (Fork l p k b s) key x) {x = after} {y = kept_part c p} after_is joined in
            let top = some_root (Fork l p k b s) (tree_at cs levels at) p there refl in
            let own : IsTree cs (root_of (tree_at cs levels at)) (tree_at cs levels at) = subst (λ (x : Option ℕ). IsTree cs x (tree_at cs levels at)) {x = at} {y = root_of (tree_at cs levels at)} tree.root tree in
            let whole : IsAdded cs new (tree_at cs levels at) key (kept_part c top.0) = lifted cs new key c (tree_at cs levels at) (Fork l p k b s) p there own above free refl fork top.0 top.1 in
            let e : at ≡ Some top.0 = tree.root ∙ sym top.1 in
            let now : with_root at after ≡ kept_part c top.0 = ap (λ (x : Option ℕ). with_root x after) e ∙ ap (λ (x : GrownPart). with_root (Some top.0) x) after_is in
            subst (λ (x : GrownPart). IsAdded cs new (tree_at cs levels at) key x) {x = kept_part c top.0} {y = with_root at after} (sym now) whole

        pub part_cost : (s0 s1 s2 : Count) → IsHangCost (tree_at cs levels ls.right) part s0 s1 → IsJoinCost part.grew after.grew s1 s2 → IsHangCost (tree_at cs levels at) (with_root at after) s0 s2
        part_cost s0 s1 s2 cost join =
            let most : most_by part.grew after.grew ≡ 1 = ap (λ (g : Bool). most_by g after.grew) stays_low in
            let first : turns_by part.grew ≡ 2 = ap turns_by stays_low in
            let then : turns_by (with_root at after).grew ≡ 2 = ap turns_by (root_grew at after ∙ ap (λ (x : GrownPart). x.grew) after_is) in
            let h : height (tree_at cs levels ls.right) ≡ height s = ap height same_part in
            let d = cost.compared in let e = cost.written in let f = join.compared in let g = join.written in
            record { compared = f ∙ d; written = omega (arith, lower) }
