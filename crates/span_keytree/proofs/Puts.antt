-- A key put into a part of a tree of cells is put into the tree.
use Rattle.std.proofs.Common.{◌≡◌, ◌≢◌, ℕ, zero, suc, ◌+◌, ◌-◌, ◌<◌, ◌≤◌, List, [], ◌∷◌, ◌++◌, refl, sym, ◌∙◌, ap, arith, length, inl, inr, true, false, Option, Some, None, subst, get_or, length-append}
use Rattle.std.specs.Prelude.{Bool, nat_lt}
use Rattle.std.specs.declared.cmp.Ordering.{Ordering}
use Rattle.std.specs.declared.cmp.Ordering.TheVariants.{Less, Greater}
use Rattle.std.proofs.lemmas.Bool.{cases_lt, cases_eq}
use Rattle.std.proofs.lemmas.List.{get_or_append_left, get_or-set_other}
use Rattle.std.proofs.lemmas.Bool.Decides.{nat_tests}
use Rattle.std.proofs.Math.ListN.{get_or-eq_default}
use Rattle.span_arena.specs.Content.{Content, IsChain, IsNewChain, with_at}
use Rattle.span_keycode.specs.Order.{byte_order}
use Rattle.span_arena.specs.declared.cell.Cell.{Cell}
use Rattle.span_arena.specs.declared.cell.Balance.{Balance}
use Rattle.span_arena.specs.declared.cell.Balance.TheVariants.{LeftHigh, Even, RightHigh}
use Rattle.span_keytree.specs.declared.join.GrownPart.{GrownPart}
use Rattle.span_keytree.specs.Trees.{Tree, Fork, Grown, root_of, cell_of, IsInCells, one_at, count, joined_left, joined_right, placed, inserted, by_side, search_in}
use Rattle.span_arena.specs.Cells.{cell_at}
use Rattle.span_keytree.specs.Effects.{links_of}
use Rattle.span_keytree.specs.Joins.{joined_left_cells, joined_left_root, higher_left_root, joined_right_cells, joined_right_root, higher_right_root}
use Rattle.span_keytree.specs.Nexts.{places_with}
use Rattle.span_keytree.specs.Puts.{tree_at, AreChains, IsTree, IsAdded}
use Rattle.span_keytree.proofs.Counting.{one_here, one_same, one_other, stays}
use Rattle.span_keytree.proofs.Counts.{count_inserted, count_joined_left, count_joined_right}
use Rattle.span_keytree.proofs.Joined.{joined_left_is, joined_right_is}

-- the tree below a link that leads to a cell
pub record IsFork (cs : List Cell) (levels i : ℕ) : Type 0 where
  pub some : 0 < levels
  pub is : tree_at cs levels (Some i) ≡ Fork (tree_at cs (levels - 1) (links_of cs i).left) i (cell_at cs i).key (links_of cs i).balance (tree_at cs (levels - 1) (links_of cs i).right)

pub fork_at : (cs : List Cell) (levels i : ℕ) → IsTree cs (Some i) (tree_at cs levels (Some i)) → IsFork cs levels i
fork_at cs zero i tree = absurd (let e : Some i ≡ None = tree.root in cc)
fork_at cs (suc n) i tree = let e : suc n - 1 ≡ n = omega arith in record { some = omega arith; is = rw e refl }

left_tree : (cs : List Cell) (l : Tree) (i : ℕ) (k : List ℕ) (b : Balance) (r : Tree) → IsTree cs (Some i) (Fork l i k b r) → IsTree cs (links_of cs i).left l
left_tree cs l i k b r tree = record {
  in_cells = tree.in_cells.1;
  root = ap (λ (x : Cell). x.links.left) tree.in_cells.0;
  once = λ j. omega (arith, tree.once j);
  within = λ j h. tree.within j (omega arith);
}

right_tree : (cs : List Cell) (l : Tree) (i : ℕ) (k : List ℕ) (b : Balance) (r : Tree) → IsTree cs (Some i) (Fork l i k b r) → IsTree cs (links_of cs i).right r
right_tree cs l i k b r tree = record {
  in_cells = tree.in_cells.2;
  root = ap (λ (x : Cell). x.links.right) tree.in_cells.0;
  once = λ j. omega (arith, tree.once j);
  within = λ j h. tree.within j (omega arith);
}

as_fork : (cs : List Cell) (levels i : ℕ) → IsTree cs (Some i) (tree_at cs levels (Some i))
    → IsTree cs (Some i) (Fork (tree_at cs (levels - 1) (links_of cs i).left) i (cell_at cs i).key (links_of cs i).balance (tree_at cs (levels - 1) (links_of cs i).right))
as_fork cs levels i tree = subst (λ (t : Tree). IsTree cs (Some i) t) {x = tree_at cs levels (Some i)} {y = Fork (tree_at cs (levels - 1) (links_of cs i).left) i (cell_at cs i).key (links_of cs i).balance (tree_at cs (levels - 1) (links_of cs i).right)} (fork_at cs levels i tree).is tree

pub left_part : (cs : List Cell) (levels i : ℕ) → IsTree cs (Some i) (tree_at cs levels (Some i)) → IsTree cs (links_of cs i).left (tree_at cs (levels - 1) (links_of cs i).left)
left_part cs levels i tree = left_tree cs (tree_at cs (levels - 1) (links_of cs i).left) i (cell_at cs i).key (links_of cs i).balance (tree_at cs (levels - 1) (links_of cs i).right) (as_fork cs levels i tree)

pub right_part : (cs : List Cell) (levels i : ℕ) → IsTree cs (Some i) (tree_at cs levels (Some i)) → IsTree cs (links_of cs i).right (tree_at cs (levels - 1) (links_of cs i).right)
right_part cs levels i tree = right_tree cs (tree_at cs (levels - 1) (links_of cs i).left) i (cell_at cs i).key (links_of cs i).balance (tree_at cs (levels - 1) (links_of cs i).right) (as_fork cs levels i tree)

pub left_chains : (a : Content) (levels i : ℕ) → IsTree a.cells (Some i) (tree_at a.cells levels (Some i)) → AreChains a (tree_at a.cells levels (Some i)) → AreChains a (tree_at a.cells (levels - 1) (links_of a.cells i).left)
left_chains a levels i tree chains j some = chains j (let e = ap (λ (t : Tree). count j t) (fork_at a.cells levels i tree).is in omega (arith, e))

pub right_chains : (a : Content) (levels i : ℕ) → IsTree a.cells (Some i) (tree_at a.cells levels (Some i)) → AreChains a (tree_at a.cells levels (Some i)) → AreChains a (tree_at a.cells (levels - 1) (links_of a.cells i).right)
right_chains a levels i tree chains j some = chains j (let e = ap (λ (t : Tree). count j t) (fork_at a.cells levels i tree).is in omega (arith, e))

pub in_range : (cs : List Cell) (levels i : ℕ) → IsTree cs (Some i) (tree_at cs levels (Some i)) → i < length cs
in_range cs levels i tree = (as_fork cs levels i tree).within i (omega (arith, one_here i))

-- ---- the first key

pub places_more : (n c : ℕ) → n ≤ places_with n c
places_more n c = elim (cases_lt c n) [
  | inl lt ↦ (let t : nat_lt c n ≡ true = grind (arith, nat_tests) in rw t (omega arith))
  | inr ge ↦ (let t : nat_lt c n ≡ false = grind (arith, nat_tests) in rw t (omega arith))
]

pub places_here : (n c : ℕ) → c ≤ n → c < places_with n c
places_here n c le = elim (cases_lt c n) [
  | inl lt ↦ (let t : nat_lt c n ≡ true = grind (arith, nat_tests) in rw t lt)
  | inr ge ↦ (let t : nat_lt c n ≡ false = grind (arith, nat_tests) in rw t (omega arith))
]

pub elsewhere : {A : Type 0} → (xs : List A) (c i : ℕ) (x d : A) → i ≢ c → c ≤ length xs → get_or (with_at xs c x) i d ≡ get_or xs i d
elsewhere xs c i x d differs le = elim (cases_lt c (length xs)) [
  | inl lt ↦ (let t : nat_lt c (length xs) ≡ true = grind (arith, nat_tests) in rw t (get_or-set_other xs c i x d differs))
  | inr ge ↦ (let t : nat_lt c (length xs) ≡ false = grind (arith, nat_tests) in rw t (elim (cases_lt i (length xs)) [
    | inl below ↦ get_or_append_left xs (x ∷ []) d i below
    | inr past ↦ (let long : length (xs ++ x ∷ []) ≤ i = omega (arith, length-append xs (x ∷ [])) in get_or-eq_default (xs ++ x ∷ []) d long ∙ sym (get_or-eq_default xs d past))
  ]))
]

-- ---- the left part

cell_higher_left : (b : Balance) (cs : List Cell) (n : ℕ) (part : GrownPart) → (higher_left_root b cs n part).cell ≡ part.cell
cell_higher_left LeftHigh cs n part = refl
cell_higher_left Even cs n part = refl
cell_higher_left RightHigh cs n part = refl

pub cell_left : (grew : Bool) (cs : List Cell) (n : ℕ) (part : GrownPart) → (joined_left_root grew cs n part).cell ≡ part.cell
cell_left false cs n part = refl
cell_left true cs n part = cell_higher_left (links_of cs n).balance cs n part

cell_higher_right : (b : Balance) (cs : List Cell) (n : ℕ) (part : GrownPart) → (higher_right_root b cs n part).cell ≡ part.cell
cell_higher_right LeftHigh cs n part = refl
cell_higher_right Even cs n part = refl
cell_higher_right RightHigh cs n part = refl

pub cell_right : (grew : Bool) (cs : List Cell) (n : ℕ) (part : GrownPart) → (joined_right_root grew cs n part).cell ≡ part.cell
cell_right false cs n part = refl
cell_right true cs n part = cell_higher_right (links_of cs n).balance cs n part

-- no tree of chains has the number of a new one yet
pub not_in : (a b : Content) (t : Tree) (c : ℕ) → AreChains a t → IsNewChain a b c → count c t ≡ 0
not_in a b t c chains fresh = elim (cases_lt 0 (count c t)) [
  | inl some ↦ (let there : IsChain a c = chains c some in let q : None ≡ Some there.0 = sym fresh.was_none ∙ there.1 in absurd cc)
  | inr none ↦ omega arith
]

-- with one cell more each is there once
pub once_more : (cs : List Cell) (at : Option ℕ) (t : Tree) (new j : ℕ) → IsTree cs at t → count new t ≡ 0 → one_at j new + count j t ≤ 1
once_more cs at t new j tree free = elim (cases_eq j new) [
  | inl same ↦ (let none : count j t ≡ 0 = ap (λ (x : ℕ). count x t) same ∙ free in omega (arith, one_same j new same))
  | inr differs ↦ omega (arith, one_other j new differs, tree.once j)
]

pub within_more : (cs : List Cell) (at : Option ℕ) (t : Tree) (new j : ℕ) → IsTree cs at t → new ≤ length cs → 0 < one_at j new + count j t → j < places_with (length cs) new
within_more cs at t new j tree le some = elim (cases_eq j new) [
  | inl same ↦ (let here : new < places_with (length cs) new = places_here (length cs) new le in omega arith)
  | inr differs ↦ (let lt : j < length cs = tree.within j (omega (arith, one_other j new differs)) in omega (arith, places_more (length cs) new))
]

pub put_left_at : (old mid new : List Cell) (l : Tree) (i : ℕ) (k : List ℕ) (b : Balance) (r : Tree) (key : List ℕ) (part after : GrownPart)
    → IsTree old (Some i) (Fork l i k b r) → byte_order key k ≡ Less → count part.cell (Fork l i k b r) ≡ 0 → IsAdded old mid l key part
    → new ≡ joined_left_cells part.grew mid i part.root → after ≡ joined_left_root part.grew mid i part
    → IsAdded old new (Fork l i k b r) key after
put_left_at old mid new l i k b r key part after tree less free added cells result =
    let g = inserted part.cell key l in
    let counted : (j : ℕ) → count j g.tree ≡ one_at j part.cell + count j l = λ j. count_inserted j part.cell key l added.absent in
    let once : (j : ℕ) → one_at j i + (count j g.tree + count j r) ≤ 1 = λ j. omega (arith, counted j, once_more old (Some i) (Fork l i k b r) part.cell j tree free) in
    let more : (j : ℕ) → 0 < count j g.tree → j < length mid = λ j h.
    (let lt : j < places_with (length old) part.cell = within_more old (Some i) (Fork l i k b r) part.cell j tree added.number (omega (arith, counted j)) in omega (arith, added.one_more)) in
    let lti : i < length old = tree.within i (omega (arith, one_here i)) in
    let other : (j : ℕ) → 0 < count j (Fork l i k b r) → j ≢ part.cell = λ j h same. (let none : count j (Fork l i k b r) ≡ 0 = ap (λ (x : ℕ). count x (Fork l i k b r)) same ∙ free in absurd (omega arith)) in
    let cell : cell_at mid i ≡ cell_of l k b r = added.others i (other i (omega (arith, one_here i))) (omega (arith, one_here i, tree.once i)) ∙ tree.in_cells.0 in
    let rest : IsInCells (cell_at mid) r = stays (cell_at old) (cell_at mid) r (λ j h. added.others j (other j (omega arith)) (omega (arith, tree.once j))) tree.in_cells.2 in
    let now = joined_left_is part.grew mid l g.tree part i k b r (omega (arith, added.one_more, places_more (length old) part.cell)) more cell added.root added.in_cells rest once in
    let counts : (j : ℕ) → count j (joined_left part.grew g.tree i k b r).tree ≡ one_at j i + (count j g.tree + count j r) = λ j. count_joined_left j part.grew g.tree i k b r in
    let cell_same : after.cell ≡ part.cell = ap (λ (p : GrownPart). p.cell) result ∙ cell_left part.grew mid i part in
    let tree_is : joined_left part.grew g.tree i k b r ≡ inserted after.cell key (Fork l i k b r) =
    ap (λ (x : Bool). joined_left x g.tree i k b r) added.grew
    ∙ ap (λ (o : Ordering). placed o (inserted part.cell key l) (inserted part.cell key r) l i k b r) (sym less)
    ∙ ap (λ (x : ℕ). inserted x key (Fork l i k b r)) (sym cell_same) in
    let in_cells_mid : IsInCells (cell_at new) (joined_left part.grew g.tree i k b r).tree = subst (λ (cs : List Cell). IsInCells (cell_at cs) (joined_left part.grew g.tree i k b r).tree) {x = joined_left_cells part.grew mid i part.root} {y = new} (sym cells) now.0.in_cells in
    record {
      absent = ap (λ (o : Ordering). by_side o (search_in key l) i (search_in key r)) less ∙ added.absent;
      free = ap (λ (x : ℕ). count x (Fork l i k b r)) cell_same ∙ free;
      number = (let le = added.number in omega (arith, cell_same));
      one_more = ap length cells ∙ now.0.same_length ∙ added.one_more ∙ ap (λ (x : ℕ). places_with (length old) x) (sym cell_same);
      in_cells = subst (λ (x : Grown). IsInCells (cell_at new) x.tree) {x = joined_left part.grew g.tree i k b r} {y = inserted after.cell key (Fork l i k b r)} tree_is in_cells_mid;
      root = ap (λ (p : GrownPart). Some p.root) result ∙ now.0.first ∙ ap (λ (x : Grown). root_of x.tree) tree_is;
      grew = ap (λ (p : GrownPart). p.grew) result ∙ now.1 ∙ ap (λ (x : Grown). x.grew) tree_is;
      others = λ j differs none.
          ap (λ (cs : List Cell). cell_at cs j) cells
          ∙ now.0.others j (let d : one_at j part.cell ≡ 0 = one_other j part.cell (λ same. differs (same ∙ sym cell_same)) in omega (arith, counts j, counted j))
          ∙ added.others j (λ same. differs (same ∙ sym cell_same)) (omega arith);
    }

pub put_left : (old mid new : List Cell) (levels i : ℕ) (key : List ℕ) (part after : GrownPart)
    → IsTree old (Some i) (tree_at old levels (Some i)) → byte_order key (cell_at old i).key ≡ Less → count part.cell (tree_at old levels (Some i)) ≡ 0 → IsAdded old mid (tree_at old (levels - 1) (links_of old i).left) key part
    → new ≡ joined_left_cells part.grew mid i part.root → after ≡ joined_left_root part.grew mid i part
    → IsAdded old new (tree_at old levels (Some i)) key after
put_left old mid new levels i key part after tree less free added cells result =
    subst (λ (t : Tree). IsAdded old new t key after) {x = Fork (tree_at old (levels - 1) (links_of old i).left) i (cell_at old i).key (links_of old i).balance (tree_at old (levels - 1) (links_of old i).right)} {y = tree_at old levels (Some i)} (sym (fork_at old levels i tree).is)
    (put_left_at old mid new (tree_at old (levels - 1) (links_of old i).left) i (cell_at old i).key (links_of old i).balance (tree_at old (levels - 1) (links_of old i).right) key part after (as_fork old levels i tree) less (ap (λ (t : Tree). count part.cell t) (sym (fork_at old levels i tree).is) ∙ free) added cells result)

-- ---- the right part

pub put_right_at : (old mid new : List Cell) (l : Tree) (i : ℕ) (k : List ℕ) (b : Balance) (r : Tree) (key : List ℕ) (part after : GrownPart)
    → IsTree old (Some i) (Fork l i k b r) → byte_order key k ≡ Greater → count part.cell (Fork l i k b r) ≡ 0 → IsAdded old mid r key part
    → new ≡ joined_right_cells part.grew mid i part.root → after ≡ joined_right_root part.grew mid i part
    → IsAdded old new (Fork l i k b r) key after
put_right_at old mid new l i k b r key part after tree greater free added cells result =
    let g = inserted part.cell key r in
    let counted : (j : ℕ) → count j g.tree ≡ one_at j part.cell + count j r = λ j. count_inserted j part.cell key r added.absent in
    let once : (j : ℕ) → one_at j i + (count j l + count j g.tree) ≤ 1 = λ j. omega (arith, counted j, once_more old (Some i) (Fork l i k b r) part.cell j tree free) in
    let more : (j : ℕ) → 0 < count j g.tree → j < length mid = λ j h.
    (let lt : j < places_with (length old) part.cell = within_more old (Some i) (Fork l i k b r) part.cell j tree added.number (omega (arith, counted j)) in omega (arith, added.one_more)) in
    let lti : i < length old = tree.within i (omega (arith, one_here i)) in
    let other : (j : ℕ) → 0 < count j (Fork l i k b r) → j ≢ part.cell = λ j h same. (let none : count j (Fork l i k b r) ≡ 0 = ap (λ (x : ℕ). count x (Fork l i k b r)) same ∙ free in absurd (omega arith)) in
    let cell : cell_at mid i ≡ cell_of l k b r = added.others i (other i (omega (arith, one_here i))) (omega (arith, one_here i, tree.once i)) ∙ tree.in_cells.0 in
    let rest : IsInCells (cell_at mid) l = stays (cell_at old) (cell_at mid) l (λ j h. added.others j (other j (omega arith)) (omega (arith, tree.once j))) tree.in_cells.1 in
    let now = joined_right_is part.grew mid r g.tree part i k b l (omega (arith, added.one_more, places_more (length old) part.cell)) more cell added.root rest added.in_cells once in
    let counts : (j : ℕ) → count j (joined_right part.grew l i k b g.tree).tree ≡ one_at j i + (count j l + count j g.tree) = λ j. count_joined_right j part.grew l i k b g.tree in
    let cell_same : after.cell ≡ part.cell = ap (λ (p : GrownPart). p.cell) result ∙ cell_right part.grew mid i part in
    let tree_is : joined_right part.grew l i k b g.tree ≡ inserted after.cell key (Fork l i k b r) =
    ap (λ (x : Bool). joined_right x l i k b g.tree) added.grew
    ∙ ap (λ (o : Ordering). placed o (inserted part.cell key l) (inserted part.cell key r) l i k b r) (sym greater)
    ∙ ap (λ (x : ℕ). inserted x key (Fork l i k b r)) (sym cell_same) in
    let in_cells_mid : IsInCells (cell_at new) (joined_right part.grew l i k b g.tree).tree = subst (λ (cs : List Cell). IsInCells (cell_at cs) (joined_right part.grew l i k b g.tree).tree) {x = joined_right_cells part.grew mid i part.root} {y = new} (sym cells) now.0.in_cells in
    record {
      absent = ap (λ (o : Ordering). by_side o (search_in key l) i (search_in key r)) greater ∙ added.absent;
      free = ap (λ (x : ℕ). count x (Fork l i k b r)) cell_same ∙ free;
      number = (let le = added.number in omega (arith, cell_same));
      one_more = ap length cells ∙ now.0.same_length ∙ added.one_more ∙ ap (λ (x : ℕ). places_with (length old) x) (sym cell_same);
      in_cells = subst (λ (x : Grown). IsInCells (cell_at new) x.tree) {x = joined_right part.grew l i k b g.tree} {y = inserted after.cell key (Fork l i k b r)} tree_is in_cells_mid;
      root = ap (λ (p : GrownPart). Some p.root) result ∙ now.0.first ∙ ap (λ (x : Grown). root_of x.tree) tree_is;
      grew = ap (λ (p : GrownPart). p.grew) result ∙ now.1 ∙ ap (λ (x : Grown). x.grew) tree_is;
      others = λ j differs none.
          ap (λ (cs : List Cell). cell_at cs j) cells
          ∙ now.0.others j (let d : one_at j part.cell ≡ 0 = one_other j part.cell (λ same. differs (same ∙ sym cell_same)) in omega (arith, counts j, counted j))
          ∙ added.others j (λ same. differs (same ∙ sym cell_same)) (omega arith);
    }

pub put_right : (old mid new : List Cell) (levels i : ℕ) (key : List ℕ) (part after : GrownPart)
    → IsTree old (Some i) (tree_at old levels (Some i)) → byte_order key (cell_at old i).key ≡ Greater → count part.cell (tree_at old levels (Some i)) ≡ 0 → IsAdded old mid (tree_at old (levels - 1) (links_of old i).right) key part
    → new ≡ joined_right_cells part.grew mid i part.root → after ≡ joined_right_root part.grew mid i part
    → IsAdded old new (tree_at old levels (Some i)) key after
put_right old mid new levels i key part after tree greater free added cells result =
    subst (λ (t : Tree). IsAdded old new t key after) {x = Fork (tree_at old (levels - 1) (links_of old i).left) i (cell_at old i).key (links_of old i).balance (tree_at old (levels - 1) (links_of old i).right)} {y = tree_at old levels (Some i)} (sym (fork_at old levels i tree).is)
    (put_right_at old mid new (tree_at old (levels - 1) (links_of old i).left) i (cell_at old i).key (links_of old i).balance (tree_at old (levels - 1) (links_of old i).right) key part after (as_fork old levels i tree) greater (ap (λ (t : Tree). count part.cell t) (sym (fork_at old levels i tree).is) ∙ free) added cells result)
