-- A new cell joined to the right end of a tree.
use Rattle.std.proofs.Common.{◌≡◌, ℕ, ◌-◌, ◌<◌, ◌≤◌, List, refl, sym, ◌∙◌, ap, arith, length, true, false, Option, Some, None, subst}
use Rattle.std.specs.Prelude.{Bool, nat_lt, Ok}
use Rattle.std.specs.declared.cmp.Ordering.TheVariants.{Greater}
use Rattle.std.proofs.lemmas.Bool.Decides.{nat_tests}
use Rattle.span_keycode.specs.Order.{byte_order}
use Rattle.span_arena.specs.declared.cell.Cell.{Cell}
use Rattle.span_arena.specs.declared.cell.Links.{Links}
use Rattle.span_arena.specs.Cells.{cell_at, new_cell}
use Rattle.span_arena.specs.Content.{Content, IsNewChain, with_cells}
use Rattle.span_arena.specs.Counts.{Count}
use Rattle.span_keytree.specs.declared.join.GrownPart.{GrownPart}
use Rattle.span_keytree.specs.declared.tree.TreeRoot.{TreeRoot}
use Rattle.span_keytree.specs.Avl.{grown_height}
use Rattle.span_keytree.specs.Effects.{links_of, IsInside}
use Rattle.span_keytree.specs.Entries.{IsAbsent}
use Rattle.span_keytree.specs.Roots.{tree_of, entries_at, IsIndex}
use Rattle.span_keytree.specs.Items.{items}
use Rattle.span_keytree.specs.Joins.{joined_right_cells, joined_right_root}
use Rattle.span_keytree.specs.Lasts.{IsAboveRight, is_after, IsNewPart, turns_by, IsHangCost, IsTreeCost}
use Rattle.span_keytree.specs.Nexts.{Nexts, places_with, with_place, with_cell, before_in, last_cell}
use Rattle.span_keytree.specs.Puts.{tree_at, AreChains, IsTree, IsPut, IsPutIn, IsNext, IsAdded, IsPutCost, Added, put_of, extra, extra_of, extra_by}
use Rattle.span_keytree.specs.Trees.{Tree, Leaf, Fork, IsInCells, count, height, shape}
use Rattle.span_keytree.proofs.Counting.{stays}
use Rattle.span_keytree.proofs.Costs.{IsReady}
use Rattle.span_keytree.proofs.Exits.{fork_some, right_ready, right_added, new_relinked}
use Rattle.span_keytree.proofs.Lasts.{all_before, last_new, inside_last, above_right, not_there, before_last, last_fork}
use Rattle.span_keytree.proofs.Linking.{held_items}
use Rattle.span_keytree.proofs.Puts.{places_more, places_here, not_in}
use Rattle.span_keytree.proofs.Rising.{AllBelow}
use Rattle.span_keytree.proofs.Searching.{search_absent}
use Rattle.span_keytree.proofs.Keyed.{keys_in_cells}
use Rattle.span_keytree.proofs.Whole.{IsAfter, index_after, shape_is}

-- a cell that has a place takes no other
places_kept : (n c : ℕ) → c < n → places_with n c ≡ n
places_kept n c lt = let t : nat_lt c n ≡ true = grind (arith, nat_tests) in rw t refl

-- ---- where it leads to a cell

module _ (old : List Cell) (levels : ℕ) (at : Option ℕ) (i : ℕ) (ls : Links) (key : List ℕ) (e : at ≡ Some i) (read : ls ≡ links_of old i) (tree : IsTree old at (tree_at old levels at)) where
  above_by : IsAboveRight key (tree_at old levels at) → (byte_order key (cell_at old i).key ≡ Greater) × IsAboveRight key (tree_at old (levels - 1) ls.right)
  above_by above =
      subst (λ (t : Tree). IsAboveRight key t) {x = tree_at old levels at} {y = Fork (tree_at old (levels - 1) ls.left) i (cell_at old i).key ls.balance (tree_at old (levels - 1) ls.right)} (fork_some old levels at i ls e read tree) above

  pub above_more : IsAboveRight key (tree_at old levels at) → IsAboveRight key (tree_at old (levels - 1) ls.right)
  above_more above = (above_by above).1

  pub free_more : (c : ℕ) → count c (tree_at old levels at) ≡ 0 → count c (tree_at old (levels - 1) ls.right) ≡ 0
  free_more c free = omega (arith, ap (λ (t : Tree). count c t) (fork_some old levels at i ls e read tree))

  module _ (mid : List Cell) (part : GrownPart) (added : IsAdded old mid (tree_at old (levels - 1) ls.right) key part) where
    pub hung_ready : IsReady mid part.root × (i < length mid)
    hung_ready = right_ready old mid levels at i ls key (Added part) part e read tree added refl

    pub hung_more : (new : List Cell) (after : GrownPart) (c : ℕ) → part.cell ≡ c → count c (tree_at old levels at) ≡ 0 → IsAboveRight key (tree_at old levels at) → new ≡ joined_right_cells part.grew mid i part.root → after ≡ joined_right_root part.grew mid i part
        → IsAdded old new (tree_at old levels at) key after
    hung_more new after c same free above cells result =
        right_added old mid new levels at i ls key (Added part) part after e read tree (sym (above_by above).0) (ap (λ (x : ℕ). count x (tree_at old levels at)) same ∙ free) added refl cells result

pub last_by : (cs : List Cell) (levels : ℕ) (at : Option ℕ) (i : ℕ) (ls : Links) → at ≡ Some i → ls ≡ links_of cs i → IsTree cs at (tree_at cs levels at) → (x : Option ℕ) → last_cell x (items (tree_at cs levels at)) ≡ last_cell (Some i) (items (tree_at cs (levels - 1) ls.right))
last_by cs levels at i ls e read tree x =
    ap (λ (t : Tree). last_cell x (items t)) (fork_some cs levels at i ls e read tree)
    ∙ last_fork x (tree_at cs (levels - 1) ls.left) i (cell_at cs i).key ls.balance (tree_at cs (levels - 1) ls.right)

-- ---- the index

pub after_all : (cs : List Cell) (ns : Nexts) (index : TreeRoot) (key : List ℕ) → IsIndex cs ns index → is_after cs index.last key ≡ true → AllBelow key (entries_at cs index)
after_all cs ns index key own after =
    all_before cs key (entries_at cs index) own.search.rising (keys_in_cells cs (tree_of cs index) own.search.tree.in_cells)
    (ap (λ (o : Option ℕ). is_after cs o key) (sym own.last) ∙ after)

pub absent_after : (cs : List Cell) (ns : Nexts) (index : TreeRoot) (key : List ℕ) → IsIndex cs ns index → is_after cs index.last key ≡ true → IsAbsent (entries_at cs index) key
absent_after cs ns index key own after =
    search_absent key (tree_of cs index) own.search.rising (not_there key (tree_of cs index) (above_right key (tree_of cs index) (after_all cs ns index key own after)))

pub last_inside : (cs : List Cell) (ns : Nexts) (index : TreeRoot) → IsIndex cs ns index → IsInside cs index.last
last_inside cs ns index own =
    subst (λ (o : Option ℕ). IsInside cs o) {x = last_cell None (entries_at cs index)} {y = index.last} (sym own.last)
    (inside_last cs (entries_at cs index) (λ i some. own.search.tree.within i (omega (arith, held_items i (tree_of cs index)))))

turns_most : (b : Bool) → turns_by b ≤ 2
turns_most true = omega arith
turns_most false = omega arith

-- ---- the tree beside a new cell

-- the key alone is a tree of one new cell
pub record IsFirst (a mid : Content) (ns ms : Nexts) (key : List ℕ) (before : Option ℕ) (first : GrownPart) : Type 0 where
  pub added : IsAdded a.cells mid.cells Leaf key first
  pub fresh : IsNewChain a mid first.cell
  pub nexts : ms ≡ with_cell (with_place ns first.cell) before first.cell

pub first_alone : (a mid : Content) (ns ms : Nexts) (key : List ℕ) (before : Option ℕ) (first : GrownPart) (b : Bool) → IsPut a.cells mid.cells Leaf key (put_of b first) → IsPutIn a mid (put_of b first) → IsNext ns ms before (put_of b first) → IsFirst a mid ns ms key before first
first_alone a mid ns ms key before first false put arena next = absurd (let e : None ≡ Some first.cell = put.here in cc)
first_alone a mid ns ms key before first true put arena next = record { added = put; fresh = arena; nexts = next }

module _ (a mid : Content) (ns ms : Nexts) (index : TreeRoot) (key : List ℕ) (first : GrownPart) (own : IsIndex a.cells ns index) (chains : AreChains a (tree_of a.cells index)) (alone : IsFirst a mid ns ms key index.last first) where
  unused : count first.cell (tree_of a.cells index) ≡ 0
  unused = not_in a mid (tree_of a.cells index) first.cell chains alone.fresh

  kept : IsInCells (cell_at mid.cells) (tree_of a.cells index)
  kept =
      stays (cell_at a.cells) (cell_at mid.cells) (tree_of a.cells index)
      (λ j some. alone.added.others j (λ same. (let none : count j (tree_of a.cells index) ≡ 0 = ap (λ (x : ℕ). count x (tree_of a.cells index)) same ∙ unused in absurd (omega arith))) refl)
      own.search.tree.in_cells

  pub beside_same : tree_of mid.cells index ≡ tree_of a.cells index
  beside_same =
      let low : height (tree_of a.cells index) ≤ index.levels = (let e = own.search.tall in omega arith) in
      ap (λ (x : Option ℕ). shape (cell_at mid.cells) index.levels x) own.search.tree.root ∙ shape_is (cell_at mid.cells) (tree_of a.cells index) index.levels kept low

  pub beside_tree : IsTree mid.cells index.root (tree_of mid.cells index)
  beside_tree = subst (λ (t : Tree). IsTree mid.cells index.root t) {x = tree_of a.cells index} {y = tree_of mid.cells index} (sym beside_same) (record {
    in_cells = kept;
    root = own.search.tree.root;
    once = own.search.tree.once;
    within = λ j some. (let lt = own.search.tree.within j some in omega (arith, alone.added.one_more, places_more (length a.cells) first.cell));
  })

  own_key : (cell_at mid.cells first.cell).key ≡ key
  own_key = ap (λ (x : Cell). x.key) alone.added.in_cells.0

  pub beside_part : IsNewPart mid.cells first
  beside_part = record {
    alone = alone.added.in_cells.0 ∙ ap (λ (k : List ℕ). new_cell k) (sym own_key);
    here = (let lt = places_here (length a.cells) first.cell alone.added.number in omega (arith, alone.added.one_more));
    root = (let e : Some first.root ≡ Some first.cell = alone.added.root in cc);
    grew = alone.added.grew;
  }

  pub beside_free : count first.cell (tree_of mid.cells index) ≡ 0
  beside_free = ap (λ (t : Tree). count first.cell t) beside_same ∙ unused

  pub beside_above : is_after a.cells index.last key ≡ true → IsAboveRight (cell_at mid.cells first.cell).key (tree_of mid.cells index)
  beside_above after =
      subst (λ (k : List ℕ). IsAboveRight k (tree_of mid.cells index)) {x = key} {y = (cell_at mid.cells first.cell).key} (sym own_key)
      (subst (λ (t : Tree). IsAboveRight key t) {x = tree_of a.cells index} {y = tree_of mid.cells index} (sym beside_same) (above_right key (tree_of a.cells index) (after_all a.cells ns index key own after)))

  beside_added : (new : List Cell) (part : GrownPart) → part.cell ≡ first.cell → IsAdded mid.cells new (tree_of mid.cells index) (cell_at mid.cells first.cell).key part → IsAdded a.cells new (tree_of a.cells index) key part
  beside_added new part same there =
      let added : IsAdded mid.cells new (tree_of a.cells index) key part =
      subst (λ (t : Tree). IsAdded mid.cells new t key part) {x = tree_of mid.cells index} {y = tree_of a.cells index} beside_same
      (subst (λ (k : List ℕ). IsAdded mid.cells new (tree_of mid.cells index) k part) {x = (cell_at mid.cells first.cell).key} {y = key} own_key there) in
      let lt : part.cell < length mid.cells = (let here = beside_part.here in omega (arith, same)) in
      record {
        absent = added.absent;
        free = added.free;
        number = (let number = alone.added.number in omega (arith, same));
        one_more = added.one_more ∙ places_kept (length mid.cells) part.cell lt ∙ alone.added.one_more ∙ ap (λ (x : ℕ). places_with (length a.cells) x) (sym same);
        in_cells = added.in_cells;
        root = added.root;
        grew = added.grew;
        others = λ j differs none. added.others j differs none ∙ alone.added.others j (λ q. differs (q ∙ sym same)) refl;
      }

  pub last_added : (b : Content) (next : TreeRoot) (part : GrownPart) → is_after a.cells index.last key ≡ true
      → b ≡ with_cells mid b.cells → part.cell ≡ first.cell → IsAdded mid.cells b.cells (tree_of mid.cells index) (cell_at mid.cells first.cell).key part
      → next.root ≡ Some part.root → next.levels ≡ grown_height part.grew index.levels → next.last ≡ Some part.cell
      → IsAfter a b ms index next key part.cell
  last_added b next part is_last relinked same added root levels last =
      let all : AllBelow key (entries_at a.cells index) = after_all a.cells ns index key own is_last in
      let b_of : index.last ≡ before_in key None (tree_of a.cells index) = own.last ∙ sym (before_last key (tree_of a.cells index) own.search.rising all) in
      index_after a b ns ms index next key part own
      (beside_added b.cells part same added)
      (new_relinked a mid b b.cells (Added first) first part alone.fresh refl relinked same)
      (alone.nexts
      ∙ ap (λ (o : Option ℕ). with_cell (with_place ns first.cell) o first.cell) b_of
      ∙ ap (λ (x : ℕ). with_cell (with_place ns x) (before_in key None (tree_of a.cells index)) x) (sym same))
      root levels
      (last ∙ sym (last_new (entries_at a.cells index) key part.cell all))

  -- two entries written for the new cell, and then those of the tree
  pub last_cost : (b : Bool) (part : GrownPart) (s0 s1 s2 : Count) → IsPutCost Leaf (Ok (put_of b first)) s0 s1 → put_of b first ≡ Added first → IsHangCost (tree_of mid.cells index) part s1 s2 → IsTreeCost 0 (tree_of a.cells index) s0 s2
  last_cost b part s0 s1 s2 put is then =
      let e : height (tree_of mid.cells index) ≡ height (tree_of a.cells index) = ap height beside_same in
      let two : extra (Ok (put_of b first)) ≡ 2 = ap extra_of is ∙ ap extra_by alone.added.grew in
      let x = put.compared in let y = put.written in let z = then.compared in let w = then.written in
      record { compared = omega arith; written = omega (arith, turns_most part.grew) }

pub is_added : (a mid : List Cell) (key : List ℕ) (first : GrownPart) (b : Bool) → IsPut a mid Leaf key (put_of b first) → put_of b first ≡ Added first
is_added a mid key first false put = absurd (let e : None ≡ Some first.cell = put.here in cc)
is_added a mid key first true put = refl
