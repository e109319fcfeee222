-- A key put into an index by a part of its tree.
use Rattle.std.proofs.Common.{◌≡◌, ℕ, ◌+◌, ◌-◌, ◌*◌, ◌^◌, ◌<◌, ◌≤◌, List, refl, sym, ◌∙◌, ap, arith, length, inl, inr, true, false, Option, Some, None, subst}
use Rattle.std.specs.Prelude.{Bool, is_some, slice_index_or}
use Rattle.std.specs.declared.cmp.Ordering.{Ordering}
use Rattle.span_keycode.specs.Order.{byte_order}
use Rattle.span_arena.specs.declared.cell.Cell.{Cell}
use Rattle.span_arena.specs.declared.cell.Links.{Links}
use Rattle.span_arena.specs.declared.cell.Balance.{Balance}
use Rattle.span_arena.specs.declared.version.ArenaVersion.{ArenaVersion}
use Rattle.span_arena.specs.Cells.{cell_at}
use Rattle.span_arena.specs.Content.{Content, IsNewChain}
use Rattle.span_arena.specs.Counts.{Count}
use Rattle.span_keytree.specs.declared.join.GrownPart.{GrownPart}
use Rattle.span_keytree.specs.declared.tree.TreeRoot.{TreeRoot}
use Rattle.span_keytree.specs.Arenas.{one_if_chain, IsArenaOf}
use Rattle.span_keytree.specs.Effects.{links_of}
use Rattle.span_keytree.specs.Roots.{tree_of, entries_at, IsSearchTree, IsIndex, IsSlot, IsSlotCost}
use Rattle.span_keytree.specs.Lasts.{is_after, one_if_some, IsAfterCost, IsTreeCost}
use Rattle.span_keytree.specs.Nexts.{Nexts, before_in}
use Rattle.span_keytree.specs.Puts.{tree_at, AreChains, IsTree, IsAdded, IsFound, IsPut, IsPutIn, IsNext, IsNotFound, IsSearchOf, Added, put_of}
use Rattle.span_keytree.specs.Trees.{Tree, Fork, root_of, count, height, search_in, size}
use Rattle.span_keytree.specs.Ways.{way_by, way_in, is_part_by, is_part_for, IsPartFor, IsNearSlotCost}
use Rattle.span_keytree.proofs.Avl.{few_levels}
use Rattle.span_keytree.proofs.Exits.{fork_some}
use Rattle.span_keytree.proofs.Lasts.{one_more_compared}
use Rattle.span_keytree.proofs.Linking.{held_items}
use Rattle.span_keytree.proofs.Parts.{IsPart, IsBetween, in_cells_part, count_part, height_part, root_part, part_there, between, kept_part_of, search_part, before_part, added_part}
use Rattle.span_keytree.proofs.Puts.{not_in}
use Rattle.span_keytree.proofs.Searching.{length_items, search_found}
use Rattle.span_keytree.proofs.Stopping.{kept_part}
use Rattle.span_keytree.proofs.Whole.{IsAfter, shape_is, slot_added}

-- ---- the way down, a cell further

module _ (cs : List Cell) (levels : ℕ) (at : Option ℕ) (i : ℕ) (ls : Links) (key : List ℕ) (e : at ≡ Some i) (read : ls ≡ links_of cs i) (tree : IsTree cs at (tree_at cs levels at)) where
  pub way_below_is : (o : Ordering) → o ≡ byte_order key (cell_at cs i).key
      → way_in key (tree_at cs levels at) ≡ way_by o ls.balance (way_in key (tree_at cs (levels - 1) ls.left)) (way_in key (tree_at cs (levels - 1) ls.right))
  way_below_is o is =
      ap (λ (t : Tree). way_in key t) (fork_some cs levels at i ls e read tree)
      ∙ ap (λ (x : Ordering). way_by x ls.balance (way_in key (tree_at cs (levels - 1) ls.left)) (way_in key (tree_at cs (levels - 1) ls.right))) (sym is)

  pub part_below_is : (o : Ordering) → o ≡ byte_order key (cell_at cs i).key
      → is_part_for key (tree_at cs levels at) ≡ is_part_by o (way_in key (tree_at cs (levels - 1) ls.left)) (way_in key (tree_at cs (levels - 1) ls.right))
  part_below_is o is =
      ap (λ (t : Tree). is_part_for key t) (fork_some cs levels at i ls e read tree)
      ∙ ap (λ (x : Ordering). is_part_by x (way_in key (tree_at cs (levels - 1) ls.left)) (way_in key (tree_at cs (levels - 1) ls.right))) (sym is)

-- ---- a chain is a cell of the tree

pub chain_one : (o : Option (List ArenaVersion)) → is_some o ≡ true → one_if_chain o ≡ 1
chain_one None is = absurd (let q : false ≡ true = is in cc)
chain_one (Some vs) is = refl

pub chain_there : (a : Content) (index : TreeRoot) (c : ℕ) → IsArenaOf (entries_at a.cells index) a → is_some (slice_index_or a.chains c None) ≡ true → 0 < count c (tree_of a.cells index)
chain_there a index c own is =
    omega (arith, held_items c (tree_of a.cells index), own.each c, chain_one (slice_index_or a.chains c None) is)

-- ---- the part of the tree

abbrev part_with : ℕ → ℕ → Bool → GrownPart
part_with cell root grew = record { cell = cell; root = root; grew = grew }

module _ (a : Content) (index : TreeRoot) (key : List ℕ) (p : ℕ) (l : Tree) (k : List ℕ) (b : Balance) (r : Tree)
    (own : IsSearchTree a.cells index) (there : IsPart (Fork l p k b r) (tree_of a.cells index)) where
  low : height (Fork l p k b r) ≤ index.levels
  low = omega (arith, height_part (Fork l p k b r) (tree_of a.cells index) there, own.tall)

  pub part_is : tree_at a.cells index.levels (Some p) ≡ Fork l p k b r
  part_is = shape_is (cell_at a.cells) (Fork l p k b r) index.levels (in_cells_part (cell_at a.cells) (Fork l p k b r) (tree_of a.cells index) there own.tree.in_cells) low

  tree_part : IsTree a.cells (Some p) (tree_at a.cells index.levels (Some p))
  tree_part = subst (λ (t : Tree). IsTree a.cells (Some p) t) {x = Fork l p k b r} {y = tree_at a.cells index.levels (Some p)} (sym part_is) (record {
    in_cells = in_cells_part (cell_at a.cells) (Fork l p k b r) (tree_of a.cells index) there own.tree.in_cells;
    root = refl;
    once = λ j. omega (arith, count_part j (Fork l p k b r) (tree_of a.cells index) there, own.tree.once j);
    within = λ j some. own.tree.within j (omega (arith, count_part j (Fork l p k b r) (tree_of a.cells index) there));
  })

  chains_part : AreChains a (tree_of a.cells index) → AreChains a (tree_at a.cells index.levels (Some p))
  chains_part chains j some =
      chains j (omega (arith, ap (λ (t : Tree). count j t) part_is, count_part j (Fork l p k b r) (tree_of a.cells index) there))

  low_part : height (tree_at a.cells index.levels (Some p)) ≤ height (tree_of a.cells index)
  low_part = omega (arith, ap height part_is, height_part (Fork l p k b r) (tree_of a.cells index) there)

  module _ (own_part : is_part_for key (tree_at a.cells index.levels (Some p)) ≡ true) where
    own_fork : is_part_for key (Fork l p k b r) ≡ true
    own_fork = ap (λ (t : Tree). is_part_for key t) (sym part_is) ∙ own_part

    is_between : IsBetween key (Fork l p k b r)
    is_between = between key (Fork l p k b r) own_fork

    search_is : search_in key (tree_of a.cells index) ≡ search_in key (tree_at a.cells index.levels (Some p))
    search_is = search_part key (Fork l p k b r) (tree_of a.cells index) own.rising is_between there ∙ ap (λ (t : Tree). search_in key t) (sym part_is)

    before_is : before_in key None (tree_at a.cells index.levels (Some p)) ≡ before_in key None (tree_of a.cells index)
    before_is =
        ap (λ (t : Tree). before_in key None t) part_is
        ∙ sym (before_part key None None (Fork l p k b r) (tree_of a.cells index) own.rising is_between there)

    added_is : (new : List Cell) (part : GrownPart) → IsAdded a.cells new (tree_at a.cells index.levels (Some p)) key part → count part.cell (tree_of a.cells index) ≡ 0
        → (root : ℕ) → Some root ≡ root_of (tree_of a.cells index) → IsAdded a.cells new (tree_of a.cells index) key (kept_part part.cell root)
    added_is new part added free root is =
        let inner : IsAdded a.cells new (Fork l p k b r) key part = subst (λ (t : Tree). IsAdded a.cells new t key part) {x = tree_at a.cells index.levels (Some p)} {y = Fork l p k b r} part_is added in
        let kept = kept_part_of part.cell key l p k b r own_fork in
        let same_root : part.root ≡ p = (let q : Some part.root ≡ Some p = inner.root ∙ kept.root in cc) in
        let same : part ≡ kept_part part.cell p =
        ap (λ (x : ℕ). part_with part.cell x part.grew) same_root ∙ ap (λ (g : Bool). part_with part.cell p g) (inner.grew ∙ kept.low) in
        let fork : IsAdded a.cells new (Fork l p k b r) key (kept_part part.cell p) = subst (λ (x : GrownPart). IsAdded a.cells new (Fork l p k b r) key x) {x = part} {y = kept_part part.cell p} same inner in
        let tree : IsTree a.cells (root_of (tree_of a.cells index)) (tree_of a.cells index) = subst (λ (x : Option ℕ). IsTree a.cells x (tree_of a.cells index)) {x = index.root} {y = root_of (tree_of a.cells index)} own.tree.root own.tree in
        added_part a.cells new key part.cell (tree_of a.cells index) (Fork l p k b r) p there tree own.rising is_between free refl fork root is

-- ---- by the cell that the part begins with

module _ (a : Content) (index : TreeRoot) (key : List ℕ) (p : ℕ) (own : IsSearchTree a.cells index) (some : 0 < count p (tree_of a.cells index)) where
  pub into_tree : IsTree a.cells (Some p) (tree_at a.cells index.levels (Some p))
  into_tree = let h = part_there p (tree_of a.cells index) some in tree_part a index key p h.left h.key h.balance h.right own h.there

  pub into_chains : AreChains a (tree_of a.cells index) → AreChains a (tree_at a.cells index.levels (Some p))
  into_chains chains = let h = part_there p (tree_of a.cells index) some in chains_part a index key p h.left h.key h.balance h.right own h.there chains

  pub into_low : height (tree_at a.cells index.levels (Some p)) ≤ height (tree_of a.cells index)
  into_low = let h = part_there p (tree_of a.cells index) some in low_part a index key p h.left h.key h.balance h.right own h.there

  pub into_search : (s0 s1 : Count) → IsSearchOf (tree_at a.cells index.levels (Some p)) s0 s1 → IsSearchOf (tree_of a.cells index) s0 s1
  into_search s0 s1 cost = let low = into_low in let c = cost.compared in record { compared = omega arith; written = cost.written }

  module _ (own_part : is_part_for key (tree_at a.cells index.levels (Some p)) ≡ true) where
    into_found : search_in key (tree_of a.cells index) ≡ search_in key (tree_at a.cells index.levels (Some p))
    into_found = let h = part_there p (tree_of a.cells index) some in search_is a index key p h.left h.key h.balance h.right own h.there own_part

    into_before : before_in key None (tree_at a.cells index.levels (Some p)) ≡ before_in key None (tree_of a.cells index)
    into_before = let h = part_there p (tree_of a.cells index) some in before_is a index key p h.left h.key h.balance h.right own h.there own_part

    into_added : (new : List Cell) (part : GrownPart) → IsAdded a.cells new (tree_at a.cells index.levels (Some p)) key part → count part.cell (tree_of a.cells index) ≡ 0
        → (root : ℕ) → Some root ≡ root_of (tree_of a.cells index) → IsAdded a.cells new (tree_of a.cells index) key (kept_part part.cell root)
    into_added new part added free root is =
        let h = part_there p (tree_of a.cells index) some in
        added_is a index key p h.left h.key h.balance h.right own h.there own_part new part added free root is

    into_root : (root : ℕ) × (Some root ≡ root_of (tree_of a.cells index))
    into_root = let h = part_there p (tree_of a.cells index) some in root_part (Fork h.left p h.key h.balance h.right) (tree_of a.cells index) p h.there refl

    pub into_absent : IsNotFound key (tree_at a.cells index.levels (Some p)) → IsNotFound key (tree_of a.cells index)
    into_absent none = into_found ∙ none

-- ---- what `add_key` gave

-- the index has the key
pub record IsInto (old new : Content) (ns ms : Nexts) (index : TreeRoot) (key : List ℕ) (cell : ℕ) : Type 0 where
  pub slot : IsSlot old new ns ms index index key cell
  pub own : IsIndex new.cells ms index

module _ (old new : Content) (ns ms : Nexts) (index : TreeRoot) (key : List ℕ) (p : ℕ) (part : GrownPart) (own : IsIndex old.cells ns index) (chains : AreChains old (tree_of old.cells index)) (among : is_after old.cells index.last key ≡ false) (into : IsPartFor old.cells index key p) where
  into_same : IsFound old.cells new.cells (tree_at old.cells index.levels (Some p)) key part.cell → new ≡ old → ms ≡ ns → IsInto old new ns ms index key part.cell
  into_same found arena nexts = record {
    slot = inl (record {
      here = search_found key (tree_of old.cells index) part.cell (into_found old index key p own.search into.there into.own ∙ found.here);
      arena = arena;
      nexts = nexts;
      index = refl;
    });
    own =
        subst (λ (cs : List Cell). IsIndex cs ms index) {x = old.cells} {y = new.cells} (sym found.same)
        (subst (λ (n : Nexts). IsIndex old.cells n index) {x = ns} {y = ms} (sym nexts) own);
  }

  into_more : IsAdded old.cells new.cells (tree_at old.cells index.levels (Some p)) key part → IsNewChain old new part.cell → IsNext ns ms (before_in key None (tree_at old.cells index.levels (Some p))) (Added part) → IsInto old new ns ms index key part.cell
  into_more added fresh next =
      let root = into_root old index key p own.search into.there into.own in
      let whole : IsAdded old.cells new.cells (tree_of old.cells index) key (kept_part part.cell root.0) =
      into_added old index key p own.search into.there into.own new.cells part added (not_in old new (tree_of old.cells index) part.cell chains fresh) root.0 root.1 in
      let nexts : IsNext ns ms (before_in key None (tree_of old.cells index)) (Added (kept_part part.cell root.0)) =
      subst (λ (x : Option ℕ). IsNext ns ms x (Added part)) {x = before_in key None (tree_at old.cells index.levels (Some p))} {y = before_in key None (tree_of old.cells index)} (into_before old index key p own.search into.there into.own) next in
      let after : IsAfter old new ms index index key part.cell =
      slot_added old new ns ms index index key (Added (kept_part part.cell root.0)) (kept_part part.cell root.0) own whole fresh nexts refl (own.search.tree.root ∙ sym root.1) refl refl among in
      record { slot = inr after.more; own = after.own }

  pub into_put : (b : Bool) → IsPut old.cells new.cells (tree_at old.cells index.levels (Some p)) key (put_of b part) → IsPutIn old new (put_of b part) → IsNext ns ms (before_in key None (tree_at old.cells index.levels (Some p))) (put_of b part)
      → IsInto old new ns ms index key part.cell
  into_put false put arena next = into_same put arena next
  into_put true put arena next = into_more put arena next

-- ---- what it costs

pub into_cost : (t s : Tree) (old new : Count) → height s ≤ height t → IsTreeCost (height s) s old new → IsTreeCost (height t) t old new
into_cost t s old new low cost = (let c = cost.compared in let w = cost.written in record { compared = omega arith; written = omega arith })

module _ (cs : List Cell) (ns : Nexts) (index : TreeRoot) (s0 s1 s2 s3 : Count) (own : IsIndex cs ns index) (one : IsAfterCost index.last s0 s1) (d : ℕ) (few : length (entries_at cs index) < 2 ^ d) where
  pub near_cost : IsSearchOf (tree_of cs index) s1 s2 → IsTreeCost (height (tree_of cs index)) (tree_of cs index) s2 s3 → IsNearSlotCost d s0 s3
  near_cost search cost =
      let size_few : size (tree_of cs index) < 2 ^ d = omega (arith, length_items (tree_of cs index)) in
      let low : height (tree_of cs index) ≤ 2 * d = few_levels (tree_of cs index) d own.search.avl size_few in
      let more : one_if_some index.last + height (tree_of cs index) ≤ 2 * d = one_more_compared (tree_of cs index) index.last d own.last own.search.avl size_few in
      let a = one.compared in let b = one.written in let c = search.compared in let e = search.written in let f = cost.compared in let g = cost.written in
      record { compared = omega arith; all = omega arith }

pub slot_near_cost : (d : ℕ) (s0 s1 : Count) → IsSlotCost d s0 s1 → IsNearSlotCost d s0 s1
slot_near_cost d s0 s1 cost = (let c = cost.compared in record { compared = omega arith; all = cost.all })
