-- The tree below the root after a key more.
use Rattle.std.proofs.Common.{◌≡◌, ℕ, zero, suc, ◌+◌, ◌*◌, ◌^◌, ◌<◌, ◌≤◌, List, [], ◌∷◌, ◌++◌, refl, sym, ◌∙◌, ap, arith, length, set, inl, inr, true, false, Option, Some, None, subst, length-append}
use Rattle.std.proofs.lemmas.Bool.{cases_lt}
use Rattle.std.proofs.lemmas.Bool.Decides.{nat_tests}
use Rattle.std.specs.Prelude.{Bool, nat_lt, Result, Ok, Err, OnErr}
use Rattle.std.proofs.Math.Nat.{le-max_left, le-max_right}
use Rattle.std.proofs.lemmas.List.{length-set}
use Rattle.span_value.specs.declared.refusal.Refusal.{Refusal}
use Rattle.span_arena.specs.declared.cell.Cell.{Cell}
use Rattle.span_keytree.specs.declared.join.GrownPart.{GrownPart}
use Rattle.span_keytree.specs.Puts.{Put, Found, Added}
use Rattle.span_keytree.specs.declared.tree.TreeRoot.{TreeRoot}
use Rattle.span_keytree.specs.Trees.{Tree, Leaf, Fork, Grown, root_of, IsInCells, one_at, count, shape, height, size, IsAvl, inserted, search_in}
use Rattle.span_keytree.specs.Avl.{grown_height}
use Rattle.span_arena.specs.Counts.{Count}
use Rattle.span_arena.specs.Content.{Content, IsNewChain}
use Rattle.span_arena.specs.Cells.{cell_at}
use Rattle.span_keytree.specs.Entries.{with_entry, KeyEntry}
use Rattle.span_keytree.specs.Items.{entry, items, holders, AreRising, below, above}
use Rattle.span_keytree.specs.Nexts.{Nexts, next_of, IsLinked, places_with, with_place, with_cell, before_in, last_cell}
use Rattle.span_keytree.specs.Puts.{IsTree, IsPut, IsPutIn, IsNext, IsAdded, IsPutCost, IsSearchOf, extra, extra_by}
use Rattle.span_keytree.specs.Roots.{tree_of, entries_at, IsSearchTree, IsIndex, IsSame, IsMore, IsSlotCost, IsSearchCost}
use Rattle.span_keytree.specs.Lasts.{is_after, one_if_some, IsAfterCost, IsTreeCost}
use Rattle.span_keytree.proofs.Counts.{count_inserted}
use Rattle.span_keytree.proofs.Puts.{places_more, places_here, once_more, within_more}
use Rattle.span_keytree.proofs.Avl.{few_levels, inserted_grown}
use Rattle.span_keytree.proofs.Rising.{rising_around, rising_front, rising_back, below_all, above_all, cut_at}
use Rattle.span_keytree.proofs.Searching.{length_items, search_found, search_absent, search_other, before_is}
use Rattle.span_keytree.proofs.Placing.{items_inserted}
use Rattle.span_keytree.proofs.Lasts.{last_stays, one_more_compared}
use Rattle.span_keytree.proofs.Keyed.{keys_in_cells}
use Rattle.span_keytree.proofs.Linking.{held_items, linked_same, empty_link_same, linked_more}
use Rattle.span_keytree.proofs.Sizes.{size_most}
use Rattle.span_keytree.proofs.Exits.{found_is}

-- as many levels as the tree has show all of it
pub shape_is : (f : ℕ → Cell) (t : Tree) (n : ℕ) → IsInCells f t → height t ≤ n → shape f n (root_of t) ≡ t
shape_is f Leaf zero in_cells tall = refl
shape_is f Leaf (suc n) in_cells tall = refl
shape_is f (Fork l i k b r) zero in_cells tall = absurd (omega arith)
shape_is f (Fork l i k b r) (suc n) in_cells tall =
    let hl : height l ≤ n = omega (arith, le-max_left (height l) (height r)) in
    let hr : height r ≤ n = omega (arith, le-max_right (height l) (height r)) in
    ap (λ (x : Cell). Fork (shape f n x.links.left) i x.key x.links.balance (shape f n x.links.right)) in_cells.0
    ∙ ap (λ (x : Tree). Fork x i k b (shape f n (root_of r))) (shape_is f l n in_cells.1 hl)
    ∙ ap (λ (x : Tree). Fork l i k b x) (shape_is f r n in_cells.2 hr)

-- ---- the entries

rising_more : (key : List ℕ) (c : ℕ) (es : List KeyEntry) → AreRising (below key es ++ above key es) → AreRising (with_entry es (entry key c))
rising_more key c es rising = rising_around (below key es) (entry key c) (above key es) (record {
  front = rising_front (below key es) (above key es) rising;
  back = rising_back (below key es) (above key es) rising;
  smaller = below_all key es;
  greater = above_all key es;
})

pub length_cell : (n : Nexts) (b : Option ℕ) (c : ℕ) → length (with_cell n b c).next ≡ length n.next
length_cell n None c = length-set n.next c n.first
length_cell n (Some b) c = length-set (set n.next c (next_of n b)) b (Some c) ∙ length-set n.next c (next_of n b)

pub length_place : (n : Nexts) (c : ℕ) → length (with_place n c).next ≡ places_with (length n.next) c
length_place n c = elim (cases_lt c (length n.next)) [
  | inl lt ↦ (let t : nat_lt c (length n.next) ≡ true = grind (arith, nat_tests) in rw t refl)
  | inr ge ↦ (let t : nat_lt c (length n.next) ≡ false = grind (arith, nat_tests) in rw t (length-append n.next (None ∷ [])))
]

place_same : (n : Nexts) (c i : ℕ) → next_of (with_place n c) i ≡ next_of n i
place_same n c i = elim (cases_lt c (length n.next)) [
  | inl lt ↦ (let t : nat_lt c (length n.next) ≡ true = grind (arith, nat_tests) in rw t refl)
  | inr ge ↦ (let t : nat_lt c (length n.next) ≡ false = grind (arith, nat_tests) in rw t (empty_link_same n i))
]

place_first : (n : Nexts) (c : ℕ) → (with_place n c).first ≡ n.first
place_first n c = elim (cases_lt c (length n.next)) [
  | inl lt ↦ (let t : nat_lt c (length n.next) ≡ true = grind (arith, nat_tests) in rw t refl)
  | inr ge ↦ (let t : nat_lt c (length n.next) ≡ false = grind (arith, nat_tests) in rw t refl)
]

-- the links after a key more
linked_with : (cs : List Cell) (at : Option ℕ) (t : Tree) (ns : Nexts) (key : List ℕ) (c : ℕ) → IsTree cs at t → AreRising (items t) → IsLinked (next_of ns) ns.first (items t) → length ns.next ≡ length cs → count c t ≡ 0 → c ≤ length cs → search_in key t ≡ None
    → IsLinked (next_of (with_cell (with_place ns c) (before_in key None t) c)) (with_cell (with_place ns c) (before_in key None t) c).first (with_entry (items t) (entry key c))
linked_with cs at t ns key c tree rising linked places free number absent =
    let es = items t in
    let cut : items t ≡ below key (items t) ++ above key (items t) = cut_at key (items t) rising (search_other key t rising absent) in
    let held_is : (i : ℕ) → holders i (below key (items t) ++ above key (items t)) ≡ count i t = λ i. sym (ap (holders i) cut) ∙ held_items i t in
    let longer : length (with_place ns c).next ≡ places_with (length cs) c = length_place ns c ∙ ap (λ (m : ℕ). places_with m c) places in
    let more : length cs ≤ places_with (length cs) c = places_more (length cs) c in
    let here : c < places_with (length cs) c = places_here (length cs) c number in
    let linked : IsLinked (next_of (with_place ns c)) ns.first (items t) = linked_same (next_of ns) (next_of (with_place ns c)) ns.first (items t) (λ i s. place_same ns c i) linked in
    linked_more (with_place ns c) (below key (items t)) (above key (items t)) key c (before_in key None t) (before_is key None t rising absent) (omega arith)
    (λ i s. (let lt : i < length cs = tree.within i (omega (arith, held_is i)) in omega arith))
    (λ i. omega (arith, held_is i, tree.once i))
    (held_is c ∙ free)
    (subst (λ (x : Option ℕ). IsLinked (next_of (with_place ns c)) x (below key (items t) ++ above key (items t))) {x = ns.first} {y = (with_place ns c).first} (sym (place_first ns c))
    (subst (λ (l : List KeyEntry). IsLinked (next_of (with_place ns c)) ns.first l) {x = items t} {y = below key (items t) ++ above key (items t)} cut linked))

-- ---- the index

-- the index after a key more
pub record IsAfter (old new : Content) (ms : Nexts) (before after : TreeRoot) (key : List ℕ) (cell : ℕ) : Type 0 where
  pub own : IsIndex new.cells ms after
  pub more : IsMore old new before after key cell

module _ (a b : Content) (ns ms : Nexts) (before after : TreeRoot) (key : List ℕ) (part : GrownPart) (index : IsIndex a.cells ns before) (added : IsAdded a.cells b.cells (tree_of a.cells before) key part) (fresh : IsNewChain a b part.cell)
    (nexts : ms ≡ with_cell (with_place ns part.cell) (before_in key None (tree_of a.cells before)) part.cell) (root : after.root ≡ Some part.root) (levels : after.levels ≡ grown_height part.grew before.levels)
    (last : after.last ≡ last_cell None (with_entry (entries_at a.cells before) (entry key part.cell))) where
  g : Grown
  g = inserted part.cell key (tree_of a.cells before)

  counted : (j : ℕ) → count j (inserted part.cell key (tree_of a.cells before)).tree ≡ one_at j part.cell + count j (tree_of a.cells before)
  counted j = count_inserted j part.cell key (tree_of a.cells before) added.absent

  tall : height (inserted part.cell key (tree_of a.cells before)).tree ≡ after.levels
  tall =
      (inserted_grown part.cell key (tree_of a.cells before) index.search.avl).tall
      ∙ ap (λ (x : Bool). grown_height x (height (tree_of a.cells before))) (sym added.grew)
      ∙ ap (λ (x : ℕ). grown_height part.grew x) index.search.tall
      ∙ sym levels

  same : tree_of b.cells after ≡ (inserted part.cell key (tree_of a.cells before)).tree
  same =
      let low : height (inserted part.cell key (tree_of a.cells before)).tree ≤ after.levels = (let e = tall in omega arith) in
      ap (λ (x : Option ℕ). shape (cell_at b.cells) after.levels x) (root ∙ added.root) ∙ shape_is (cell_at b.cells) (inserted part.cell key (tree_of a.cells before)).tree after.levels added.in_cells low

  now : entries_at b.cells after ≡ with_entry (entries_at a.cells before) (entry key part.cell)
  now = ap items same ∙ items_inserted part.cell key (tree_of a.cells before) index.search.rising added.absent

  tree_now : IsTree b.cells after.root (inserted part.cell key (tree_of a.cells before)).tree
  tree_now = record {
    in_cells = added.in_cells;
    root = root ∙ added.root;
    once = λ j. omega (arith, counted j, once_more a.cells before.root (tree_of a.cells before) part.cell j index.search.tree added.free);
    within = λ j h. (let lt : j < places_with (length a.cells) part.cell = within_more a.cells before.root (tree_of a.cells before) part.cell j index.search.tree added.number (omega (arith, counted j)) in omega (arith, added.one_more));
  }

  search_after : IsSearchTree b.cells after
  search_after =
      let cut : entries_at a.cells before ≡ below key (entries_at a.cells before) ++ above key (entries_at a.cells before) =
      cut_at key (entries_at a.cells before) index.search.rising (search_other key (tree_of a.cells before) index.search.rising added.absent) in
      let rising : AreRising (with_entry (entries_at a.cells before) (entry key part.cell)) =
      rising_more key part.cell (entries_at a.cells before) (subst AreRising {x = entries_at a.cells before} {y = below key (entries_at a.cells before) ++ above key (entries_at a.cells before)} cut index.search.rising) in
      record {
        tree = subst (λ (x : Tree). IsTree b.cells after.root x) {x = (inserted part.cell key (tree_of a.cells before)).tree} {y = tree_of b.cells after} (sym same) tree_now;
        avl = subst IsAvl {x = (inserted part.cell key (tree_of a.cells before)).tree} {y = tree_of b.cells after} (sym same) (inserted_grown part.cell key (tree_of a.cells before) index.search.avl).avl;
        tall = ap height same ∙ tall;
        rising = subst AreRising {x = with_entry (entries_at a.cells before) (entry key part.cell)} {y = entries_at b.cells after} (sym now) rising;
      }

  linked_after : IsLinked (next_of ms) ms.first (entries_at b.cells after)
  linked_after =
      let then : IsLinked (next_of (with_cell (with_place ns part.cell) (before_in key None (tree_of a.cells before)) part.cell)) (with_cell (with_place ns part.cell) (before_in key None (tree_of a.cells before)) part.cell).first (with_entry (entries_at a.cells before) (entry key part.cell)) =
      linked_with a.cells before.root (tree_of a.cells before) ns key part.cell index.search.tree index.search.rising index.linked index.places added.free added.number added.absent in
      subst (λ (l : List KeyEntry). IsLinked (next_of ms) ms.first l) {x = with_entry (entries_at a.cells before) (entry key part.cell)} {y = entries_at b.cells after} (sym now)
      (subst (λ (n : Nexts). IsLinked (next_of n) n.first (with_entry (entries_at a.cells before) (entry key part.cell))) {x = with_cell (with_place ns part.cell) (before_in key None (tree_of a.cells before)) part.cell} {y = ms} (sym nexts) then)

  places_after : length ms.next ≡ length b.cells
  places_after =
      ap (λ (n : Nexts). length n.next) nexts
      ∙ length_cell (with_place ns part.cell) (before_in key None (tree_of a.cells before)) part.cell
      ∙ length_place ns part.cell
      ∙ ap (λ (m : ℕ). places_with m part.cell) index.places
      ∙ sym added.one_more

  pub index_after : IsAfter a b ms before after key part.cell
  index_after = record {
    own = record { search = search_after; linked = linked_after; places = places_after; last = last ∙ ap (λ (es : List KeyEntry). last_cell None es) (sym now) };
    more = record { absent = search_absent key (tree_of a.cells before) index.search.rising added.absent; fresh = fresh; now = now };
  }

-- a tree among cells whose number fits has few levels
pub levels_fit : (cs : List Cell) (index : TreeRoot) → IsSearchTree cs index → length cs < 2 ^ 64 → index.levels ≤ 128
levels_fit cs index own fits =
    let few : size (tree_of cs index) ≤ length cs = size_most (tree_of cs index) (length cs) own.tree.once own.tree.within in
    let low : height (tree_of cs index) ≤ 2 * 64 = few_levels (tree_of cs index) 64 own.avl (omega arith) in
    omega (arith, own.tall)

-- ---- what it costs, where there are fewer than 2 ^ d keys

most_by : (b : Bool) → extra_by b ≤ 4
most_by false = omega arith
most_by true = omega arith

extra_most : (r : Result Put Refusal) → extra r ≤ 4
extra_most (Ok (Found at)) = omega arith
extra_most (Ok (Added part)) = most_by part.grew
extra_most (Err why) = omega arith

pub tree_cost : (t : Tree) (r : Result Put Refusal) (old new : Count) → IsPutCost t r old new → IsTreeCost (height t) t old new
tree_cost t r old new cost =
    let written = cost.written in
    record { compared = cost.compared; written = omega (arith, extra_most r) }

pub slot_cost : (cs : List Cell) (ns : Nexts) (index : TreeRoot) (most : ℕ) (s0 s1 s2 : Count) → IsIndex cs ns index → most ≤ height (tree_of cs index) → IsAfterCost index.last s0 s1 → IsTreeCost most (tree_of cs index) s1 s2
    → (d : ℕ) → length (entries_at cs index) < 2 ^ d → IsSlotCost d s0 s2
slot_cost cs ns index most s0 s1 s2 own le one cost d few =
    let size_few : size (tree_of cs index) < 2 ^ d = omega (arith, length_items (tree_of cs index)) in
    let low : height (tree_of cs index) ≤ 2 * d = few_levels (tree_of cs index) d own.search.avl size_few in
    let more : one_if_some index.last + height (tree_of cs index) ≤ 2 * d = one_more_compared (tree_of cs index) index.last d own.last own.search.avl size_few in
    let a = one.compared in let b = one.written in let c = cost.compared in let e = cost.written in
    record { compared = omega arith; all = omega arith }

-- ---- what `add_key` gave

pub on_err : {T E : Type 0} (r : Result T E) (P : Type 0) → P → OnErr r P
on_err (Ok x) P p = tt
on_err (Err y) P p = p

pub slot_found : (old new : Content) (ns ms : Nexts) (index : TreeRoot) (key : List ℕ) (b : Option ℕ) (v : Put) (n : ℕ) → IsPut old.cells new.cells (tree_of old.cells index) key v → IsPutIn old new v → IsNext ns ms b v → v ≡ Found n → IsSame old new ns ms index index key n
slot_found old new ns ms index key b v n put arena next is =
    let found = found_is old.cells new.cells (tree_of old.cells index) key v n put is in
    record {
      here = search_found key (tree_of old.cells index) n found.here;
      arena = subst (λ (x : Put). IsPutIn old new x) {x = v} {y = Found n} is arena;
      nexts = subst (λ (x : Put). IsNext ns ms b x) {x = v} {y = Found n} is next;
      index = refl;
    }

pub slot_added : (old new : Content) (ns ms : Nexts) (before after : TreeRoot) (key : List ℕ) (v : Put) (part : GrownPart) → IsIndex old.cells ns before → IsPut old.cells new.cells (tree_of old.cells before) key v → IsPutIn old new v → IsNext ns ms (before_in key None (tree_of old.cells before)) v → v ≡ Added part
    → after.root ≡ Some part.root → after.levels ≡ grown_height part.grew before.levels → after.last ≡ before.last → is_after old.cells before.last key ≡ false → IsAfter old new ms before after key part.cell
slot_added old new ns ms before after key v part index put arena next is root levels last among =
    let added : IsAdded old.cells new.cells (tree_of old.cells before) key part = subst (λ (x : Put). IsPut old.cells new.cells (tree_of old.cells before) key x) {x = v} {y = Added part} is put in
    index_after old new ns ms before after key part index
    added
    (subst (λ (x : Put). IsPutIn old new x) {x = v} {y = Added part} is arena)
    (subst (λ (x : Put). IsNext ns ms (before_in key None (tree_of old.cells before)) x) {x = v} {y = Added part} is next)
    root levels
    (last ∙ index.last ∙ sym (last_stays old.cells key (entries_at old.cells before) part.cell index.search.rising (keys_in_cells old.cells (tree_of old.cells before) index.search.tree.in_cells)
    (search_other key (tree_of old.cells before) index.search.rising added.absent) (ap (λ (o : Option ℕ). is_after old.cells o key) (sym index.last) ∙ among)))

pub grown_yes : (g : Bool) (h : ℕ) → g ≡ true → h + 1 ≡ grown_height g h
grown_yes g h is = let e : h + 1 ≡ suc h = omega arith in e ∙ ap (λ (x : Bool). grown_height x h) (sym is)

pub grown_not : (g : Bool) (h : ℕ) → g ≡ false → h ≡ grown_height g h
grown_not g h is = ap (λ (x : Bool). grown_height x h) (sym is)

pub search_cost : (cs : List Cell) (index : TreeRoot) (old new : Count) → IsSearchTree cs index → IsSearchOf (tree_of cs index) old new → (d : ℕ) → length (entries_at cs index) < 2 ^ d → IsSearchCost d old new
search_cost cs index old new own cost d few =
    let low : height (tree_of cs index) ≤ 2 * d = few_levels (tree_of cs index) d own.avl (omega (arith, length_items (tree_of cs index))) in
    let compared = cost.compared in
    record { compared = omega arith; written = cost.written }
