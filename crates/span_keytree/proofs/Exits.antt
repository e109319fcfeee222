-- The facts of `add_key`, at a link that was found to lead to a cell, and links that were read.
use Rattle.std.proofs.Common.{◌≡◌, ℕ, ◌-◌, ◌<◌, List, [], sym, ◌∙◌, ap, arith, length, Option, Some, subst, cond}
use Rattle.span_arena.specs.declared.cell.Cell.{Cell}
use Rattle.span_arena.specs.declared.cell.Links.{Links}
use Rattle.std.specs.declared.cmp.Ordering.{Ordering}
use Rattle.std.specs.declared.cmp.Ordering.TheVariants.{Less, Greater}
use Rattle.span_keycode.specs.Order.{byte_order}
use Rattle.span_keytree.specs.declared.join.GrownPart.{GrownPart}
use Rattle.span_keytree.specs.Puts.{Put, Found, Added}
use Rattle.span_keytree.specs.Joins.{joined_left_cells, joined_left_root, joined_right_cells, joined_right_root}
use Rattle.span_arena.specs.Content.{Content, IsNewChain, with_at, with_cells}
use Rattle.span_arena.specs.Cells.{cell_at, is_past}
use Rattle.span_keytree.specs.Effects.{links_of}
use Rattle.span_keytree.specs.Trees.{Tree, Fork, count, by_side, search_in}
use Rattle.std.specs.Prelude.{Bool}
use Rattle.span_keytree.specs.Nexts.{Nexts, with_place, with_cell, before_in, first_in, first_past}
use Rattle.span_keytree.specs.Puts.{tree_at, AreChains, IsTree, IsPut, IsPutIn, IsFound, IsAdded, IsNext}
use Rattle.span_keytree.proofs.Puts.{places_more, not_in, left_chains, right_chains, fork_at, left_part, right_part, in_range, put_left, put_right, cell_left, cell_right}
use Rattle.span_keytree.proofs.Costs.{IsReady, ready_part}

pub tree_some : (cs : List Cell) (levels : ℕ) (at : Option ℕ) (i : ℕ) → at ≡ Some i → IsTree cs at (tree_at cs levels at) → IsTree cs (Some i) (tree_at cs levels (Some i))
tree_some cs levels at i e tree = subst (λ (x : Option ℕ). IsTree cs x (tree_at cs levels x)) {x = at} {y = Some i} e tree

pub range_some : (cs : List Cell) (levels : ℕ) (at : Option ℕ) (i : ℕ) → at ≡ Some i → IsTree cs at (tree_at cs levels at) → i < length cs
range_some cs levels at i e tree = in_range cs levels i (tree_some cs levels at i e tree)

pub left_some : (cs : List Cell) (levels : ℕ) (at : Option ℕ) (i : ℕ) (ls : Links) → at ≡ Some i → ls ≡ links_of cs i → IsTree cs at (tree_at cs levels at) → IsTree cs ls.left (tree_at cs (levels - 1) ls.left)
left_some cs levels at i ls e read tree = subst (λ (x : Links). IsTree cs x.left (tree_at cs (levels - 1) x.left)) {x = links_of cs i} {y = ls} (sym read) (left_part cs levels i (tree_some cs levels at i e tree))

pub right_some : (cs : List Cell) (levels : ℕ) (at : Option ℕ) (i : ℕ) (ls : Links) → at ≡ Some i → ls ≡ links_of cs i → IsTree cs at (tree_at cs levels at) → IsTree cs ls.right (tree_at cs (levels - 1) ls.right)
right_some cs levels at i ls e read tree = subst (λ (x : Links). IsTree cs x.right (tree_at cs (levels - 1) x.right)) {x = links_of cs i} {y = ls} (sym read) (right_part cs levels i (tree_some cs levels at i e tree))

-- ---- what the part's call gave, at the link that was read

pub left_ready : (old mid : List Cell) (levels : ℕ) (at : Option ℕ) (i : ℕ) (ls : Links) (key : List ℕ) (v : Put) (part : GrownPart) → at ≡ Some i → ls ≡ links_of old i → IsTree old at (tree_at old levels at)
    → IsPut old mid (tree_at old (levels - 1) ls.left) key v → v ≡ Added part → IsReady mid part.root × (i < length mid)
left_ready old mid levels at i ls key v part e read tree put is =
    let added : IsAdded old mid (tree_at old (levels - 1) ls.left) key part = subst (λ (x : Put). IsPut old mid (tree_at old (levels - 1) ls.left) key x) {x = v} {y = Added part} is put in
    let lt : i < length old = range_some old levels at i e tree in
    (ready_part old mid ls.left (tree_at old (levels - 1) ls.left) key part (left_some old levels at i ls e read tree) added, omega (arith, added.one_more, places_more (length old) part.cell))

pub right_ready : (old mid : List Cell) (levels : ℕ) (at : Option ℕ) (i : ℕ) (ls : Links) (key : List ℕ) (v : Put) (part : GrownPart) → at ≡ Some i → ls ≡ links_of old i → IsTree old at (tree_at old levels at)
    → IsPut old mid (tree_at old (levels - 1) ls.right) key v → v ≡ Added part → IsReady mid part.root × (i < length mid)
right_ready old mid levels at i ls key v part e read tree put is =
    let added : IsAdded old mid (tree_at old (levels - 1) ls.right) key part = subst (λ (x : Put). IsPut old mid (tree_at old (levels - 1) ls.right) key x) {x = v} {y = Added part} is put in
    let lt : i < length old = range_some old levels at i e tree in
    (ready_part old mid ls.right (tree_at old (levels - 1) ls.right) key part (right_some old levels at i ls e read tree) added, omega (arith, added.one_more, places_more (length old) part.cell))

pub left_added : (old mid new : List Cell) (levels : ℕ) (at : Option ℕ) (i : ℕ) (ls : Links) (key : List ℕ) (v : Put) (part after : GrownPart) → at ≡ Some i → ls ≡ links_of old i → IsTree old at (tree_at old levels at)
    → Less ≡ byte_order key (cell_at old i).key → count part.cell (tree_at old levels at) ≡ 0 → IsPut old mid (tree_at old (levels - 1) ls.left) key v → v ≡ Added part
    → new ≡ joined_left_cells part.grew mid i part.root → after ≡ joined_left_root part.grew mid i part → IsAdded old new (tree_at old levels at) key after
left_added old mid new levels at i ls key v part after e read tree less free put is cells result =
    let added : IsAdded old mid (tree_at old (levels - 1) ls.left) key part = subst (λ (x : Put). IsPut old mid (tree_at old (levels - 1) ls.left) key x) {x = v} {y = Added part} is put in
    let there : IsAdded old mid (tree_at old (levels - 1) (links_of old i).left) key part = subst (λ (x : Links). IsAdded old mid (tree_at old (levels - 1) x.left) key part) {x = ls} {y = links_of old i} read added in
    subst (λ (x : Option ℕ). IsAdded old new (tree_at old levels x) key after) {x = Some i} {y = at} (sym e)
    (put_left old mid new levels i key part after (tree_some old levels at i e tree) (sym less) (ap (λ (x : Option ℕ). count part.cell (tree_at old levels x)) (sym e) ∙ free) there cells result)

pub right_added : (old mid new : List Cell) (levels : ℕ) (at : Option ℕ) (i : ℕ) (ls : Links) (key : List ℕ) (v : Put) (part after : GrownPart) → at ≡ Some i → ls ≡ links_of old i → IsTree old at (tree_at old levels at)
    → Greater ≡ byte_order key (cell_at old i).key → count part.cell (tree_at old levels at) ≡ 0 → IsPut old mid (tree_at old (levels - 1) ls.right) key v → v ≡ Added part
    → new ≡ joined_right_cells part.grew mid i part.root → after ≡ joined_right_root part.grew mid i part → IsAdded old new (tree_at old levels at) key after
right_added old mid new levels at i ls key v part after e read tree greater free put is cells result =
    let added : IsAdded old mid (tree_at old (levels - 1) ls.right) key part = subst (λ (x : Put). IsPut old mid (tree_at old (levels - 1) ls.right) key x) {x = v} {y = Added part} is put in
    let there : IsAdded old mid (tree_at old (levels - 1) (links_of old i).right) key part = subst (λ (x : Links). IsAdded old mid (tree_at old (levels - 1) x.right) key part) {x = ls} {y = links_of old i} read added in
    subst (λ (x : Option ℕ). IsAdded old new (tree_at old levels x) key after) {x = Some i} {y = at} (sym e)
    (put_right old mid new levels i key part after (tree_some old levels at i e tree) (sym greater) (ap (λ (x : Option ℕ). count part.cell (tree_at old levels x)) (sym e) ∙ free) there cells result)

-- ---- what is read of the tree at a cell goes on in a part

pub fork_some : (cs : List Cell) (levels : ℕ) (at : Option ℕ) (i : ℕ) (ls : Links) → at ≡ Some i → ls ≡ links_of cs i → IsTree cs at (tree_at cs levels at)
    → tree_at cs levels at ≡ Fork (tree_at cs (levels - 1) ls.left) i (cell_at cs i).key ls.balance (tree_at cs (levels - 1) ls.right)
fork_some cs levels at i ls e read tree =
    ap (λ (x : Option ℕ). tree_at cs levels x) e
    ∙ (fork_at cs levels i (tree_some cs levels at i e tree)).is
    ∙ ap (λ (x : Links). Fork (tree_at cs (levels - 1) x.left) i (cell_at cs i).key x.balance (tree_at cs (levels - 1) x.right)) (sym read)

module _ (cs : List Cell) (levels : ℕ) (at : Option ℕ) (i : ℕ) (ls : Links) (key : List ℕ) (e : at ≡ Some i) (read : ls ≡ links_of cs i) (tree : IsTree cs at (tree_at cs levels at)) where
  pub search_by : (o : Ordering) → o ≡ byte_order key (cell_at cs i).key → search_in key (tree_at cs levels at) ≡ by_side o (search_in key (tree_at cs (levels - 1) ls.left)) i (search_in key (tree_at cs (levels - 1) ls.right))
  search_by o is =
      ap (λ (t : Tree). search_in key t) (fork_some cs levels at i ls e read tree)
      ∙ ap (λ (x : Ordering). by_side x (search_in key (tree_at cs (levels - 1) ls.left)) i (search_in key (tree_at cs (levels - 1) ls.right))) (sym is)

  pub before_by : (b : Option ℕ) (o : Ordering) → o ≡ byte_order key (cell_at cs i).key
      → before_in key b (tree_at cs levels at) ≡ by_side o (before_in key b (tree_at cs (levels - 1) ls.left)) i (before_in key (Some i) (tree_at cs (levels - 1) ls.right))
  before_by b o is =
      ap (λ (t : Tree). before_in key b t) (fork_some cs levels at i ls e read tree)
      ∙ ap (λ (x : Ordering). by_side x (before_in key b (tree_at cs (levels - 1) ls.left)) i (before_in key (Some i) (tree_at cs (levels - 1) ls.right))) (sym is)

  pub first_by : (a : Option ℕ) (o : Ordering) → o ≡ byte_order key (cell_at cs i).key
      → first_in key a (tree_at cs levels at) ≡ by_side o (first_in key (Some i) (tree_at cs (levels - 1) ls.left)) i (first_in key a (tree_at cs (levels - 1) ls.right))
  first_by a o is =
      ap (λ (t : Tree). first_in key a t) (fork_some cs levels at i ls e read tree)
      ∙ ap (λ (x : Ordering). by_side x (first_in key (Some i) (tree_at cs (levels - 1) ls.left)) i (first_in key a (tree_at cs (levels - 1) ls.right))) (sym is)

-- ---- a search for the end of the keys that begin with some bytes

pub past_by : (cs : List Cell) (levels : ℕ) (at : Option ℕ) (i : ℕ) (ls : Links) (front : List ℕ) (a : Option ℕ) (b : Bool) → at ≡ Some i → ls ≡ links_of cs i → IsTree cs at (tree_at cs levels at) → b ≡ is_past front (cell_at cs i).key
    → first_past front a (tree_at cs levels at) ≡ cond b (first_past front (Some i) (tree_at cs (levels - 1) ls.left)) (first_past front a (tree_at cs (levels - 1) ls.right))
past_by cs levels at i ls front a b e read tree is =
    ap (λ (t : Tree). first_past front a t) (fork_some cs levels at i ls e read tree)
    ∙ ap (λ (x : Bool). cond x (first_past front (Some i) (tree_at cs (levels - 1) ls.left)) (first_past front a (tree_at cs (levels - 1) ls.right))) (sym is)

-- ---- a key that a part has

pub found_is : (old mid : List Cell) (t : Tree) (key : List ℕ) (v : Put) (n : ℕ) → IsPut old mid t key v → v ≡ Found n → IsFound old mid t key n
found_is old mid t key v n put is = subst (λ (x : Put). IsPut old mid t key x) {x = v} {y = Found n} is put

pub left_found : (old mid : List Cell) (levels : ℕ) (at : Option ℕ) (i : ℕ) (ls : Links) (key : List ℕ) (v : Put) (n : ℕ) → at ≡ Some i → ls ≡ links_of old i → IsTree old at (tree_at old levels at)
    → Less ≡ byte_order key (cell_at old i).key → IsPut old mid (tree_at old (levels - 1) ls.left) key v → v ≡ Found n → IsFound old mid (tree_at old levels at) key n
left_found old mid levels at i ls key v n e read tree less put is =
    let found : IsFound old mid (tree_at old (levels - 1) ls.left) key n = found_is old mid (tree_at old (levels - 1) ls.left) key v n put is in
    record { here = search_by old levels at i ls key e read tree Less less ∙ found.here; same = found.same }

pub right_found : (old mid : List Cell) (levels : ℕ) (at : Option ℕ) (i : ℕ) (ls : Links) (key : List ℕ) (v : Put) (n : ℕ) → at ≡ Some i → ls ≡ links_of old i → IsTree old at (tree_at old levels at)
    → Greater ≡ byte_order key (cell_at old i).key → IsPut old mid (tree_at old (levels - 1) ls.right) key v → v ≡ Found n → IsFound old mid (tree_at old levels at) key n
right_found old mid levels at i ls key v n e read tree greater put is =
    let found : IsFound old mid (tree_at old (levels - 1) ls.right) key n = found_is old mid (tree_at old (levels - 1) ls.right) key v n put is in
    record { here = search_by old levels at i ls key e read tree Greater greater ∙ found.here; same = found.same }

-- ---- where the new cell is linked

next_is : (old new : Nexts) (b b' : Option ℕ) (v : Put) (part after : GrownPart) → IsNext old new b' v → v ≡ Added part → b ≡ b' → after.cell ≡ part.cell → IsNext old new b (Added after)
next_is old new b b' v part after put is same cell =
    let there : new ≡ with_cell (with_place old part.cell) b' part.cell = subst (λ (x : Put). IsNext old new b' x) {x = v} {y = Added part} is put in
    there ∙ ap (λ (x : Option ℕ). with_cell (with_place old part.cell) x part.cell) (sym same) ∙ ap (λ (n : ℕ). with_cell (with_place old n) b n) (sym cell)

pub left_next : (cs mid : List Cell) (levels : ℕ) (at : Option ℕ) (i : ℕ) (ls : Links) (key : List ℕ) (b : Option ℕ) (v : Put) (part after : GrownPart) (old new : Nexts) → at ≡ Some i → ls ≡ links_of cs i → IsTree cs at (tree_at cs levels at)
    → Less ≡ byte_order key (cell_at cs i).key → IsNext old new (before_in key b (tree_at cs (levels - 1) ls.left)) v → v ≡ Added part → after ≡ joined_left_root part.grew mid i part → IsNext old new (before_in key b (tree_at cs levels at)) (Added after)
left_next cs mid levels at i ls key b v part after old new e read tree less put is result =
    next_is old new (before_in key b (tree_at cs levels at)) (before_in key b (tree_at cs (levels - 1) ls.left)) v part after put is (before_by cs levels at i ls key e read tree b Less less) (ap (λ (p : GrownPart). p.cell) result ∙ cell_left part.grew mid i part)

pub right_next : (cs mid : List Cell) (levels : ℕ) (at : Option ℕ) (i : ℕ) (ls : Links) (key : List ℕ) (b : Option ℕ) (v : Put) (part after : GrownPart) (old new : Nexts) → at ≡ Some i → ls ≡ links_of cs i → IsTree cs at (tree_at cs levels at)
    → Greater ≡ byte_order key (cell_at cs i).key → IsNext old new (before_in key (Some i) (tree_at cs (levels - 1) ls.right)) v → v ≡ Added part → after ≡ joined_right_root part.grew mid i part → IsNext old new (before_in key b (tree_at cs levels at)) (Added after)
right_next cs mid levels at i ls key b v part after old new e read tree greater put is result =
    next_is old new (before_in key b (tree_at cs levels at)) (before_in key (Some i) (tree_at cs (levels - 1) ls.right)) v part after put is (before_by cs levels at i ls key e read tree b Greater greater) (ap (λ (p : GrownPart). p.cell) result ∙ cell_right part.grew mid i part)

-- ---- the parts are of chains

pub left_chains_some : (a : Content) (levels : ℕ) (at : Option ℕ) (i : ℕ) (ls : Links) → at ≡ Some i → ls ≡ links_of a.cells i → IsTree a.cells at (tree_at a.cells levels at) → AreChains a (tree_at a.cells levels at) → AreChains a (tree_at a.cells (levels - 1) ls.left)
left_chains_some a levels at i ls e read tree chains =
    subst (λ (x : Links). AreChains a (tree_at a.cells (levels - 1) x.left)) {x = links_of a.cells i} {y = ls} (sym read)
    (left_chains a levels i (tree_some a.cells levels at i e tree) (subst (λ (x : Option ℕ). AreChains a (tree_at a.cells levels x)) {x = at} {y = Some i} e chains))

pub right_chains_some : (a : Content) (levels : ℕ) (at : Option ℕ) (i : ℕ) (ls : Links) → at ≡ Some i → ls ≡ links_of a.cells i → IsTree a.cells at (tree_at a.cells levels at) → AreChains a (tree_at a.cells levels at) → AreChains a (tree_at a.cells (levels - 1) ls.right)
right_chains_some a levels at i ls e read tree chains =
    subst (λ (x : Links). AreChains a (tree_at a.cells (levels - 1) x.right)) {x = links_of a.cells i} {y = ls} (sym read)
    (right_chains a levels i (tree_some a.cells levels at i e tree) (subst (λ (x : Option ℕ). AreChains a (tree_at a.cells levels x)) {x = at} {y = Some i} e chains))

-- ---- the arena after a key more

pub new_is : (old mid : Content) (v : Put) (part : GrownPart) → IsPutIn old mid v → v ≡ Added part → IsNewChain old mid part.cell
new_is old mid v part put is = subst (λ (x : Put). IsPutIn old mid x) {x = v} {y = Added part} is put

pub new_free : (old mid : Content) (t : Tree) (v : Put) (part : GrownPart) → AreChains old t → IsPutIn old mid v → v ≡ Added part → count part.cell t ≡ 0
new_free old mid t v part chains put is = not_in old mid t part.cell chains (new_is old mid v part put is)

-- other links leave a new chain one
pub new_relinked : (old mid new : Content) (cs : List Cell) (v : Put) (part after : GrownPart) → IsPutIn old mid v → v ≡ Added part → new ≡ with_cells mid cs → after.cell ≡ part.cell → IsPutIn old new (Added after)
new_relinked old mid new cs v part after put is now cell =
    let fresh : IsNewChain old mid part.cell = new_is old mid v part put is in
    let there : IsNewChain old new part.cell = record {
      number = fresh.number;
      was_none = fresh.was_none;
      none_prepared = fresh.none_prepared;
      grows = fresh.grows;
      now = now ∙ ap (λ (m : Content). with_cells m cs) fresh.now ∙ ap (λ (m : Content). record old { chains = with_at old.chains part.cell (Some []); cells = m.cells }) (sym now);
    } in
    subst (λ (n : ℕ). IsNewChain old new n) {x = part.cell} {y = after.cell} (sym cell) there

pub left_relinked : (old mid new : Content) (cs : List Cell) (i : ℕ) (v : Put) (part after : GrownPart) → IsPutIn old mid v → v ≡ Added part → new ≡ with_cells mid cs → after ≡ joined_left_root part.grew mid.cells i part → IsPutIn old new (Added after)
left_relinked old mid new cs i v part after put is now result = new_relinked old mid new cs v part after put is now (ap (λ (p : GrownPart). p.cell) result ∙ cell_left part.grew mid.cells i part)

pub right_relinked : (old mid new : Content) (cs : List Cell) (i : ℕ) (v : Put) (part after : GrownPart) → IsPutIn old mid v → v ≡ Added part → new ≡ with_cells mid cs → after ≡ joined_right_root part.grew mid.cells i part → IsPutIn old new (Added after)
right_relinked old mid new cs i v part after put is now result = new_relinked old mid new cs v part after put is now (ap (λ (p : GrownPart). p.cell) result ∙ cell_right part.grew mid.cells i part)
