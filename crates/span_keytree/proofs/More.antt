-- Cells of no chain after the others, with places for them, change no tree.
use Rattle.std.proofs.Common.{◌≡◌, ℕ, ◌+◌, ◌-◌, ◌<◌, List, ◌++◌, sym, ◌∙◌, ap, arith, length, map, take, Option, None, replicate, subst, length-append, take_all}
use Rattle.std.proofs.Math.Path.{fun_ext}
use Rattle.std.proofs.Math.Seq.{take-append_seam}
use Rattle.std.proofs.lemmas.List.{length-replicate, map-append}
use Rattle.span_arena.specs.declared.cell.Cell.{Cell}
use Rattle.span_arena.specs.Cells.{blank, cell_at}
use Rattle.span_arena.specs.Limits.{most_chains}
use Rattle.span_arena.proofs.Blanks.{map_replicate, read_more}
use Rattle.span_keytree.specs.declared.tree.TreeRoot.{TreeRoot}
use Rattle.span_keytree.specs.Trees.{Tree, root_of, shape, count, height, IsInCells, IsAvl}
use Rattle.span_keytree.specs.Items.{items, AreRising}
use Rattle.span_keytree.specs.Nexts.{Nexts, link_to, next_of, last_cell, with_places, without_places}
use Rattle.span_keytree.specs.Roots.{entries_at, tree_of, IsIndex, IsSearchTree}

long_links : (ls : List (Option ℕ)) (n : ℕ) → length (ls ++ replicate n None) ≡ length ls + n
long_links ls n = length-append ls (replicate n None) ∙ ap (λ (k : ℕ). length ls + k) (length-replicate n None)

-- what is read of the cells and of the links is as it was
pub cells_same : (cs : List Cell) (n : ℕ) → cell_at (cs ++ replicate n blank) ≡ cell_at cs
cells_same cs n = fun_ext (λ i. read_more cs n i blank)

pub links_same : (ns : Nexts) (n : ℕ) → next_of (with_places n ns) ≡ next_of ns
links_same ns n = fun_ext (λ i. read_more ns.next n i None)

pub entries_same : (cs : List Cell) (n : ℕ) (t : TreeRoot) → entries_at (cs ++ replicate n blank) t ≡ entries_at cs t
entries_same cs n t = ap (λ (f : ℕ → Cell). items (shape f t.levels t.root)) (cells_same cs n)

module _ (cs : List Cell) (n : ℕ) (t : TreeRoot) where
  tree_same : tree_of (cs ++ replicate n blank) t ≡ tree_of cs t
  tree_same = ap (λ (f : ℕ → Cell). shape f t.levels t.root) (cells_same cs n)

  search_more : IsSearchTree cs t → IsSearchTree (cs ++ replicate n blank) t
  search_more old = record {
    tree = record {
      in_cells = subst (λ (f : ℕ → Cell). IsInCells f (shape f t.levels t.root)) (sym (cells_same cs n)) old.tree.in_cells;
      root = old.tree.root ∙ ap root_of (sym tree_same);
      once = λ i. rw tree_same (old.tree.once i);
      within = λ i some. (let was : 0 < count i (tree_of cs t) = rw tree_same at some in omega (arith, old.tree.within i was, length-append cs (replicate n blank)));
    };
    avl = subst IsAvl (sym tree_same) old.avl;
    tall = ap height tree_same ∙ old.tall;
    rising = subst (λ (x : Tree). AreRising (items x)) (sym tree_same) old.rising;
  }

  pub index_more : (ns : Nexts) → IsIndex cs ns t → IsIndex (cs ++ replicate n blank) (with_places n ns) t
  index_more ns old = record {
    search = search_more old.search;
    linked = rw (links_same ns n, entries_same cs n t) old.linked;
    places = omega (arith, old.places, length-append cs (replicate n blank), length-replicate n blank, long_links ns.next n);
    last = old.last ∙ ap (last_cell None) (sym (entries_same cs n t));
  }

-- the places as they are kept
pub places_kept : (kept : List ℕ) (n len long : ℕ) → len ≡ length kept → long ≡ length kept
    → map link_to (take (len + n) kept ++ replicate (len + n - long) most_chains) ≡ map link_to kept ++ replicate n None
places_kept kept n len long is also =
    let all : take (len + n) kept ≡ kept = take_all (len + n) kept (omega (arith, is)) in
    let more : len + n - long ≡ n = omega (arith, is, also) in
    rw (all, more) (map-append link_to kept (replicate n most_chains) ∙ ap (λ l. map link_to kept ++ l) (map_replicate link_to n most_chains))

-- places that were added are dropped again
pub places_dropped : (ns : Nexts) (n : ℕ) → without_places n (with_places n ns) ≡ ns
places_dropped ns n =
    let less : length (ns.next ++ replicate n None) - n ≡ length ns.next = omega (arith, long_links ns.next n) in
    ap (λ (l : List (Option ℕ)). record { first = ns.first; next = l }) (ap (λ (k : ℕ). take k (ns.next ++ replicate n None)) less ∙ take-append_seam ns.next (replicate n None))
