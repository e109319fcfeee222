-- A part of a tree that ends with the tree's last key is on its right side.
use Rattle.std.proofs.Common.{◌≡◌, ℕ, ◌<◌, ◌≤◌, [], sym, ◌∙◌, ap, arith, inl, inr, true, Option, Some, None, subst}
use Rattle.std.specs.Prelude.{◌⊎◌, IfSome, is_some, slice_index_or}
use Rattle.span_arena.specs.Content.{Content}
use Rattle.span_keytree.specs.declared.tree.TreeRoot.{TreeRoot}
use Rattle.span_keytree.specs.Arenas.{IsArenaOf}
use Rattle.span_keytree.specs.Roots.{tree_of, entries_at, IsSearchTree}
use Rattle.span_keytree.specs.Items.{entry, items}
use Rattle.span_keytree.specs.Lasts.{stop_in, IsRight, IsStop}
use Rattle.span_keytree.specs.Nexts.{last_cell}
use Rattle.span_keytree.specs.Puts.{tree_at}
use Rattle.span_keytree.specs.Trees.{Tree, Leaf, Fork, count}
use Rattle.span_keytree.proofs.Counting.{one_same}
use Rattle.span_keytree.proofs.Into.{chain_there, part_is}
use Rattle.span_keytree.proofs.Parts.{IsPart, count_part, part_there}
use Rattle.span_keytree.proofs.Searching.{last_middle}
use Rattle.span_keytree.proofs.Stopping.{stop_there}

-- the last cell is one of the tree, or what is given where the tree has none
last_counted : (b : Option ℕ) (t : Tree) (c : ℕ) → last_cell b (items t) ≡ Some c → (b ≡ Some c) ⊎ (0 < count c t)
last_counted b Leaf c is = inl is
last_counted b (Fork l n k h r) c is =
    let rest : last_cell (Some n) (items r) ≡ Some c = sym (last_middle b (items l) (entry k n) (items r)) ∙ is in
    elim (last_counted (Some n) r c rest) [
      | inl here ↦ (let e : c ≡ n = (let q : Some n ≡ Some c = here in cc) in inr (omega (arith, one_same c n e)))
      | inr there ↦ inr (omega (arith, there))
    ]

last_own : (t : Tree) (c : ℕ) → last_cell None (items t) ≡ Some c → 0 < count c t
last_own t c is = elim (last_counted None t c is) [
  | inl none ↦ absurd (let q : None ≡ Some c = none in cc)
  | inr there ↦ there
]

right_part : (s t : Tree) (x : Option ℕ) (c : ℕ) → IsPart s t → ((j : ℕ) → count j t ≤ 1) → last_cell None (items s) ≡ Some c → last_cell x (items t) ≡ Some c → IsRight s t
right_part s Leaf x c part once own whole = part
right_part s (Fork l n k h r) x c part once own whole =
    let rest : last_cell (Some n) (items r) ≡ Some c = sym (last_middle x (items l) (entry k n) (items r)) ∙ whole in
    elim part [
      | inl same ↦ inl same
      | inr deeper ↦ elim deeper [
        | inl left ↦ elim (last_counted (Some n) r c rest) [
          | inl here ↦ (let e : c ≡ n = (let q : Some n ≡ Some c = here in cc) in absurd (omega (arith, one_same c n e, count_part c s l left, once c, last_own s c own)))
          | inr there ↦ absurd (omega (arith, there, count_part c s l left, once c, last_own s c own))
        ]
        | inr right ↦ inr (right_part s r (Some n) c right (λ j. omega (arith, once j)) own rest)
      ]
    ]

right_more : (p s t : Tree) → IsRight p s → IsRight s t → IsRight p t
right_more p s Leaf first then = subst (λ (u : Tree). IsRight p u) {x = s} {y = Leaf} (sym then) first
right_more p s (Fork l n k h r) first then = elim then [
  | inl same ↦ subst (λ (u : Tree). IsRight p u) {x = s} {y = Fork l n k h r} (sym same) first
  | inr deeper ↦ inr (right_more p s r first deeper)
]

-- ---- where the part of a chain ends with the last key, its stop is that of the tree

module _ (a : Content) (index : TreeRoot) (p c : ℕ) (own : IsSearchTree a.cells index) (chains : IsArenaOf (entries_at a.cells index) a)
    (is_chain : is_some (slice_index_or a.chains p None) ≡ true) (whole : last_cell None (entries_at a.cells index) ≡ Some c)
    (found : last_cell None (items (tree_at a.cells index.levels (Some p))) ≡ Some c) where
  stop_part : (stop : ℕ) → stop_in None None (tree_at a.cells index.levels (Some p)) ≡ Some stop → IsStop stop (tree_of a.cells index)
  stop_part stop is =
      let h = part_there p (tree_of a.cells index) (chain_there a index p chains is_chain) in
      let s : Tree = Fork h.left p h.key h.balance h.right in
      let same : tree_at a.cells index.levels (Some p) ≡ s = part_is a index [] p h.left h.key h.balance h.right own h.there in
      let right : IsRight s (tree_of a.cells index) =
      right_part s (tree_of a.cells index) None c h.there own.tree.once (ap (λ (t : Tree). last_cell None (items t)) (sym same) ∙ found) whole in
      let inner : IsStop stop s = stop_there s stop (ap (λ (t : Tree). stop_in None None t) (sym same) ∙ is) in
      record {
        left = inner.left;
        key = inner.key;
        balance = inner.balance;
        right = inner.right;
        there = right_more (Fork inner.left stop inner.key inner.balance inner.right) s (tree_of a.cells index) inner.there right;
        uneven = inner.uneven;
      }

  pub stops_part : (o : Option ℕ) → o ≡ stop_in None None (tree_at a.cells index.levels (Some p)) → IfSome o (λ (q : ℕ). IsStop q (tree_of a.cells index))
  stops_part None is = tt
  stops_part (Some stop) is = stop_part stop (sym is)
