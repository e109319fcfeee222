-- What searches of several keys cost.
use Rattle.std.proofs.Common.{ℕ, ◌+◌, ◌*◌, ◌<◌, ◌≤◌, ◌^◌, List, refl, ◌∙◌, arith, length}
use Rattle.span_arena.specs.declared.cell.Cell.{Cell}
use Rattle.span_arena.specs.Counts.{Count}
use Rattle.span_keytree.specs.declared.tree.TreeRoot.{TreeRoot}
use Rattle.span_keytree.specs.Roots.{entries_at, tree_of, IsSearchCost, IsSearchTree}
use Rattle.span_keyindex.specs.Limits.{search_lanes}
use Rattle.span_keyindex.specs.Nears.{IsLookCost}
use Rattle.span_keytree.specs.Trees.{height}
use Rattle.span_keytree.proofs.Avl.{few_levels}
use Rattle.span_keytree.proofs.Searching.{length_items}

pub none_looked : (s : Count) → IsLookCost 0 s s
none_looked s = record { compared = omega arith; written = refl }

pub more_looked : (n m : ℕ) (s0 s1 s2 : Count) → IsLookCost n s0 s1 → IsLookCost m s1 s2 → IsLookCost (n + m) s0 s2
more_looked n m s0 s1 s2 a b =
    let p = a.compared in let q = b.compared in
    record { compared = omega arith; written = b.written ∙ a.written }

pub few_looked : (n m : ℕ) (s0 s1 : Count) → n ≤ m → IsLookCost n s0 s1 → IsLookCost m s0 s1
few_looked n m s0 s1 few a =
    let p = a.compared in
    record { compared = omega arith; written = a.written }

pub level_looked : (n : ℕ) (s0 s1 s2 : Count) → IsLookCost (search_lanes * n) s0 s1 → IsLookCost search_lanes s1 s2 → IsLookCost (search_lanes * (n + 1)) s0 s2
level_looked n s0 s1 s2 a b =
    let p = a.compared in let q = b.compared in
    record { compared = omega arith; written = b.written ∙ a.written }

pub look_cost : (cs : List Cell) (index : TreeRoot) (old new : Count) → IsSearchTree cs index → IsLookCost (search_lanes * index.levels) old new
    → (d : ℕ) → length (entries_at cs index) < 2 ^ d → IsSearchCost (search_lanes * d) old new
look_cost cs index old new own cost d few =
    let low : height (tree_of cs index) ≤ 2 * d = few_levels (tree_of cs index) d own.avl (omega (arith, length_items (tree_of cs index))) in
    let tall = own.tall in
    let compared = cost.compared in
    record { compared = omega arith; written = cost.written }
