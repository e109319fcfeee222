-- Where a part was put into, and what it cost.
use Rattle.std.proofs.Common.{◌≡◌, ℕ, suc, ◌+◌, ◌-◌, ◌<◌, ◌≤◌, List, refl, sym, ◌∙◌, ap, arith, length, true, false, Option, Some, None, subst}
use Rattle.std.specs.Prelude.{Bool, Result, Ok, max}
use Rattle.std.proofs.Math.Nat.{le-max_left, le-max_right}
use Rattle.span_value.specs.declared.refusal.Refusal.{Refusal}
use Rattle.span_arena.specs.declared.cell.Cell.{Cell}
use Rattle.span_keytree.specs.declared.join.GrownPart.{GrownPart}
use Rattle.span_keytree.specs.Puts.{Put, Added}
use Rattle.span_keytree.specs.Trees.{Tree, Leaf, Fork, root_of, IsInCells, count, height, inserted}
use Rattle.span_arena.specs.Counts.{Count}
use Rattle.span_arena.specs.Cells.{cell_at, IsCompared}
use Rattle.span_keytree.specs.Effects.{links_of, IsInside}
use Rattle.span_keytree.specs.Joins.{joined_left_root, joined_right_root, most_by, IsJoinCost}
use Rattle.span_keytree.specs.Nexts.{places_with}
use Rattle.span_keytree.specs.Puts.{tree_at, IsTree, IsAdded, IsPutCost, extra, extra_by}
use Rattle.span_keytree.proofs.Counting.{one_here}
use Rattle.span_keytree.proofs.Counts.{count_inserted}
use Rattle.span_keytree.proofs.Puts.{fork_at, within_more}

inside_root : (cs : List Cell) (t : Tree) → ((j : ℕ) → 0 < count j t → j < length cs) → IsInside cs (root_of t)
inside_root cs Leaf within = tt
inside_root cs (Fork l n k b r) within = within n (omega (arith, one_here n))

-- the cells that a turn reads
pub record IsReady (cs : List Cell) (i : ℕ) : Type 0 where
  pub here : i < length cs
  pub left : IsInside cs (links_of cs i).left
  pub right : IsInside cs (links_of cs i).right

ready_root : (cs : List Cell) (t : Tree) (i : ℕ) → Some i ≡ root_of t → IsInCells (cell_at cs) t → ((j : ℕ) → 0 < count j t → j < length cs) → IsReady cs i
ready_root cs Leaf i is in_cells within = absurd (let e : Some i ≡ None = is in cc)
ready_root cs (Fork l n k b r) i is in_cells within =
    let e : i ≡ n = (let f : Some i ≡ Some n = is in cc) in
    subst (λ (x : ℕ). IsReady cs x) {x = n} {y = i} (sym e) (record {
      here = within n (omega (arith, one_here n));
      left = subst (λ (x : Option ℕ). IsInside cs x) {x = root_of l} {y = (links_of cs n).left} (sym (ap (λ (x : Cell). x.links.left) in_cells.0)) (inside_root cs l (λ j h. within j (omega arith)));
      right = subst (λ (x : Option ℕ). IsInside cs x) {x = root_of r} {y = (links_of cs n).right} (sym (ap (λ (x : Cell). x.links.right) in_cells.0)) (inside_root cs r (λ j h. within j (omega arith)));
    })

pub ready_part : (old mid : List Cell) (at : Option ℕ) (t : Tree) (key : List ℕ) (part : GrownPart) → IsTree old at t → IsAdded old mid t key part → IsReady mid part.root
ready_part old mid at t key part tree added =
    ready_root mid (inserted part.cell key t).tree part.root added.root added.in_cells
    (λ j h. (let lt : j < places_with (length old) part.cell = within_more old at t part.cell j tree added.number (omega (arith, count_inserted j part.cell key t added.absent)) in omega (arith, added.one_more)))

-- ---- costs

pub left_lower : (cs : List Cell) (levels i : ℕ) → IsTree cs (Some i) (tree_at cs levels (Some i)) → suc (height (tree_at cs (levels - 1) (links_of cs i).left)) ≤ height (tree_at cs levels (Some i))
left_lower cs levels i tree =
    let e : height (tree_at cs levels (Some i)) ≡ suc (max (height (tree_at cs (levels - 1) (links_of cs i).left)) (height (tree_at cs (levels - 1) (links_of cs i).right))) = ap height (fork_at cs levels i tree).is in
    omega (arith, e, le-max_left (height (tree_at cs (levels - 1) (links_of cs i).left)) (height (tree_at cs (levels - 1) (links_of cs i).right)))

pub right_lower : (cs : List Cell) (levels i : ℕ) → IsTree cs (Some i) (tree_at cs levels (Some i)) → suc (height (tree_at cs (levels - 1) (links_of cs i).right)) ≤ height (tree_at cs levels (Some i))
right_lower cs levels i tree =
    let e : height (tree_at cs levels (Some i)) ≡ suc (max (height (tree_at cs (levels - 1) (links_of cs i).left)) (height (tree_at cs (levels - 1) (links_of cs i).right))) = ap height (fork_at cs levels i tree).is in
    omega (arith, e, le-max_right (height (tree_at cs (levels - 1) (links_of cs i).left)) (height (tree_at cs (levels - 1) (links_of cs i).right)))

-- nothing was written after the part
pub cost_deeper : (t l : Tree) (r : Result Put Refusal) (q : Result Put Refusal) (s0 s1 s2 : Count) → suc (height l) ≤ height t → IsCompared s0 s1 → IsPutCost l q s1 s2 → extra q ≤ extra r → IsPutCost t r s0 s2
cost_deeper t l r q s0 s1 s2 low one cost more =
    let a = one.compared in let b = one.written in let c = cost.compared in let d = cost.written in
    record { compared = omega arith; written = omega arith }

join_most : (p a : Bool) → (p ≡ false → a ≡ false) → extra_by p + most_by p a ≤ suc (extra_by a)
join_most false false same = omega arith
join_most false true same = absurd (let e : true ≡ false = same refl in cc)
join_most true false same = omega arith
join_most true true same = omega arith

cost_joined : (t l : Tree) (part after : GrownPart) (s0 s1 s2 s3 : Count) → suc (height l) ≤ height t → IsCompared s0 s1 → IsPutCost l (Ok (Added part)) s1 s2 → IsJoinCost part.grew after.grew s2 s3 → (part.grew ≡ false → after.grew ≡ false) → IsPutCost t (Ok (Added after)) s0 s3
cost_joined t l part after s0 s1 s2 s3 low one cost join same =
    let a = one.compared in let b = one.written in let c = cost.compared in let d = cost.written in let e = join.compared in let f = join.written in
    let m = join_most part.grew after.grew same in
    record { compared = omega arith; written = omega arith }

still_left : (cs : List Cell) (i : ℕ) (part after : GrownPart) (g : Bool) → after ≡ joined_left_root g cs i part → g ≡ false → after.grew ≡ false
still_left cs i part after g is none = ap (λ (p : GrownPart). p.grew) is ∙ ap (λ (x : Bool). (joined_left_root x cs i part).grew) none

pub still_right : (cs : List Cell) (i : ℕ) (part after : GrownPart) (g : Bool) → after ≡ joined_right_root g cs i part → g ≡ false → after.grew ≡ false
still_right cs i part after g is none = ap (λ (p : GrownPart). p.grew) is ∙ ap (λ (x : Bool). (joined_right_root x cs i part).grew) none

pub cost_left : (mid : List Cell) (i : ℕ) (t l : Tree) (part after : GrownPart) (s0 s1 s2 s3 : Count) → suc (height l) ≤ height t → IsCompared s0 s1 → IsPutCost l (Ok (Added part)) s1 s2 → IsJoinCost part.grew after.grew s2 s3 → after ≡ joined_left_root part.grew mid i part → IsPutCost t (Ok (Added after)) s0 s3
cost_left mid i t l part after s0 s1 s2 s3 low one cost join is = cost_joined t l part after s0 s1 s2 s3 low one cost join (still_left mid i part after part.grew is)

pub cost_right : (mid : List Cell) (i : ℕ) (t l : Tree) (part after : GrownPart) (s0 s1 s2 s3 : Count) → suc (height l) ≤ height t → IsCompared s0 s1 → IsPutCost l (Ok (Added part)) s1 s2 → IsJoinCost part.grew after.grew s2 s3 → after ≡ joined_right_root part.grew mid i part → IsPutCost t (Ok (Added after)) s0 s3
cost_right mid i t l part after s0 s1 s2 s3 low one cost join is = cost_joined t l part after s0 s1 s2 s3 low one cost join (still_right mid i part after part.grew is)
