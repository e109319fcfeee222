-- What the part's call cost, at the link that was read.
use Rattle.std.proofs.Common.{◌≡◌, ℕ, suc, ◌-◌, ◌<◌, ◌≤◌, List, sym, ◌∙◌, arith, Option, Some, subst}
use Rattle.std.specs.Prelude.{Result, Ok, Err}
use Rattle.span_value.specs.declared.refusal.Refusal.{Refusal}
use Rattle.span_arena.specs.declared.cell.Cell.{Cell}
use Rattle.span_arena.specs.declared.cell.Links.{Links}
use Rattle.span_keytree.specs.declared.join.GrownPart.{GrownPart}
use Rattle.span_keytree.specs.Puts.{Put, Found, Added}
use Rattle.span_arena.specs.Counts.{Count}
use Rattle.span_keytree.specs.Trees.{height, Tree}
use Rattle.span_keytree.specs.Joins.{joined_left_root, joined_right_root, IsJoinCost}
use Rattle.span_arena.specs.Cells.{IsCompared}
use Rattle.span_keytree.specs.Effects.{links_of}
use Rattle.span_keytree.specs.Puts.{tree_at, IsTree, IsPutCost, IsSearchOf}
use Rattle.span_keytree.proofs.Puts.{fork_at}
use Rattle.span_keytree.proofs.Costs.{left_lower, cost_left, right_lower, cost_right, cost_deeper}
use Rattle.span_keytree.proofs.Exits.{tree_some}

pub some_levels : (cs : List Cell) (levels : ℕ) (at : Option ℕ) (i : ℕ) → at ≡ Some i → IsTree cs at (tree_at cs levels at) → 0 < levels
some_levels cs levels at i e tree = (fork_at cs levels i (tree_some cs levels at i e tree)).some

pub left_under : (cs : List Cell) (levels : ℕ) (at : Option ℕ) (i : ℕ) (ls : Links) → at ≡ Some i → ls ≡ links_of cs i → IsTree cs at (tree_at cs levels at) → suc (height (tree_at cs (levels - 1) ls.left)) ≤ height (tree_at cs levels at)
left_under cs levels at i ls e read tree =
    let low = left_lower cs levels i (tree_some cs levels at i e tree) in
    subst (λ (x : Option ℕ). suc (height (tree_at cs (levels - 1) ls.left)) ≤ height (tree_at cs levels x)) {x = Some i} {y = at} (sym e)
    (subst (λ (x : Links). suc (height (tree_at cs (levels - 1) x.left)) ≤ height (tree_at cs levels (Some i))) {x = links_of cs i} {y = ls} (sym read) low)

pub left_spent : (old mid : List Cell) (levels : ℕ) (at : Option ℕ) (i : ℕ) (ls : Links) (v : Put) (part after : GrownPart) (s0 s1 s2 s3 : Count) → at ≡ Some i → ls ≡ links_of old i → IsTree old at (tree_at old levels at)
    → IsCompared s0 s1 → IsPutCost (tree_at old (levels - 1) ls.left) (Ok v) s1 s2 → v ≡ Added part → IsJoinCost part.grew after.grew s2 s3 → after ≡ joined_left_root part.grew mid i part
    → IsPutCost (tree_at old levels at) (Ok (Added after)) s0 s3
left_spent old mid levels at i ls v part after s0 s1 s2 s3 e read tree one cost is join result =
    cost_left mid i (tree_at old levels at) (tree_at old (levels - 1) ls.left) part after s0 s1 s2 s3 (left_under old levels at i ls e read tree) one
    (subst (λ (x : Put). IsPutCost (tree_at old (levels - 1) ls.left) (Ok x) s1 s2) {x = v} {y = Added part} is cost) join result

pub right_under : (cs : List Cell) (levels : ℕ) (at : Option ℕ) (i : ℕ) (ls : Links) → at ≡ Some i → ls ≡ links_of cs i → IsTree cs at (tree_at cs levels at) → suc (height (tree_at cs (levels - 1) ls.right)) ≤ height (tree_at cs levels at)
right_under cs levels at i ls e read tree =
    let low = right_lower cs levels i (tree_some cs levels at i e tree) in
    subst (λ (x : Option ℕ). suc (height (tree_at cs (levels - 1) ls.right)) ≤ height (tree_at cs levels x)) {x = Some i} {y = at} (sym e)
    (subst (λ (x : Links). suc (height (tree_at cs (levels - 1) x.right)) ≤ height (tree_at cs levels (Some i))) {x = links_of cs i} {y = ls} (sym read) low)

pub right_spent : (old mid : List Cell) (levels : ℕ) (at : Option ℕ) (i : ℕ) (ls : Links) (v : Put) (part after : GrownPart) (s0 s1 s2 s3 : Count) → at ≡ Some i → ls ≡ links_of old i → IsTree old at (tree_at old levels at)
    → IsCompared s0 s1 → IsPutCost (tree_at old (levels - 1) ls.right) (Ok v) s1 s2 → v ≡ Added part → IsJoinCost part.grew after.grew s2 s3 → after ≡ joined_right_root part.grew mid i part
    → IsPutCost (tree_at old levels at) (Ok (Added after)) s0 s3
right_spent old mid levels at i ls v part after s0 s1 s2 s3 e read tree one cost is join result =
    cost_right mid i (tree_at old levels at) (tree_at old (levels - 1) ls.right) part after s0 s1 s2 s3 (right_under old levels at i ls e read tree) one
    (subst (λ (x : Put). IsPutCost (tree_at old (levels - 1) ls.right) (Ok x) s1 s2) {x = v} {y = Added part} is cost) join result

-- ---- nothing was added

found_cost : (t l : Tree) (v : Put) (n : ℕ) (s0 s1 s2 : Count) → suc (height l) ≤ height t → IsCompared s0 s1 → IsPutCost l (Ok v) s1 s2 → v ≡ Found n → IsPutCost t (Ok (Found n)) s0 s2
found_cost t l v n s0 s1 s2 low one cost is =
    let there : IsPutCost l (Ok (Found n)) s1 s2 = subst (λ (x : Put). IsPutCost l (Ok x) s1 s2) {x = v} {y = Found n} is cost in
    cost_deeper t l (Ok (Found n)) (Ok (Found n)) s0 s1 s2 low one there (omega arith)

pub left_found_cost : (old : List Cell) (levels : ℕ) (at : Option ℕ) (i : ℕ) (ls : Links) (v : Put) (n : ℕ) (s0 s1 s2 : Count) → at ≡ Some i → ls ≡ links_of old i → IsTree old at (tree_at old levels at)
    → IsCompared s0 s1 → IsPutCost (tree_at old (levels - 1) ls.left) (Ok v) s1 s2 → v ≡ Found n → IsPutCost (tree_at old levels at) (Ok (Found n)) s0 s2
left_found_cost old levels at i ls v n s0 s1 s2 e read tree one cost is =
    found_cost (tree_at old levels at) (tree_at old (levels - 1) ls.left) v n s0 s1 s2 (left_under old levels at i ls e read tree) one cost is

pub right_found_cost : (old : List Cell) (levels : ℕ) (at : Option ℕ) (i : ℕ) (ls : Links) (v : Put) (n : ℕ) (s0 s1 s2 : Count) → at ≡ Some i → ls ≡ links_of old i → IsTree old at (tree_at old levels at)
    → IsCompared s0 s1 → IsPutCost (tree_at old (levels - 1) ls.right) (Ok v) s1 s2 → v ≡ Found n → IsPutCost (tree_at old levels at) (Ok (Found n)) s0 s2
right_found_cost old levels at i ls v n s0 s1 s2 e read tree one cost is =
    found_cost (tree_at old levels at) (tree_at old (levels - 1) ls.right) v n s0 s1 s2 (right_under old levels at i ls e read tree) one cost is

refused_cost : (t l : Tree) (why later : Refusal) (r : Result Put Refusal) (s0 s1 s2 : Count) → suc (height l) ≤ height t → IsCompared s0 s1 → IsPutCost l (Err why) s1 s2 → r ≡ Err later → IsPutCost t r s0 s2
refused_cost t l why later r s0 s1 s2 low one cost is =
    let there : IsPutCost t (Err later) s0 s2 = cost_deeper t l (Err later) (Err why) s0 s1 s2 low one cost (omega arith) in
    subst (λ (x : Result Put Refusal). IsPutCost t x s0 s2) {x = Err later} {y = r} (sym is) there

pub left_refused : (old : List Cell) (levels : ℕ) (at : Option ℕ) (i : ℕ) (ls : Links) (why later : Refusal) (r : Result Put Refusal) (s0 s1 s2 : Count) → at ≡ Some i → ls ≡ links_of old i → IsTree old at (tree_at old levels at)
    → IsCompared s0 s1 → IsPutCost (tree_at old (levels - 1) ls.left) (Err why) s1 s2 → r ≡ Err later → IsPutCost (tree_at old levels at) r s0 s2
left_refused old levels at i ls why later r s0 s1 s2 e read tree one cost is =
    refused_cost (tree_at old levels at) (tree_at old (levels - 1) ls.left) why later r s0 s1 s2 (left_under old levels at i ls e read tree) one cost is

pub right_refused : (old : List Cell) (levels : ℕ) (at : Option ℕ) (i : ℕ) (ls : Links) (why later : Refusal) (r : Result Put Refusal) (s0 s1 s2 : Count) → at ≡ Some i → ls ≡ links_of old i → IsTree old at (tree_at old levels at)
    → IsCompared s0 s1 → IsPutCost (tree_at old (levels - 1) ls.right) (Err why) s1 s2 → r ≡ Err later → IsPutCost (tree_at old levels at) r s0 s2
right_refused old levels at i ls why later r s0 s1 s2 e read tree one cost is =
    refused_cost (tree_at old levels at) (tree_at old (levels - 1) ls.right) why later r s0 s1 s2 (right_under old levels at i ls e read tree) one cost is

-- ---- a search that goes on in a part

search_deeper : (t l : Tree) (s0 s1 s2 : Count) → suc (height l) ≤ height t → IsCompared s0 s1 → IsSearchOf l s1 s2 → IsSearchOf t s0 s2
search_deeper t l s0 s1 s2 low one cost =
    let a = one.compared in let b = one.written in let c = cost.compared in let d = cost.written in
    record { compared = omega arith; written = d ∙ b }

pub left_search : (old : List Cell) (levels : ℕ) (at : Option ℕ) (i : ℕ) (ls : Links) (s0 s1 s2 : Count) → at ≡ Some i → ls ≡ links_of old i → IsTree old at (tree_at old levels at) → IsCompared s0 s1 → IsSearchOf (tree_at old (levels - 1) ls.left) s1 s2 → IsSearchOf (tree_at old levels at) s0 s2
left_search old levels at i ls s0 s1 s2 e read tree one cost = search_deeper (tree_at old levels at) (tree_at old (levels - 1) ls.left) s0 s1 s2 (left_under old levels at i ls e read tree) one cost

pub right_search : (old : List Cell) (levels : ℕ) (at : Option ℕ) (i : ℕ) (ls : Links) (s0 s1 s2 : Count) → at ≡ Some i → ls ≡ links_of old i → IsTree old at (tree_at old levels at) → IsCompared s0 s1 → IsSearchOf (tree_at old (levels - 1) ls.right) s1 s2 → IsSearchOf (tree_at old levels at) s0 s2
right_search old levels at i ls s0 s1 s2 e read tree one cost = search_deeper (tree_at old levels at) (tree_at old (levels - 1) ls.right) s0 s1 s2 (right_under old levels at i ls e read tree) one cost
