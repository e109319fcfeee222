-- Lengths and sums.
use Rattle.std.proofs.Common.{◌≡◌, ◌≢◌, ℕ, zero, suc, ◌+◌, ◌<◌, ◌≤◌, List, [], ◌∷◌, ◌++◌, refl, ap, arith, length, map, Option, Some, None, get_or, set, inl, inr, true, false, nat_eq}
use Rattle.std.proofs.lemmas.List.{length-map, map-set, map-append, get_or-map}
use Rattle.std.proofs.lemmas.Bool.{cases_eq}
use Rattle.std.proofs.lemmas.Bool.Decides.{nat_tests}
use Rattle.span_arena.specs.declared.record.NodeRecord.{NodeRecord}
use Rattle.span_arena.specs.declared.record.ChainRecord.{ChainRecord}
use Rattle.span_arena.specs.declared.record.ChainRecord.TheVariants as chain
use Rattle.span_arena.specs.Content.{Prepared, sum_for, one_if, one_for, count_versions, versions_in}
use Rattle.span_arena.specs.Runs.{walk, node_at, blank, chain_of, total, links_at, links_of, prepared_of}

pub length-walk : (f : ℕ → NodeRecord) (k h : ℕ) → length (walk f k h) ≡ k
length-walk f zero h = refl
length-walk f (suc k) h = ap suc (length-walk f k (f h).next)

counted-cons : (f : ℕ → NodeRecord) (r : ChainRecord) → length (versions_in (chain_of f r)) ≡ (links_of r).count
counted-cons f (chain.Free next k) = refl
counted-cons f (chain.Used l) = length-walk f l.count l.newest

-- the chains have as many versions as their records say
pub versions_counted : (f : ℕ → NodeRecord) (rs : List ChainRecord) → count_versions (map (chain_of f) rs) ≡ total rs
versions_counted f [] = refl
versions_counted f (r ∷ rs) = rw (counted-cons f r, versions_counted f rs) refl

pub count-total : (rs : List ChainRecord) (c : ℕ) → (links_at rs c).count ≤ total rs
count-total [] c = omega arith
count-total (r ∷ rs) zero = omega arith
count-total (r ∷ rs) (suc c) = omega (arith, count-total rs c)

pub total-set : (rs : List ChainRecord) (c : ℕ) (r : ChainRecord) → c < length rs → total (set rs c r) + (links_at rs c).count ≡ total rs + (links_of r).count
total-set [] c r lt = absurd (omega arith)
total-set (s ∷ rs) zero r lt = omega arith
total-set (s ∷ rs) (suc c) r lt = omega (arith, total-set rs c r (omega arith))

pub total-push : (rs : List ChainRecord) (r : ChainRecord) → total (rs ++ r ∷ []) ≡ total rs + (links_of r).count
total-push [] r = omega arith
total-push (s ∷ rs) r = omega (arith, total-push rs r)

-- ---- sums over nodes

pub sum-set : (w : Option Prepared → ℕ) (ps : List (Option Prepared)) (i : ℕ) (p : Option Prepared) → i < length ps → sum_for w (set ps i p) + w (get_or ps i None) ≡ sum_for w ps + w p
sum-set w [] i p lt = absurd (omega arith)
sum-set w (q ∷ ps) zero p lt = omega arith
sum-set w (q ∷ ps) (suc i) p lt = omega (arith, sum-set w ps i p (omega arith))

pub sum-push : (w : Option Prepared → ℕ) (ps : List (Option Prepared)) (p : Option Prepared) → sum_for w (ps ++ p ∷ []) ≡ sum_for w ps + w p
sum-push w [] p = omega arith
sum-push w (q ∷ ps) p = omega (arith, sum-push w ps p)

-- a node is written
pub sum-node : (w : Option Prepared → ℕ) (nodes : List NodeRecord) (j : ℕ) (x : NodeRecord) → j < length nodes
    → sum_for w (map prepared_of (set nodes j x)) + w (prepared_of (node_at nodes j)) ≡ sum_for w (map prepared_of nodes) + w (prepared_of x)
sum-node w nodes j x lt =
    let e : map prepared_of (set nodes j x) ≡ set (map prepared_of nodes) j (prepared_of x) = map-set prepared_of nodes j x in
    let lt_map : j < length (map prepared_of nodes) = rw length-map lt in
    let d : get_or (map prepared_of nodes) j None ≡ prepared_of (node_at nodes j) = get_or-map prepared_of nodes j blank None lt in
    let n : sum_for w (set (map prepared_of nodes) j (prepared_of x)) + w (get_or (map prepared_of nodes) j None) ≡ sum_for w (map prepared_of nodes) + w (prepared_of x) = sum-set w (map prepared_of nodes) j (prepared_of x) lt_map in
    rw e (rw d at n)

pub sum-one_more : (w : Option Prepared → ℕ) (nodes : List NodeRecord) (x : NodeRecord) → sum_for w (map prepared_of (nodes ++ x ∷ [])) ≡ sum_for w (map prepared_of nodes) + w (prepared_of x)
sum-one_more w nodes x = rw map-append (sum-push w (map prepared_of nodes) (prepared_of x))

pub one_for-same : (c : ℕ) (image : Option (List ℕ)) → one_for c (Some (record { chain = c; image = image })) ≡ 1
one_for-same c image = let t : nat_eq c c ≡ true = grind (arith, nat_tests) in rw t refl

pub one_for-other : (c d : ℕ) (image : Option (List ℕ)) → d ≢ c → one_for d (Some (record { chain = c; image = image })) ≡ 0
one_for-other c d image differs = let t : nat_eq c d ≡ false = grind (arith, nat_tests) in rw t refl

one_below : (c : ℕ) (p : Option Prepared) → one_for c p ≤ one_if p
one_below c None = omega arith
one_below c (Some p) = elim (cases_eq p.chain c) [
  | inl same ↦ (let t : nat_eq p.chain c ≡ true = grind (arith, nat_tests) in rw t (omega arith))
  | inr differs ↦ (let t : nat_eq p.chain c ≡ false = grind (arith, nat_tests) in rw t (omega arith))
]

-- what is prepared for one chain is a part of all that is prepared
pub part_prepared : (c : ℕ) (ps : List (Option Prepared)) → sum_for (one_for c) ps ≤ sum_for one_if ps
part_prepared c [] = omega arith
part_prepared c (p ∷ ps) = omega (arith, part_prepared c ps, one_below c p)

-- what is at a place is counted
pub one_for-at : (c : ℕ) (ps : List (Option Prepared)) (i : ℕ) → one_for c (get_or ps i None) ≤ sum_for (one_for c) ps
one_for-at c [] i = omega arith
one_for-at c (p ∷ ps) zero = omega arith
one_for-at c (p ∷ ps) (suc i) = omega (arith, one_for-at c ps i)
