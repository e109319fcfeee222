-- A tree has no more cells than there are.
use Rattle.std.proofs.Common.{◌≡◌, ℕ, zero, suc, ◌+◌, ◌<◌, ◌≤◌, List, refl, arith, inl, inr}
use Rattle.std.proofs.lemmas.Bool.{cases_eq}
use Rattle.span_arena.specs.declared.cell.Balance.{Balance}
use Rattle.span_keytree.specs.Trees.{Tree, Leaf, Fork, one_at, count, size}
use Rattle.span_keytree.proofs.Counting.{one_same}

-- how often the cells below n are in the tree
abbrev counted : ℕ → Tree → ℕ
counted zero t = 0
counted (suc n) t = count n t + counted n t

abbrev ones : ℕ → ℕ → ℕ
ones zero c = 0
ones (suc n) c = one_at n c + ones n c

counted_fork : (n : ℕ) (l : Tree) (c : ℕ) (k : List ℕ) (b : Balance) (r : Tree) → counted n (Fork l c k b r) ≡ ones n c + (counted n l + counted n r)
counted_fork zero l c k b r = omega arith
counted_fork (suc n) l c k b r = omega (arith, counted_fork n l c k b r)

one_below : (n c : ℕ) → c < n → 1 ≤ ones n c
one_below zero c lt = absurd (omega arith)
one_below (suc n) c lt = elim (cases_eq n c) [
  | inl same ↦ omega (arith, one_same n c same)
  | inr differs ↦ omega (arith, one_below n c (omega arith))
]

size_counted : (t : Tree) (n : ℕ) → ((i : ℕ) → 0 < count i t → i < n) → size t ≤ counted n t
size_counted Leaf n within = omega arith
size_counted (Fork l c k b r) n within =
    let here : 1 ≤ ones n c = one_below n c (within c (omega (arith, one_same c c refl))) in
    let left : size l ≤ counted n l = size_counted l n (λ i s. within i (omega arith)) in
    let right : size r ≤ counted n r = size_counted r n (λ i s. within i (omega arith)) in
    omega (arith, counted_fork n l c k b r)

counted_most : (n : ℕ) (t : Tree) → ((i : ℕ) → count i t ≤ 1) → counted n t ≤ n
counted_most zero t once = omega arith
counted_most (suc n) t once = omega (arith, once n, counted_most n t once)

-- each cell of the tree is below n, and in it once
pub size_most : (t : Tree) (n : ℕ) → ((i : ℕ) → count i t ≤ 1) → ((i : ℕ) → 0 < count i t → i < n) → size t ≤ n
size_most t n once within = omega (arith, size_counted t n within, counted_most n t once)
