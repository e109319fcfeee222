-- Cells that a tree has, and frames.
use Rattle.std.proofs.Common.{◌≡◌, ◌≢◌, ℕ, ◌+◌, ◌<◌, ◌≤◌, List, refl, ◌∙◌, arith, length, true, false}
use Rattle.std.specs.Prelude.{nat_eq}
use Rattle.std.proofs.lemmas.Bool.Decides.{nat_tests}
use Rattle.std.proofs.lemmas.List.{get_or-set_other, get_or-set_same, length-set}
use Rattle.span_arena.specs.declared.cell.Cell.{Cell}
use Rattle.span_arena.specs.declared.cell.Links.{Links}
use Rattle.span_keytree.specs.Trees.{Tree, Leaf, Fork, IsInCells, one_at, count}
use Rattle.span_arena.specs.Cells.{cell_at, blank, with_links}

pub one_here : (n : ℕ) → one_at n n ≡ 1
one_here n = let t : nat_eq n n ≡ true = grind (arith, nat_tests) in rw t refl

pub one_same : (i n : ℕ) → i ≡ n → one_at i n ≡ 1
one_same i n e = rw e (one_here n)

pub one_other : (i n : ℕ) → i ≢ n → one_at i n ≡ 0
one_other i n differs = let t : nat_eq n i ≡ false = grind (arith, nat_tests) in rw t refl

-- a cell that is elsewhere already
pub differ : (i n x : ℕ) → one_at i n + x ≤ 1 → 0 < x → i ≢ n
differ i n x le some same = absurd (omega (arith, one_same i n same))

-- a tree stays where its cells do
pub stays : (f g : ℕ → Cell) (t : Tree) → ((i : ℕ) → 0 < count i t → g i ≡ f i) → IsInCells f t → IsInCells g t
stays f g Leaf same s = tt
stays f g (Fork l n k b r) same s =
    (same n (omega (arith, one_here n)) ∙ s.0, stays f g l (λ i h. same i (omega arith)) s.1, stays f g r (λ i h. same i (omega arith)) s.2)

pub links_here : (cs : List Cell) (i : ℕ) (l : Links) → i < length cs → cell_at (with_links cs i l) i ≡ record { key = (cell_at cs i).key; links = l }
links_here cs i l lt = get_or-set_same cs i (record { key = (cell_at cs i).key; links = l }) blank lt

pub links_other : (cs : List Cell) (i : ℕ) (l : Links) (j : ℕ) → j ≢ i → cell_at (with_links cs i l) j ≡ cell_at cs j
links_other cs i l j differs = get_or-set_other cs i j (record { key = (cell_at cs i).key; links = l }) blank differs

pub links_length : (cs : List Cell) (i : ℕ) (l : Links) → length (with_links cs i l) ≡ length cs
links_length cs i l = length-set cs i (record { key = (cell_at cs i).key; links = l })
