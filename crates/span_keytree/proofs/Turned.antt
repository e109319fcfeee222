-- A turn of cells is a turn of the tree.
use Rattle.std.proofs.Common.{◌≡◌, ◌≢◌, ℕ, ◌+◌, ◌<◌, ◌≤◌, List, refl, sym, ◌∙◌, ap, arith, length, Some}
use Rattle.span_arena.specs.declared.cell.Cell.{Cell}
use Rattle.span_arena.specs.declared.cell.Links.{Links}
use Rattle.span_arena.specs.declared.cell.Balance.{Balance}
use Rattle.span_arena.specs.declared.cell.Balance.TheVariants.{Even}
use Rattle.span_keytree.specs.Trees.{Tree, Fork, root_of, cell_of, IsInCells, one_at, count}
use Rattle.span_arena.specs.Cells.{cell_at, with_links}
use Rattle.span_keytree.specs.Effects.{links_with}
use Rattle.span_keytree.proofs.Counting.{one_here, one_same, differ, stays, links_here, links_other, links_length}

-- the cells now hold this tree, and all others are as they were
pub record IsNow (cs new : List Cell) (t : Tree) (root : ℕ) : Type 0 where
  pub in_cells : IsInCells (cell_at new) t
  pub first : Some root ≡ root_of t
  pub others : (i : ℕ) → count i t ≡ 0 → cell_at new i ≡ cell_at cs i
  pub same_length : length new ≡ length cs

-- one cell has other links
pub relinked : (cs : List Cell) (l : Tree) (n : ℕ) (k : List ℕ) (b : Balance) (r : Tree) → n < length cs → (cell_at cs n).key ≡ k → IsInCells (cell_at cs) l → IsInCells (cell_at cs) r
    → ((i : ℕ) → one_at i n + (count i l + count i r) ≤ 1)
    → IsNow cs (with_links cs n (links_with (root_of l) (root_of r) b)) (Fork l n k b r) n
relinked cs l n k b r lt key sl sr once =
    let ls = links_with (root_of l) (root_of r) b in
    record {
      in_cells = (
        links_here cs n ls lt ∙ ap (λ (x : List ℕ). record { key = x; links = ls }) key,
        stays (cell_at cs) (cell_at (with_links cs n ls)) l (λ i h. links_other cs n ls i (differ i n (count i l) (omega (arith, once i)) h)) sl,
        stays (cell_at cs) (cell_at (with_links cs n ls)) r (λ i h. links_other cs n ls i (differ i n (count i r) (omega (arith, once i)) h)) sr,
      );
      first = refl;
      others = λ i none. links_other cs n ls i (λ same. absurd (omega (arith, one_same i n same)));
      same_length = links_length cs n ls;
    }

-- two cells have other links
pub relinked_twice : (cs : List Cell) (n m : ℕ) (ln lm : Links) → n < length cs → m < length cs → m ≢ n
    → (cell_at (with_links (with_links cs n ln) m lm) n ≡ record { key = (cell_at cs n).key; links = ln })
    × (cell_at (with_links (with_links cs n ln) m lm) m ≡ record { key = (cell_at cs m).key; links = lm })
    × ((i : ℕ) → i ≢ n → i ≢ m → cell_at (with_links (with_links cs n ln) m lm) i ≡ cell_at cs i)
    × (length (with_links (with_links cs n ln) m lm) ≡ length cs)
relinked_twice cs n m ln lm ltn ltm differs =
    let one = with_links cs n ln in
    let len : length one ≡ length cs = links_length cs n ln in
    let ltm1 : m < length one = omega arith in (
      links_other one m lm n (λ same. differs (sym same)) ∙ links_here cs n ln ltn,
      links_here one m lm ltm1 ∙ ap (λ (x : Cell). record { key = x.key; links = lm }) (links_other cs n ln m differs),
      λ i a b. links_other one m lm i b ∙ links_other cs n ln i a,
      links_length one m lm ∙ len,
    )

pub single_right : (cs : List Cell) (ll : Tree) (m : ℕ) (mk : List ℕ) (lr : Tree) (n : ℕ) (k : List ℕ) (r : Tree)
    → n < length cs → m < length cs → (cell_at cs n).key ≡ k → (cell_at cs m).key ≡ mk → IsInCells (cell_at cs) ll → IsInCells (cell_at cs) lr → IsInCells (cell_at cs) r
    → ((i : ℕ) → one_at i n + ((one_at i m + (count i ll + count i lr)) + count i r) ≤ 1)
    → IsNow cs (with_links (with_links cs n (links_with (root_of lr) (root_of r) Even)) m (links_with (root_of ll) (Some n) Even)) (Fork ll m mk Even (Fork lr n k Even r)) m
single_right cs ll m mk lr n k r ltn ltm key mkey sl si sr once =
    let ln = links_with (root_of lr) (root_of r) Even in
    let lm = links_with (root_of ll) (Some n) Even in
    let two = relinked_twice cs n m ln lm ltn ltm (differ m n (one_at m m) (omega (arith, once m)) (omega (arith, one_here m))) in
    let new = with_links (with_links cs n ln) m lm in
    let keep = λ (t : Tree) (c : (i : ℕ) → count i t ≤ count i ll + (count i lr + count i r)) (s : IsInCells (cell_at cs) t).
    stays (cell_at cs) (cell_at new) t
    (λ i h. two.2 i (differ i n (count i ll + (count i lr + count i r)) (omega (arith, once i)) (omega (arith, c i))) (differ i m (count i ll + (count i lr + count i r)) (omega (arith, once i)) (omega (arith, c i)))) s in
    record {
      in_cells = (
        two.1 ∙ ap (λ (x : List ℕ). record { key = x; links = lm }) mkey,
        keep ll (λ i. omega arith) sl,
        (two.0 ∙ ap (λ (x : List ℕ). record { key = x; links = ln }) key, keep lr (λ i. omega arith) si, keep r (λ i. omega arith) sr),
      );
      first = refl;
      others = λ i none. two.2 i (λ same. absurd (omega (arith, one_same i n same))) (λ same. absurd (omega (arith, one_same i m same)));
      same_length = two.3;
    }

pub single_left : (cs : List Cell) (l : Tree) (n : ℕ) (k : List ℕ) (rl : Tree) (m : ℕ) (mk : List ℕ) (rr : Tree)
    → n < length cs → m < length cs → (cell_at cs n).key ≡ k → (cell_at cs m).key ≡ mk → IsInCells (cell_at cs) l → IsInCells (cell_at cs) rl → IsInCells (cell_at cs) rr
    → ((i : ℕ) → one_at i n + (count i l + (one_at i m + (count i rl + count i rr))) ≤ 1)
    → IsNow cs (with_links (with_links cs n (links_with (root_of l) (root_of rl) Even)) m (links_with (Some n) (root_of rr) Even)) (Fork (Fork l n k Even rl) m mk Even rr) m
single_left cs l n k rl m mk rr ltn ltm key mkey sl si sr once =
    let ln = links_with (root_of l) (root_of rl) Even in
    let lm = links_with (Some n) (root_of rr) Even in
    let two = relinked_twice cs n m ln lm ltn ltm (differ m n (one_at m m) (omega (arith, once m)) (omega (arith, one_here m))) in
    let new = with_links (with_links cs n ln) m lm in
    let keep = λ (t : Tree) (c : (i : ℕ) → count i t ≤ count i l + (count i rl + count i rr)) (s : IsInCells (cell_at cs) t).
    stays (cell_at cs) (cell_at new) t
    (λ i h. two.2 i (differ i n (count i l + (count i rl + count i rr)) (omega (arith, once i)) (omega (arith, c i))) (differ i m (count i l + (count i rl + count i rr)) (omega (arith, once i)) (omega (arith, c i)))) s in
    record {
      in_cells = (
        two.1 ∙ ap (λ (x : List ℕ). record { key = x; links = lm }) mkey,
        (two.0 ∙ ap (λ (x : List ℕ). record { key = x; links = ln }) key, keep l (λ i. omega arith) sl, keep rl (λ i. omega arith) si),
        keep rr (λ i. omega arith) sr,
      );
      first = refl;
      others = λ i none. two.2 i (λ same. absurd (omega (arith, one_same i n same))) (λ same. absurd (omega (arith, one_same i m same)));
      same_length = two.3;
    }

-- three cells have other links
pub relinked_thrice : (cs : List Cell) (m n p : ℕ) (lm ln lp : Links) → m < length cs → n < length cs → p < length cs → n ≢ m → p ≢ m → p ≢ n
    → (cell_at (with_links (with_links (with_links cs m lm) n ln) p lp) m ≡ record { key = (cell_at cs m).key; links = lm })
    × (cell_at (with_links (with_links (with_links cs m lm) n ln) p lp) n ≡ record { key = (cell_at cs n).key; links = ln })
    × (cell_at (with_links (with_links (with_links cs m lm) n ln) p lp) p ≡ record { key = (cell_at cs p).key; links = lp })
    × ((i : ℕ) → i ≢ m → i ≢ n → i ≢ p → cell_at (with_links (with_links (with_links cs m lm) n ln) p lp) i ≡ cell_at cs i)
    × (length (with_links (with_links (with_links cs m lm) n ln) p lp) ≡ length cs)
relinked_thrice cs m n p lm ln lp ltm ltn ltp nm pm pn =
    let two = relinked_twice cs m n lm ln ltm ltn nm in
    let mid = with_links (with_links cs m lm) n ln in
    let len : length mid ≡ length cs = two.3 in (
      links_other mid p lp m (λ same. pm (sym same)) ∙ two.0,
      links_other mid p lp n (λ same. pn (sym same)) ∙ two.1,
      links_here mid p lp (omega arith) ∙ ap (λ (x : Cell). record { key = x.key; links = lp }) (two.2 p pm pn),
      λ i a b c. links_other mid p lp i c ∙ two.2 i a b,
      links_length mid p lp ∙ len,
    )

-- the first cell m and its parts a and b below n and p, of the four parts w x y z
pub double : (cs : List Cell) (w : Tree) (m : ℕ) (mk : List ℕ) (mb : Balance) (x : Tree) (p : ℕ) (pk : List ℕ) (y : Tree) (n : ℕ) (k : List ℕ) (nb : Balance) (z : Tree) (new : List Cell)
    → (cell_at new m ≡ cell_of w mk mb x) → (cell_at new n ≡ cell_of y k nb z) → (cell_at new p ≡ record { key = pk; links = links_with (Some m) (Some n) Even })
    → ((i : ℕ) → i ≢ m → i ≢ n → i ≢ p → cell_at new i ≡ cell_at cs i) → length new ≡ length cs
    → IsInCells (cell_at cs) w → IsInCells (cell_at cs) x → IsInCells (cell_at cs) y → IsInCells (cell_at cs) z
    → ((i : ℕ) → one_at i n + (one_at i m + (one_at i p + (count i w + (count i x + (count i y + count i z))))) ≤ 1)
    → IsNow cs new (Fork (Fork w m mk mb x) p pk Even (Fork y n k nb z)) p
double cs w m mk mb x p pk y n k nb z new em en ep others len sw sx sy sz once =
    let all = λ (i : ℕ). count i w + (count i x + (count i y + count i z)) in
    let keep = λ (t : Tree) (c : (i : ℕ) → count i t ≤ count i w + (count i x + (count i y + count i z))) (s : IsInCells (cell_at cs) t).
    stays (cell_at cs) (cell_at new) t
    (λ i h. others i
    (differ i m (count i w + (count i x + (count i y + count i z))) (omega (arith, once i)) (omega (arith, c i)))
    (differ i n (count i w + (count i x + (count i y + count i z))) (omega (arith, once i)) (omega (arith, c i)))
    (differ i p (count i w + (count i x + (count i y + count i z))) (omega (arith, once i)) (omega (arith, c i)))) s in
    record {
      in_cells = (ep, (em, keep w (λ i. omega arith) sw, keep x (λ i. omega arith) sx), (en, keep y (λ i. omega arith) sy, keep z (λ i. omega arith) sz));
      first = refl;
      others = λ i none. others i (λ same. absurd (omega (arith, one_same i m same))) (λ same. absurd (omega (arith, one_same i n same))) (λ same. absurd (omega (arith, one_same i p same)));
      same_length = len;
    }
