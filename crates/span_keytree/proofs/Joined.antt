-- Joining a part to its cell again is joining trees.
use Rattle.std.proofs.Common.{◌≡◌, ℕ, ◌+◌, ◌<◌, ◌≤◌, List, refl, sym, ◌∙◌, ap, arith, length, Option, Some, None, subst}
use Rattle.std.specs.Prelude.{Bool, true, false}
use Rattle.span_arena.specs.declared.cell.Cell.{Cell}
use Rattle.span_arena.specs.declared.cell.Links.{Links}
use Rattle.span_arena.specs.declared.cell.Balance.{Balance}
use Rattle.span_arena.specs.declared.cell.Balance.TheVariants.{LeftHigh, Even, RightHigh}
use Rattle.span_keytree.specs.declared.join.GrownPart.{GrownPart}
use Rattle.span_keytree.specs.Trees.{Tree, Leaf, Fork, root_of, cell_of, IsInCells, one_at, count, turned_right, lifted_by, lifted_inner, turned_left, sunk_by, sunk_inner, after_left, after_right, joined_left, joined_right, higher_left, higher_right}
use Rattle.span_arena.specs.Cells.{cell_at, with_links}
use Rattle.span_keytree.specs.Effects.{links_with, links_of, turned_right_by, turned_right_cells, turned_right_root, turned_right_root_by, lifted_right_cells, lifted_root, turned_left_by, turned_left_cells, turned_left_root, turned_left_root_by, lifted_left_cells}
use Rattle.span_keytree.specs.Joins.{higher_left_cells, higher_left_root, joined_left_cells, joined_left_root, higher_right_cells, higher_right_root, joined_right_cells, joined_right_root}
use Rattle.span_keytree.proofs.Counting.{one_here, differ}
use Rattle.span_keytree.proofs.Turned.{IsNow, relinked, relinked_thrice, single_right, single_left, double}

now_is : (cs new other : List Cell) (t : Tree) (root place : ℕ) → other ≡ new → place ≡ root → IsNow cs new t root → IsNow cs other t place
now_is cs new other t root place e f now = subst (λ (x : List Cell). IsNow cs x t place) {x = new} {y = other} (sym e) (subst (λ (x : ℕ). IsNow cs new t x) {x = root} {y = place} (sym f) now)

links_is : (cs : List Cell) (l : Tree) (n : ℕ) (k : List ℕ) (b : Balance) (r : Tree) → cell_at cs n ≡ cell_of l k b r → links_of cs n ≡ links_with (root_of l) (root_of r) b
links_is cs l n k b r e = ap (λ (x : Cell). x.links) e

key_is : (cs : List Cell) (l : Tree) (n : ℕ) (k : List ℕ) (b : Balance) (r : Tree) → cell_at cs n ≡ cell_of l k b r → (cell_at cs n).key ≡ k
key_is cs l n k b r e = ap (λ (x : Cell). x.key) e

-- ---- the left part is two levels higher

lifted_right : (cs : List Cell) (ll : Tree) (m : ℕ) (mk : List ℕ) (lr : Tree) (n : ℕ) (k : List ℕ) (r : Tree)
    → n < length cs → ((i : ℕ) → 0 < count i (Fork ll m mk RightHigh lr) → i < length cs) → (cell_at cs n).key ≡ k
    → IsInCells (cell_at cs) (Fork ll m mk RightHigh lr) → IsInCells (cell_at cs) r
    → ((i : ℕ) → one_at i n + (count i (Fork ll m mk RightHigh lr) + count i r) ≤ 1)
    → IsNow cs (lifted_right_cells cs n m (root_of r) (root_of lr)) (lifted_inner ll m mk lr n k r) (lifted_root (root_of lr) n)
lifted_right cs ll m mk Leaf n k r ltn within key s sr once = relinked cs (Fork ll m mk RightHigh Leaf) n k LeftHigh r ltn key s sr once
lifted_right cs ll m mk (Fork a p pk pb b) n k r ltn within key s sr once =
    let em = links_is cs ll m mk RightHigh (Fork a p pk pb b) s.0 in
    let ep = links_is cs a p pk pb b s.2.0 in
    let ltm = within m (omega (arith, one_here m)) in
    let ltp = within p (omega (arith, one_here p)) in
    let F = λ (x y : Links). with_links (with_links (with_links cs m (links_with x.left y.left (after_left y.balance))) n (links_with y.right (root_of r) (after_right y.balance))) p (links_with (Some m) (Some n) Even) in
    let same : F (links_of cs m) (links_of cs p) ≡ F (links_with (root_of ll) (Some p) RightHigh) (links_with (root_of a) (root_of b) pb) = ap (λ (x : Links). F x (links_of cs p)) em ∙ ap (λ (y : Links). F (links_with (root_of ll) (Some p) RightHigh) y) ep in
    let three = relinked_thrice cs m n p (links_with (root_of ll) (root_of a) (after_left pb)) (links_with (root_of b) (root_of r) (after_right pb)) (links_with (Some m) (Some n) Even) ltm ltn ltp
    (differ n m (one_at n n) (omega (arith, once n)) (omega (arith, one_here n))) (differ p m (one_at p p) (omega (arith, once p)) (omega (arith, one_here p))) (differ p n (one_at p p) (omega (arith, once p)) (omega (arith, one_here p))) in
    now_is cs (F (links_with (root_of ll) (Some p) RightHigh) (links_with (root_of a) (root_of b) pb)) (F (links_of cs m) (links_of cs p)) (Fork (Fork ll m mk (after_left pb) a) p pk Even (Fork b n k (after_right pb) r)) p p same refl
    (double cs ll m mk (after_left pb) a p pk b n k (after_right pb) r (F (links_with (root_of ll) (Some p) RightHigh) (links_with (root_of a) (root_of b) pb))
    (three.0 ∙ ap (λ (x : List ℕ). record { key = x; links = links_with (root_of ll) (root_of a) (after_left pb) }) (key_is cs ll m mk RightHigh (Fork a p pk pb b) s.0))
    (three.1 ∙ ap (λ (x : List ℕ). record { key = x; links = links_with (root_of b) (root_of r) (after_right pb) }) key)
    (three.2 ∙ ap (λ (x : List ℕ). record { key = x; links = links_with (Some m) (Some n) Even }) (key_is cs a p pk pb b s.2.0))
    three.3 three.4 s.1 s.2.1 s.2.2 sr (λ i. omega (arith, once i)))

turned_right_by_is : (mb : Balance) (cs : List Cell) (ll : Tree) (m : ℕ) (mk : List ℕ) (lr : Tree) (n : ℕ) (k : List ℕ) (r : Tree)
    → n < length cs → ((i : ℕ) → 0 < count i (Fork ll m mk mb lr) → i < length cs) → (cell_at cs n).key ≡ k
    → IsInCells (cell_at cs) (Fork ll m mk mb lr) → IsInCells (cell_at cs) r
    → ((i : ℕ) → one_at i n + (count i (Fork ll m mk mb lr) + count i r) ≤ 1)
    → IsNow cs (turned_right_by mb cs n m (root_of r)) (lifted_by mb ll m mk lr n k r) (turned_right_root_by mb (root_of lr) n m)
turned_right_by_is LeftHigh cs ll m mk lr n k r ltn within key s sr once =
    let em = links_is cs ll m mk LeftHigh lr s.0 in
    let F = λ (x : Links). with_links (with_links cs n (links_with x.right (root_of r) Even)) m (links_with x.left (Some n) Even) in
    now_is cs (F (links_with (root_of ll) (root_of lr) LeftHigh)) (F (links_of cs m)) (Fork ll m mk Even (Fork lr n k Even r)) m m (ap F em) refl
    (single_right cs ll m mk lr n k r ltn (within m (omega (arith, one_here m))) key (key_is cs ll m mk LeftHigh lr s.0) s.1 s.2 sr (λ i. omega (arith, once i)))
turned_right_by_is Even cs ll m mk lr n k r ltn within key s sr once = relinked cs (Fork ll m mk Even lr) n k LeftHigh r ltn key s sr once
turned_right_by_is RightHigh cs ll m mk lr n k r ltn within key s sr once =
    let em = links_is cs ll m mk RightHigh lr s.0 in
    now_is cs (lifted_right_cells cs n m (root_of r) (root_of lr)) (lifted_right_cells cs n m (root_of r) (links_of cs m).right) (lifted_inner ll m mk lr n k r) (lifted_root (root_of lr) n) (lifted_root (root_of lr) n)
    (ap (λ (x : Links). lifted_right_cells cs n m (root_of r) x.right) em) refl
    (lifted_right cs ll m mk lr n k r ltn within key s sr once)

pub turned_right_is : (cs : List Cell) (l : Tree) (root n : ℕ) (k : List ℕ) (r : Tree)
    → n < length cs → ((i : ℕ) → 0 < count i l → i < length cs) → (cell_at cs n).key ≡ k
    → Some root ≡ root_of l → IsInCells (cell_at cs) l → IsInCells (cell_at cs) r
    → ((i : ℕ) → one_at i n + (count i l + count i r) ≤ 1)
    → IsNow cs (turned_right_cells cs n root (root_of r)) (turned_right l n k r) (turned_right_root cs n root)
turned_right_is cs Leaf root n k r ltn within key here s sr once = absurd (let e : Some root ≡ None = here in cc)
turned_right_is cs (Fork ll m mk mb lr) root n k r ltn within key here s sr once =
    let e : root ≡ m = (let f : Some root ≡ Some m = here in cc) in
    let em = links_is cs ll m mk mb lr s.0 in
    subst (λ (x : ℕ). IsNow cs (turned_right_cells cs n x (root_of r)) (lifted_by mb ll m mk lr n k r) (turned_right_root cs n x)) {x = m} {y = root} (sym e)
    (now_is cs (turned_right_by mb cs n m (root_of r)) (turned_right_cells cs n m (root_of r)) (lifted_by mb ll m mk lr n k r) (turned_right_root_by mb (root_of lr) n m) (turned_right_root cs n m)
    (ap (λ (x : Links). turned_right_by x.balance cs n m (root_of r)) em) (ap (λ (x : Links). turned_right_root_by x.balance x.right n m) em)
    (turned_right_by_is mb cs ll m mk lr n k r ltn within key s sr once))

higher_left_is : (b : Balance) (cs : List Cell) (l : Tree) (part : GrownPart) (n : ℕ) (k : List ℕ) (r : Tree)
    → n < length cs → ((i : ℕ) → 0 < count i l → i < length cs) → (cell_at cs n).key ≡ k → (links_of cs n).right ≡ root_of r
    → Some part.root ≡ root_of l → IsInCells (cell_at cs) l → IsInCells (cell_at cs) r
    → ((i : ℕ) → one_at i n + (count i l + count i r) ≤ 1)
    → IsNow cs (higher_left_cells b cs n part.root) (higher_left l n k b r).tree (higher_left_root b cs n part).root × ((higher_left_root b cs n part).grew ≡ (higher_left l n k b r).grew)
higher_left_is LeftHigh cs l part n k r ltn within key right here s sr once = (
  now_is cs (turned_right_cells cs n part.root (root_of r)) (turned_right_cells cs n part.root (links_of cs n).right) (turned_right l n k r) (turned_right_root cs n part.root) (turned_right_root cs n part.root)
      (ap (λ (x : Option ℕ). turned_right_cells cs n part.root x) right) refl (turned_right_is cs l part.root n k r ltn within key here s sr once),
  refl,
)
higher_left_is Even cs l part n k r ltn within key right here s sr once = (
  now_is cs (with_links cs n (links_with (root_of l) (root_of r) LeftHigh)) (with_links cs n (links_with (Some part.root) (links_of cs n).right LeftHigh)) (Fork l n k LeftHigh r) n n
      (ap (λ (x : Option ℕ). with_links cs n (links_with x (links_of cs n).right LeftHigh)) here ∙ ap (λ (x : Option ℕ). with_links cs n (links_with (root_of l) x LeftHigh)) right) refl
      (relinked cs l n k LeftHigh r ltn key s sr once),
  refl,
)
higher_left_is RightHigh cs l part n k r ltn within key right here s sr once = (
  now_is cs (with_links cs n (links_with (root_of l) (root_of r) Even)) (with_links cs n (links_with (Some part.root) (links_of cs n).right Even)) (Fork l n k Even r) n n
      (ap (λ (x : Option ℕ). with_links cs n (links_with x (links_of cs n).right Even)) here ∙ ap (λ (x : Option ℕ). with_links cs n (links_with (root_of l) x Even)) right) refl
      (relinked cs l n k Even r ltn key s sr once),
  refl,
)

pub joined_left_is : (grew : Bool) (cs : List Cell) (old l : Tree) (part : GrownPart) (n : ℕ) (k : List ℕ) (b : Balance) (r : Tree)
    → n < length cs → ((i : ℕ) → 0 < count i l → i < length cs) → cell_at cs n ≡ cell_of old k b r
    → Some part.root ≡ root_of l → IsInCells (cell_at cs) l → IsInCells (cell_at cs) r
    → ((i : ℕ) → one_at i n + (count i l + count i r) ≤ 1)
    → IsNow cs (joined_left_cells grew cs n part.root) (joined_left grew l n k b r).tree (joined_left_root grew cs n part).root × ((joined_left_root grew cs n part).grew ≡ (joined_left grew l n k b r).grew)
joined_left_is false cs old l part n k b r ltn within cell here s sr once =
    let en = links_is cs old n k b r cell in (
      now_is cs (with_links cs n (links_with (root_of l) (root_of r) b)) (with_links cs n (links_with (Some part.root) (links_of cs n).right (links_of cs n).balance)) (Fork l n k b r) n n
          (ap (λ (x : Option ℕ). with_links cs n (links_with x (links_of cs n).right (links_of cs n).balance)) here ∙ ap (λ (x : Links). with_links cs n (links_with (root_of l) x.right x.balance)) en) refl
          (relinked cs l n k b r ltn (key_is cs old n k b r cell) s sr once),
      refl,
    )
joined_left_is true cs old l part n k b r ltn within cell here s sr once =
    let en = links_is cs old n k b r cell in
    subst (λ (x : Balance). IsNow cs (higher_left_cells x cs n part.root) (higher_left l n k b r).tree (higher_left_root x cs n part).root × ((higher_left_root x cs n part).grew ≡ (higher_left l n k b r).grew)) {x = b} {y = (links_of cs n).balance} (sym (ap (λ (x : Links). x.balance) en))
    (higher_left_is b cs l part n k r ltn within (key_is cs old n k b r cell) (ap (λ (x : Links). x.right) en) here s sr once)

-- ---- the right part is two levels higher

lifted_left : (cs : List Cell) (l : Tree) (n : ℕ) (k : List ℕ) (rl : Tree) (m : ℕ) (mk : List ℕ) (rr : Tree)
    → n < length cs → ((i : ℕ) → 0 < count i (Fork rl m mk LeftHigh rr) → i < length cs) → (cell_at cs n).key ≡ k
    → IsInCells (cell_at cs) l → IsInCells (cell_at cs) (Fork rl m mk LeftHigh rr)
    → ((i : ℕ) → one_at i n + (count i l + count i (Fork rl m mk LeftHigh rr)) ≤ 1)
    → IsNow cs (lifted_left_cells cs n (root_of l) m (root_of rl)) (sunk_inner l n k rl m mk rr) (lifted_root (root_of rl) n)
lifted_left cs l n k Leaf m mk rr ltn within key sl s once = relinked cs l n k RightHigh (Fork Leaf m mk LeftHigh rr) ltn key sl s once
lifted_left cs l n k (Fork a p pk pb b) m mk rr ltn within key sl s once =
    let em = links_is cs (Fork a p pk pb b) m mk LeftHigh rr s.0 in
    let ep = links_is cs a p pk pb b s.1.0 in
    let ltm = within m (omega (arith, one_here m)) in
    let ltp = within p (omega (arith, one_here p)) in
    let F = λ (x y : Links). with_links (with_links (with_links cs m (links_with y.right x.right (after_right y.balance))) n (links_with (root_of l) y.left (after_left y.balance))) p (links_with (Some n) (Some m) Even) in
    let same : F (links_of cs m) (links_of cs p) ≡ F (links_with (Some p) (root_of rr) LeftHigh) (links_with (root_of a) (root_of b) pb) = ap (λ (x : Links). F x (links_of cs p)) em ∙ ap (λ (y : Links). F (links_with (Some p) (root_of rr) LeftHigh) y) ep in
    let three = relinked_thrice cs m n p (links_with (root_of b) (root_of rr) (after_right pb)) (links_with (root_of l) (root_of a) (after_left pb)) (links_with (Some n) (Some m) Even) ltm ltn ltp
    (differ n m (one_at n n) (omega (arith, once n)) (omega (arith, one_here n))) (differ p m (one_at p p) (omega (arith, once p)) (omega (arith, one_here p))) (differ p n (one_at p p) (omega (arith, once p)) (omega (arith, one_here p))) in
    now_is cs (F (links_with (Some p) (root_of rr) LeftHigh) (links_with (root_of a) (root_of b) pb)) (F (links_of cs m) (links_of cs p)) (Fork (Fork l n k (after_left pb) a) p pk Even (Fork b m mk (after_right pb) rr)) p p same refl
    (double cs l n k (after_left pb) a p pk b m mk (after_right pb) rr (F (links_with (Some p) (root_of rr) LeftHigh) (links_with (root_of a) (root_of b) pb))
    (three.1 ∙ ap (λ (x : List ℕ). record { key = x; links = links_with (root_of l) (root_of a) (after_left pb) }) key)
    (three.0 ∙ ap (λ (x : List ℕ). record { key = x; links = links_with (root_of b) (root_of rr) (after_right pb) }) (key_is cs (Fork a p pk pb b) m mk LeftHigh rr s.0))
    (three.2 ∙ ap (λ (x : List ℕ). record { key = x; links = links_with (Some n) (Some m) Even }) (key_is cs a p pk pb b s.1.0))
    (λ i x y z. three.3 i y x z) three.4 sl s.1.1 s.1.2 s.2 (λ i. omega (arith, once i)))

turned_left_by_is : (mb : Balance) (cs : List Cell) (l : Tree) (n : ℕ) (k : List ℕ) (rl : Tree) (m : ℕ) (mk : List ℕ) (rr : Tree)
    → n < length cs → ((i : ℕ) → 0 < count i (Fork rl m mk mb rr) → i < length cs) → (cell_at cs n).key ≡ k
    → IsInCells (cell_at cs) l → IsInCells (cell_at cs) (Fork rl m mk mb rr)
    → ((i : ℕ) → one_at i n + (count i l + count i (Fork rl m mk mb rr)) ≤ 1)
    → IsNow cs (turned_left_by mb cs n (root_of l) m) (sunk_by mb l n k rl m mk rr) (turned_left_root_by mb (root_of rl) n m)
turned_left_by_is RightHigh cs l n k rl m mk rr ltn within key sl s once =
    let em = links_is cs rl m mk RightHigh rr s.0 in
    let F = λ (x : Links). with_links (with_links cs n (links_with (root_of l) x.left Even)) m (links_with (Some n) x.right Even) in
    now_is cs (F (links_with (root_of rl) (root_of rr) RightHigh)) (F (links_of cs m)) (Fork (Fork l n k Even rl) m mk Even rr) m m (ap F em) refl
    (single_left cs l n k rl m mk rr ltn (within m (omega (arith, one_here m))) key (key_is cs rl m mk RightHigh rr s.0) sl s.1 s.2 (λ i. omega (arith, once i)))
turned_left_by_is Even cs l n k rl m mk rr ltn within key sl s once = relinked cs l n k RightHigh (Fork rl m mk Even rr) ltn key sl s once
turned_left_by_is LeftHigh cs l n k rl m mk rr ltn within key sl s once =
    let em = links_is cs rl m mk LeftHigh rr s.0 in
    now_is cs (lifted_left_cells cs n (root_of l) m (root_of rl)) (lifted_left_cells cs n (root_of l) m (links_of cs m).left) (sunk_inner l n k rl m mk rr) (lifted_root (root_of rl) n) (lifted_root (root_of rl) n)
    (ap (λ (x : Links). lifted_left_cells cs n (root_of l) m x.left) em) refl
    (lifted_left cs l n k rl m mk rr ltn within key sl s once)

pub turned_left_is : (cs : List Cell) (r : Tree) (root n : ℕ) (k : List ℕ) (l : Tree)
    → n < length cs → ((i : ℕ) → 0 < count i r → i < length cs) → (cell_at cs n).key ≡ k
    → Some root ≡ root_of r → IsInCells (cell_at cs) l → IsInCells (cell_at cs) r
    → ((i : ℕ) → one_at i n + (count i l + count i r) ≤ 1)
    → IsNow cs (turned_left_cells cs n (root_of l) root) (turned_left l n k r) (turned_left_root cs n root)
turned_left_is cs Leaf root n k l ltn within key here sl s once = absurd (let e : Some root ≡ None = here in cc)
turned_left_is cs (Fork rl m mk mb rr) root n k l ltn within key here sl s once =
    let e : root ≡ m = (let f : Some root ≡ Some m = here in cc) in
    let em = links_is cs rl m mk mb rr s.0 in
    subst (λ (x : ℕ). IsNow cs (turned_left_cells cs n (root_of l) x) (sunk_by mb l n k rl m mk rr) (turned_left_root cs n x)) {x = m} {y = root} (sym e)
    (now_is cs (turned_left_by mb cs n (root_of l) m) (turned_left_cells cs n (root_of l) m) (sunk_by mb l n k rl m mk rr) (turned_left_root_by mb (root_of rl) n m) (turned_left_root cs n m)
    (ap (λ (x : Links). turned_left_by x.balance cs n (root_of l) m) em) (ap (λ (x : Links). turned_left_root_by x.balance x.left n m) em)
    (turned_left_by_is mb cs l n k rl m mk rr ltn within key sl s once))

higher_right_is : (b : Balance) (cs : List Cell) (r : Tree) (part : GrownPart) (n : ℕ) (k : List ℕ) (l : Tree)
    → n < length cs → ((i : ℕ) → 0 < count i r → i < length cs) → (cell_at cs n).key ≡ k → (links_of cs n).left ≡ root_of l
    → Some part.root ≡ root_of r → IsInCells (cell_at cs) l → IsInCells (cell_at cs) r
    → ((i : ℕ) → one_at i n + (count i l + count i r) ≤ 1)
    → IsNow cs (higher_right_cells b cs n part.root) (higher_right l n k b r).tree (higher_right_root b cs n part).root × ((higher_right_root b cs n part).grew ≡ (higher_right l n k b r).grew)
higher_right_is RightHigh cs r part n k l ltn within key left here sl s once = (
  now_is cs (turned_left_cells cs n (root_of l) part.root) (turned_left_cells cs n (links_of cs n).left part.root) (turned_left l n k r) (turned_left_root cs n part.root) (turned_left_root cs n part.root)
      (ap (λ (x : Option ℕ). turned_left_cells cs n x part.root) left) refl (turned_left_is cs r part.root n k l ltn within key here sl s once),
  refl,
)
higher_right_is Even cs r part n k l ltn within key left here sl s once = (
  now_is cs (with_links cs n (links_with (root_of l) (root_of r) RightHigh)) (with_links cs n (links_with (links_of cs n).left (Some part.root) RightHigh)) (Fork l n k RightHigh r) n n
      (ap (λ (x : Option ℕ). with_links cs n (links_with (links_of cs n).left x RightHigh)) here ∙ ap (λ (x : Option ℕ). with_links cs n (links_with x (root_of r) RightHigh)) left) refl
      (relinked cs l n k RightHigh r ltn key sl s once),
  refl,
)
higher_right_is LeftHigh cs r part n k l ltn within key left here sl s once = (
  now_is cs (with_links cs n (links_with (root_of l) (root_of r) Even)) (with_links cs n (links_with (links_of cs n).left (Some part.root) Even)) (Fork l n k Even r) n n
      (ap (λ (x : Option ℕ). with_links cs n (links_with (links_of cs n).left x Even)) here ∙ ap (λ (x : Option ℕ). with_links cs n (links_with x (root_of r) Even)) left) refl
      (relinked cs l n k Even r ltn key sl s once),
  refl,
)

pub joined_right_is : (grew : Bool) (cs : List Cell) (old r : Tree) (part : GrownPart) (n : ℕ) (k : List ℕ) (b : Balance) (l : Tree)
    → n < length cs → ((i : ℕ) → 0 < count i r → i < length cs) → cell_at cs n ≡ cell_of l k b old
    → Some part.root ≡ root_of r → IsInCells (cell_at cs) l → IsInCells (cell_at cs) r
    → ((i : ℕ) → one_at i n + (count i l + count i r) ≤ 1)
    → IsNow cs (joined_right_cells grew cs n part.root) (joined_right grew l n k b r).tree (joined_right_root grew cs n part).root × ((joined_right_root grew cs n part).grew ≡ (joined_right grew l n k b r).grew)
joined_right_is false cs old r part n k b l ltn within cell here sl s once =
    let en = links_is cs l n k b old cell in (
      now_is cs (with_links cs n (links_with (root_of l) (root_of r) b)) (with_links cs n (links_with (links_of cs n).left (Some part.root) (links_of cs n).balance)) (Fork l n k b r) n n
          (ap (λ (x : Option ℕ). with_links cs n (links_with (links_of cs n).left x (links_of cs n).balance)) here ∙ ap (λ (x : Links). with_links cs n (links_with x.left (root_of r) x.balance)) en) refl
          (relinked cs l n k b r ltn (key_is cs l n k b old cell) sl s once),
      refl,
    )
joined_right_is true cs old r part n k b l ltn within cell here sl s once =
    let en = links_is cs l n k b old cell in
    subst (λ (x : Balance). IsNow cs (higher_right_cells x cs n part.root) (higher_right l n k b r).tree (higher_right_root x cs n part).root × ((higher_right_root x cs n part).grew ≡ (higher_right l n k b r).grew)) {x = b} {y = (links_of cs n).balance} (sym (ap (λ (x : Links). x.balance) en))
    (higher_right_is b cs r part n k l ltn within (key_is cs l n k b old cell) (ap (λ (x : Links). x.left) en) here sl s once)
