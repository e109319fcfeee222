-- Links from each cell to the next, after a cell more.
use Rattle.std.proofs.Common.{◌≡◌, ◌≢◌, ℕ, zero, suc, ◌+◌, ◌-◌, ◌<◌, ◌≤◌, List, [], ◌∷◌, ◌++◌, refl, sym, ◌∙◌, ap, arith, length, set, inl, inr, Option, Some, None, subst}
use Rattle.std.proofs.lemmas.Bool.{cases_lt}
use Rattle.std.proofs.lemmas.List.{get_or-set_same, get_or-set_other, length-set, get_or_append_left, get_or-append_right, get_or_past}
use Rattle.span_keytree.specs.Trees.{Tree, Leaf, Fork, one_at, count}
use Rattle.span_keytree.specs.Items.{entry, items, holders}
use Rattle.span_keytree.specs.Entries.{KeyEntry}
use Rattle.span_keytree.specs.Nexts.{Nexts, next_of, IsLinked, with_empty_link, with_cell, last_cell, head_cell}
use Rattle.span_keytree.proofs.Counting.{one_here, one_same, differ}

pub held_append : (i : ℕ) (xs ys : List KeyEntry) → holders i (xs ++ ys) ≡ holders i xs + holders i ys
held_append i [] ys = omega arith
held_append i (x ∷ xs) ys = omega (arith, held_append i xs ys)

pub held_items : (i : ℕ) (t : Tree) → holders i (items t) ≡ count i t
held_items i Leaf = refl
held_items i (Fork l n k b r) = omega (arith, held_items i l, held_items i r, held_append i (items l) (entry k n ∷ items r))

-- a cell that is holders and one that is not differ
pub held_apart : (i c : ℕ) (es : List KeyEntry) → 0 < holders i es → holders c es ≡ 0 → i ≢ c
held_apart i c es some none same =
    let e : holders i es ≡ holders c es = ap (λ (x : ℕ). holders x es) same in
    absurd (omega arith)

pub linked_same : (f g : ℕ → Option ℕ) (first : Option ℕ) (es : List KeyEntry) → ((i : ℕ) → 0 < holders i es → g i ≡ f i) → IsLinked f first es → IsLinked g first es
linked_same f g first [] same h = h
linked_same f g first (e ∷ es) same h =
    (h.0, subst (λ (x : Option ℕ). IsLinked g x es) {x = f e.chain.number} {y = g e.chain.number} (sym (same e.chain.number (omega (arith, one_here e.chain.number)))) (linked_same f g (f e.chain.number) es (λ i s. same i (omega arith)) h.1))

-- what is linked from its first entry on
linked_own : (f : ℕ → Option ℕ) (first : Option ℕ) (es : List KeyEntry) → IsLinked f first es → IsLinked f (head_cell None es) es
linked_own f first [] h = refl
linked_own f first (e ∷ es) h = (refl, h.1)

pub linked_back : (f : ℕ → Option ℕ) (first : Option ℕ) (xs ys : List KeyEntry) → IsLinked f first (xs ++ ys) → IsLinked f (head_cell None ys) ys
linked_back f first [] ys h = linked_own f first ys h
linked_back f first (x ∷ xs) ys h = linked_back f (f x.chain.number) xs ys h.1

pub linked_first : (f : ℕ → Option ℕ) (first : Option ℕ) (es : List KeyEntry) → IsLinked f first es → first ≡ head_cell None es
linked_first f first [] h = h
linked_first f first (e ∷ es) h = h.0

-- ---- a cell after another

-- g is f with a cell c after b
pub record IsPutAfter (f g : ℕ → Option ℕ) (b c : ℕ) : Type 0 where
  pub here : g b ≡ Some c
  pub past : g c ≡ f b
  pub others : (i : ℕ) → i ≢ b → i ≢ c → g i ≡ f i

pub last_some : (x : ℕ) (xs : List KeyEntry) → (b : ℕ) × (last_cell (Some x) xs ≡ Some b)
last_some x [] = (x, refl)
last_some x (y ∷ ys) = last_some y.chain.number ys

pub last_held : (x : KeyEntry) (xs : List KeyEntry) (b : ℕ) → last_cell (Some x.chain.number) xs ≡ Some b → 0 < holders b (x ∷ xs)
last_held x [] b last =
    let same : b ≡ x.chain.number = (let q : Some b ≡ Some x.chain.number = sym last in cc) in
    omega (arith, one_same b x.chain.number same)
last_held x (y ∷ ys) b last = omega (arith, last_held y ys b last)

linked_after : (f g : ℕ → Option ℕ) (b c : ℕ) (k : List ℕ) (p : Option ℕ) (e : KeyEntry) (xs ys : List KeyEntry) → IsPutAfter f g b c → last_cell (Some e.chain.number) xs ≡ Some b
    → ((i : ℕ) → holders i (e ∷ (xs ++ ys)) ≤ 1) → holders c (e ∷ (xs ++ ys)) ≡ 0 → IsLinked f p (e ∷ (xs ++ ys)) → IsLinked g p (e ∷ (xs ++ entry k c ∷ ys))
linked_after f g b c k p e [] ys put last once fresh h =
    let same : e.chain.number ≡ b = (let q : Some e.chain.number ≡ Some b = last in cc) in
    let none : holders c ys ≡ 0 = omega (arith, fresh) in
    let rest : IsLinked g (f e.chain.number) ys = linked_same f g (f e.chain.number) ys (λ i s. put.others i (λ q. differ i e.chain.number (holders i ys) (once i) s (q ∙ sym same)) (held_apart i c ys s none)) h.1 in
    (h.0, (ap g same ∙ put.here, subst (λ (x : Option ℕ). IsLinked g x ys) {x = f e.chain.number} {y = g c} (ap f same ∙ sym put.past) rest))
linked_after f g b c k p e (x ∷ xs) ys put last once fresh h =
    let rest : IsLinked g (f e.chain.number) (x ∷ (xs ++ entry k c ∷ ys)) = linked_after f g b c k (f e.chain.number) x xs ys put last (λ i. omega (arith, once i)) (omega (arith, fresh)) h.1 in
    let some : 0 < holders b (x ∷ (xs ++ ys)) = omega (arith, last_held x xs b last, held_append b xs ys) in
    let not_b : e.chain.number ≢ b = λ q. differ b e.chain.number (holders b (x ∷ (xs ++ ys))) (once b) some (sym q) in
    let not_c : e.chain.number ≢ c = λ q. (let one : one_at c e.chain.number ≡ 1 = one_same c e.chain.number (sym q) in absurd (omega (arith, fresh))) in
    (h.0, subst (λ (y : Option ℕ). IsLinked g y (x ∷ (xs ++ entry k c ∷ ys))) {x = f e.chain.number} {y = g e.chain.number} (sym (put.others e.chain.number not_b not_c)) rest)

-- ---- what `with_cell` and `with_empty_link` do to each link

none_at : (m : ℕ) → next_of (record { first = None; next = None ∷ [] }) m ≡ None
none_at zero = refl
none_at (suc m) = refl

pub empty_link_same : (n : Nexts) (i : ℕ) → next_of (with_empty_link n) i ≡ next_of n i
empty_link_same n i = elim (cases_lt i (length n.next)) [
  | inl lt ↦ get_or_append_left n.next (None ∷ []) None i lt
  | inr ge ↦ get_or-append_right n.next (None ∷ []) (length n.next) i None refl ge ∙ none_at (i - length n.next) ∙ sym (get_or_past n.next i None ge)
]

cell_after : (n : Nexts) (b c : ℕ) → b < length n.next → c < length n.next → b ≢ c → IsPutAfter (next_of n) (next_of (with_cell n (Some b) c)) b c
cell_after n b c ltb ltc differs =
    let mid : List (Option ℕ) = set n.next c (next_of n b) in
    let len : length (set n.next c (next_of n b)) ≡ length n.next = length-set n.next c (next_of n b) in
    record {
      here = get_or-set_same (set n.next c (next_of n b)) b (Some c) None (omega arith);
      past = get_or-set_other (set n.next c (next_of n b)) b c (Some c) None (λ q. differs (sym q)) ∙ get_or-set_same n.next c (next_of n b) None ltc;
      others = λ i x y. get_or-set_other (set n.next c (next_of n b)) b i (Some c) None x ∙ get_or-set_other n.next c i (next_of n b) None y;
    }

put_first : (n : Nexts) (ys : List KeyEntry) (k : List ℕ) (c : ℕ) → c < length n.next → holders c ys ≡ 0 → IsLinked (next_of n) n.first ys → IsLinked (next_of (with_cell n None c)) (Some c) (entry k c ∷ ys)
put_first n ys k c lt fresh h =
    let g : ℕ → Option ℕ = next_of (with_cell n None c) in
    let rest : IsLinked (next_of (with_cell n None c)) n.first ys =
    linked_same (next_of n) (next_of (with_cell n None c)) n.first ys (λ i s. get_or-set_other n.next c i n.first None (held_apart i c ys s fresh)) h in
    (refl, subst (λ (x : Option ℕ). IsLinked (next_of (with_cell n None c)) x ys) {x = n.first} {y = next_of (with_cell n None c) c} (sym (get_or-set_same n.next c n.first None lt)) rest)

-- the links with a cell more, between those of the entries before and after it
pub linked_more : (n : Nexts) (xs ys : List KeyEntry) (k : List ℕ) (c : ℕ) (before : Option ℕ) → before ≡ last_cell None xs → c < length n.next → ((i : ℕ) → 0 < holders i (xs ++ ys) → i < length n.next)
    → ((i : ℕ) → holders i (xs ++ ys) ≤ 1) → holders c (xs ++ ys) ≡ 0 → IsLinked (next_of n) n.first (xs ++ ys)
    → IsLinked (next_of (with_cell n before c)) (with_cell n before c).first (xs ++ entry k c ∷ ys)
linked_more n [] ys k c before is lt within once fresh h =
    subst (λ (x : Option ℕ). IsLinked (next_of (with_cell n x c)) (with_cell n x c).first (entry k c ∷ ys)) {x = None} {y = before} (sym is) (put_first n ys k c lt fresh h)
linked_more n (e ∷ xs) ys k c before is lt within once fresh h =
    let last = last_some e.chain.number xs in
    let held_b : 0 < holders last.0 (e ∷ xs) = last_held e xs last.0 last.1 in
    let some : 0 < holders last.0 (e ∷ (xs ++ ys)) = omega (arith, held_append last.0 xs ys) in
    let put : IsPutAfter (next_of n) (next_of (with_cell n (Some last.0) c)) last.0 c = cell_after n last.0 c (within last.0 some) lt (held_apart last.0 c (e ∷ (xs ++ ys)) some fresh) in
    subst (λ (x : Option ℕ). IsLinked (next_of (with_cell n x c)) (with_cell n x c).first (e ∷ (xs ++ entry k c ∷ ys))) {x = Some last.0} {y = before} (sym (is ∙ last.1))
    (linked_after (next_of n) (next_of (with_cell n (Some last.0) c)) last.0 c k n.first e xs ys put last.1 once fresh h)
