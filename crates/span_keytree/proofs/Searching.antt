-- A search in a tree, by the entries of the tree.
use Rattle.std.proofs.Common.{◌≡◌, ◌≢◌, ℕ, zero, List, [], ◌∷◌, ◌++◌, refl, sym, ◌∙◌, ap, arith, length, Option, Some, None, length-append, MatchOption}
use Rattle.std.specs.List.{AllByRecursion}
use Rattle.std.specs.declared.cmp.Ordering.{Ordering}
use Rattle.std.specs.declared.cmp.Ordering.TheVariants.{Less, Equal, Greater}
use Rattle.std.proofs.lemmas.Map.Lookups.{exact_bytes}
use Rattle.std.proofs.lemmas.List.Elements.{Contains-append_left, Contains-append_right, All-from_recursion}
use Rattle.span_value.proofs.Lists.{all_append, all_weaker}
use Rattle.span_keycode.specs.Order.{byte_order}
use Rattle.span_arena.specs.declared.cell.Balance.{Balance}
use Rattle.span_keytree.specs.Trees.{Tree, Leaf, Fork, size, by_side, search_in}
use Rattle.span_keytree.specs.Entries.{IsAbsent, KeyEntry}
use Rattle.span_keytree.specs.Items.{entry, items, AreRising, HasCell, below, from}
use Rattle.span_keytree.specs.Nexts.{before_in, first_in, last_cell, head_cell}
use Rattle.span_keytree.proofs.Rising.{AllBelow, AllAbove, apart, turned, below_more, above_more, IsAround, around, below_left, below_right, from_left, from_right, from_here}

-- as many entries as cells
pub length_items : (t : Tree) → length (items t) ≡ size t
length_items Leaf = refl
length_items (Fork l n k b r) = omega (arith, length_items l, length_items r, length-append (items l) (entry k n ∷ items r))

-- ---- the cell of a key

found_by : (o : Ordering) (key : List ℕ) (l : Tree) (m : ℕ) (k : List ℕ) (b : Balance) (r : Tree) (n : ℕ) → byte_order key k ≡ o
    → (search_in key l ≡ Some n → HasCell (items l) key n) → (search_in key r ≡ Some n → HasCell (items r) key n)
    → by_side o (search_in key l) m (search_in key r) ≡ Some n → HasCell (items (Fork l m k b r)) key n
found_by Less key l m k b r n is left right h = Contains-append_left (items l) (entry k m ∷ items r) (entry key n) (left h)
found_by Equal key l m k b r n is left right h =
    let same : k ≡ key = sym (exact_bytes key k is) in
    let number : m ≡ n = (let e : Some m ≡ Some n = h in cc) in
    let e : entry k m ≡ entry key n = ap (λ (x : List ℕ). entry x m) same ∙ ap (λ (x : ℕ). entry key x) number in
    Contains-append_right (items l) (entry k m ∷ items r) (entry key n) (zero, omega arith, e)
found_by Greater key l m k b r n is left right h = Contains-append_right (items l) (entry k m ∷ items r) (entry key n) (Contains-append_right (entry k m ∷ []) (items r) (entry key n) (right h))

pub search_found : (key : List ℕ) (t : Tree) (n : ℕ) → search_in key t ≡ Some n → HasCell (items t) key n
search_found key Leaf n h = absurd (let e : Some n ≡ None = sym h in cc)
search_found key (Fork l m k b r) n h = found_by (byte_order key k) key l m k b r n refl (search_found key l n) (search_found key r n) h

-- ---- a key that is not there

abbrev pub AllOther : List ℕ → List KeyEntry → Type 0
AllOther key es = AllByRecursion (λ (e : KeyEntry). e.key ≢ key) es

above_other : (key : List ℕ) (es : List KeyEntry) → AllAbove key es → AllOther key es
above_other key es h = all_weaker (λ (e : KeyEntry). byte_order key e.key ≡ Less) (λ (e : KeyEntry). e.key ≢ key) (λ e x same. apart key e.key x (sym same)) es h

below_other : (key : List ℕ) (es : List KeyEntry) → AllBelow key es → AllOther key es
below_other key es h = all_weaker (λ (e : KeyEntry). byte_order e.key key ≡ Less) (λ (e : KeyEntry). e.key ≢ key) (λ e x same. apart e.key key x same) es h

other_by : (o : Ordering) (key : List ℕ) (l : Tree) (m : ℕ) (k : List ℕ) (b : Balance) (r : Tree) → byte_order key k ≡ o → IsAround (items l) (entry k m) (items r)
    → (search_in key l ≡ None → AllOther key (items l)) → (search_in key r ≡ None → AllOther key (items r))
    → by_side o (search_in key l) m (search_in key r) ≡ None → AllOther key (items (Fork l m k b r))
other_by Less key l m k b r is a left right h =
    all_append (λ (e : KeyEntry). e.key ≢ key) (items l) (entry k m ∷ items r) (left h) (above_other key (entry k m ∷ items r) (is, above_more key k (items r) is a.greater))
other_by Equal key l m k b r is a left right h = absurd (let e : Some m ≡ None = h in cc)
other_by Greater key l m k b r is a left right h =
    let less : byte_order k key ≡ Less = turned key k Greater is in
    all_append (λ (e : KeyEntry). e.key ≢ key) (items l) (entry k m ∷ items r) (below_other key (items l) (below_more k key (items l) less a.smaller)) (λ same. apart k key less same, right h)

pub search_other : (key : List ℕ) (t : Tree) → AreRising (items t) → search_in key t ≡ None → AllOther key (items t)
search_other key Leaf rising h = tt
search_other key (Fork l m k b r) rising h =
    let a : IsAround (items l) (entry k m) (items r) = around (items l) (entry k m) (items r) rising in
    other_by (byte_order key k) key l m k b r refl a (search_other key l a.front) (search_other key r a.back) h

pub search_absent : (key : List ℕ) (t : Tree) → AreRising (items t) → search_in key t ≡ None → IsAbsent (items t) key
search_absent key t rising h = All-from_recursion (λ (e : KeyEntry). e.key ≢ key) (items t) (search_other key t rising h)

-- ---- the last cell below a key, and the first from it on

pub last_middle : (b : Option ℕ) (xs : List KeyEntry) (e : KeyEntry) (ys : List KeyEntry) → last_cell b (xs ++ e ∷ ys) ≡ last_cell (Some e.chain.number) ys
last_middle b [] e ys = refl
last_middle b (x ∷ xs) e ys = last_middle (Some x.chain.number) xs e ys

before_by : (o : Ordering) (key : List ℕ) (x : Option ℕ) (l : Tree) (m : ℕ) (k : List ℕ) (b : Balance) (r : Tree) → byte_order key k ≡ o → IsAround (items l) (entry k m) (items r)
    → (search_in key l ≡ None → before_in key x l ≡ last_cell x (below key (items l))) → (search_in key r ≡ None → before_in key (Some m) r ≡ last_cell (Some m) (below key (items r)))
    → by_side o (search_in key l) m (search_in key r) ≡ None
    → by_side o (before_in key x l) m (before_in key (Some m) r) ≡ last_cell x (below key (items (Fork l m k b r)))
before_by Less key x l m k b r is a left right h = left h ∙ ap (λ (es : List KeyEntry). last_cell x es) (sym (below_left (items l) (entry k m) (items r) key a is))
before_by Equal key x l m k b r is a left right h = absurd (let e : Some m ≡ None = h in cc)
before_by Greater key x l m k b r is a left right h =
    let less : byte_order k key ≡ Less = turned key k Greater is in
    right h
    ∙ sym (last_middle x (items l) (entry k m) (below key (items r)))
    ∙ ap (λ (es : List KeyEntry). last_cell x es) (sym (below_right (items l) (entry k m) (items r) key a less))

pub before_is : (key : List ℕ) (x : Option ℕ) (t : Tree) → AreRising (items t) → search_in key t ≡ None → before_in key x t ≡ last_cell x (below key (items t))
before_is key x Leaf rising h = refl
before_is key x (Fork l m k b r) rising h =
    let a : IsAround (items l) (entry k m) (items r) = around (items l) (entry k m) (items r) rising in
    before_by (byte_order key k) key x l m k b r refl a (before_is key x l a.front) (before_is key (Some m) r a.back) h

head_middle : (o : Option ℕ) (xs : List KeyEntry) (e : KeyEntry) (ys : List KeyEntry) → head_cell o (xs ++ e ∷ ys) ≡ head_cell (Some e.chain.number) xs
head_middle o [] e ys = refl
head_middle o (x ∷ xs) e ys = refl

first_by : (o : Ordering) (key : List ℕ) (x : Option ℕ) (l : Tree) (m : ℕ) (k : List ℕ) (b : Balance) (r : Tree) → byte_order key k ≡ o → IsAround (items l) (entry k m) (items r)
    → first_in key (Some m) l ≡ head_cell (Some m) (from key (items l)) → first_in key x r ≡ head_cell x (from key (items r))
    → by_side o (first_in key (Some m) l) m (first_in key x r) ≡ head_cell x (from key (items (Fork l m k b r)))
first_by Less key x l m k b r is a left right =
    left
    ∙ sym (head_middle x (from key (items l)) (entry k m) (items r))
    ∙ ap (λ (es : List KeyEntry). head_cell x es) (sym (from_left (items l) (entry k m) (items r) key a is))
first_by Equal key x l m k b r is a left right =
    ap (λ (es : List KeyEntry). head_cell x es) (sym (from_here (items l) (entry k m) (items r) key a (exact_bytes key k is)))
first_by Greater key x l m k b r is a left right =
    let less : byte_order k key ≡ Less = turned key k Greater is in
    right ∙ ap (λ (es : List KeyEntry). head_cell x es) (sym (from_right (items l) (entry k m) (items r) key a less))

pub first_is : (key : List ℕ) (x : Option ℕ) (t : Tree) → AreRising (items t) → first_in key x t ≡ head_cell x (from key (items t))
first_is key x Leaf rising = refl
first_is key x (Fork l m k b r) rising =
    let a : IsAround (items l) (entry k m) (items r) = around (items l) (entry k m) (items r) rising in
    first_by (byte_order key k) key x l m k b r refl a (first_is key (Some m) l a.front) (first_is key x r a.back)

-- what a search gives
pub search_cases : (key : List ℕ) (t : Tree) (r : Option ℕ) → AreRising (items t) → r ≡ search_in key t → MatchOption r (IsAbsent (items t) key) (HasCell (items t) key)
search_cases key t None rising is = search_absent key t rising (sym is)
search_cases key t (Some n) rising is = search_found key t n (sym is)
