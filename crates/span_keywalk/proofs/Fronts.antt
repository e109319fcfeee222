-- Keys that begin with some bytes are adjacent.
use Rattle.std.proofs.Common.{◌≡◌, ◌≢◌, ℕ, ◌≤◌, Bool, true, false, not, ◌&&◌, cond, List, [], ◌∷◌, ◌++◌, length, drop, refl, sym, ap, ◌∙◌, subst, Option, Some, None}
use Rattle.std.specs.Prelude.{nat_eq}
use Rattle.std.specs.List.{starts_with, AllByRecursion}
use Rattle.std.specs.declared.cmp.Ordering.{Ordering}
use Rattle.std.specs.declared.cmp.Ordering.TheVariants.{Less, Equal, Greater}
use Rattle.std.specs.Ordering.{is_lt}
use Rattle.std.proofs.lemmas.List.Elements.{filter-append}
use Rattle.span_keycode.specs.Order.{byte_order}
use Rattle.span_arena.specs.declared.cell.Cell.{Cell}
use Rattle.span_arena.specs.declared.cell.Balance.{Balance}
use Rattle.span_keytree.specs.declared.tree.TreeRoot.{TreeRoot}
use Rattle.span_keytree.specs.Trees.{Tree, Leaf, Fork}
use Rattle.span_arena.specs.Cells.{is_past}
use Rattle.span_keytree.specs.Entries.{entries_under, KeyEntry}
use Rattle.span_keytree.specs.Items.{entry, items, AreRising, below, from, past}
use Rattle.span_keytree.specs.Nexts.{Nexts, head_cell, first_past}
use Rattle.span_keytree.specs.Roots.{entries_at, IsIndex}
use Rattle.span_keytree.proofs.Rising.{AllAbove, less_trans, IsAround, around, rising_back, below_all, cut_from}
use Rattle.span_keywalk.proofs.Walking.{IsWalked, part_walked}
use Rattle.span_value.proofs.Lists.{filter_all, filter_none, all_weaker}
use Rattle.span_keycode.proofs.Order.{front_not_after}
use Rattle.span_keycode.proofs.Fronts.{begins_front, between}

abbrev begins : List ℕ → List ℕ → Bool
begins bytes front = starts_with nat_eq bytes front

begins_not_before : (b p : List ℕ) → begins b p ≡ true → is_lt (byte_order b p) ≡ false
begins_not_before b p e = ap (λ (l : List ℕ). is_lt (byte_order l p)) (sym (begins_front b p e)) ∙ front_not_after p (drop (length p) b)

not_greater : (o : Ordering) → o ≡ Less → o ≢ Greater
not_greater o e f = let g : Less ≡ Greater = sym e ∙ f in absurd (cc)

-- ---- keys after all that begin with some bytes

not_less : (a b : List ℕ) → byte_order a b ≡ Less → (p : List ℕ) → is_lt (byte_order a p) ≡ false → is_lt (byte_order b p) ≡ false
not_less a b less p le = by (byte_order b p) refl
  where
    by : (o : Ordering) → byte_order b p ≡ o → is_lt o ≡ false
    by Less e = absurd (let f : true ≡ false = sym (ap is_lt (less_trans a b p less e)) ∙ le in cc)
    by Equal e = refl
    by Greater e = refl

-- the two tests of a key
past_parts : (p k : List ℕ) → is_past p k ≡ true → (is_lt (byte_order k p) ≡ false) × (begins k p ≡ false)
past_parts p k h = by (is_lt (byte_order k p)) (begins k p) refl refl h
  where
    by : (a b : Bool) → is_lt (byte_order k p) ≡ a → begins k p ≡ b → (not a && not b) ≡ true → (is_lt (byte_order k p) ≡ false) × (begins k p ≡ false)
    by true b e f h = absurd (let g : false ≡ true = h in cc)
    by false true e f h = absurd (let g : false ≡ true = h in cc)
    by false false e f h = (e, f)

past_from : (p k : List ℕ) → is_lt (byte_order k p) ≡ false → begins k p ≡ false → is_past p k ≡ true
past_from p k e f = ap (λ (a : Bool). not a && not (begins k p)) e ∙ ap (λ (b : Bool). not b) f

-- a greater key is past them too
past_more : (p a b : List ℕ) → byte_order a b ≡ Less → is_past p a ≡ true → is_past p b ≡ true
past_more p a b less h =
    let h2 = past_parts p a h in
    past_from p b (not_less a b less p h2.0) (by (begins b p) refl)
  where
    by : (c : Bool) → begins b p ≡ c → c ≡ false
    by false e = refl
    by true e =
        let order : byte_order a (p ++ drop (length p) b) ≡ Less = ap (λ (l : List ℕ). byte_order a l) (begins_front b p e) ∙ less in
        let hit : begins a p ≡ true = between p a (drop (length p) b) (past_parts p a h).0 (not_greater _ order) in
        absurd (let g : true ≡ false = sym hit ∙ (past_parts p a h).1 in cc)

-- ---- the entries past them

all_past : (p k : List ℕ) (es : List KeyEntry) → is_past p k ≡ true → AllAbove k es → AllByRecursion (λ (e : KeyEntry). is_past p e.key ≡ true) es
all_past p k es h above = all_weaker (λ (e : KeyEntry). byte_order k e.key ≡ Less) (λ (e : KeyEntry). is_past p e.key ≡ true) (λ e x. past_more p k e.key x h) es above

not_past : (p k : List ℕ) → is_past p k ≡ false → (a : List ℕ) → byte_order a k ≡ Less → is_past p a ≡ false
not_past p k h a less = by (is_past p a) refl
  where
    by : (b : Bool) → is_past p a ≡ b → b ≡ false
    by false e = refl
    by true e = absurd (let f : true ≡ false = sym (past_more p a k less e) ∙ h in cc)

first_by : (b : Bool) (p : List ℕ) (x : Option ℕ) (l : Tree) (m : ℕ) (k : List ℕ) (bal : Balance) (r : Tree) → is_past p k ≡ b → IsAround (items l) (entry k m) (items r)
    → first_past p (Some m) l ≡ head_cell (Some m) (past p (items l)) → first_past p x r ≡ head_cell x (past p (items r))
    → cond b (first_past p (Some m) l) (first_past p x r) ≡ head_cell x (past p (items (Fork l m k bal r)))
first_by true p x l m k bal r is a left right =
    let rest : past p (entry k m ∷ items r) ≡ entry k m ∷ items r = filter_all (λ (e : KeyEntry). is_past p e.key) (entry k m ∷ items r) (is, all_past p k (items r) is a.greater) in
    left
    ∙ sym (middle (past p (items l)))
    ∙ ap (λ (es : List KeyEntry). head_cell x es) (sym (filter-append (λ (e : KeyEntry). is_past p e.key) (items l) (entry k m ∷ items r) ∙ ap (λ (es : List KeyEntry). past p (items l) ++ es) rest))
  where
    middle : (xs : List KeyEntry) → head_cell x (xs ++ entry k m ∷ items r) ≡ head_cell (Some m) xs
    middle [] = refl
    middle (y ∷ ys) = refl
first_by false p x l m k bal r is a left right =
    let none : past p (items l) ≡ [] = filter_none (λ (e : KeyEntry). is_past p e.key) (items l) (all_weaker (λ (e : KeyEntry). byte_order e.key k ≡ Less) (λ (e : KeyEntry). is_past p e.key ≡ false) (λ e y. not_past p k is e.key y) (items l) a.smaller) in
    right
    ∙ ap (λ (es : List KeyEntry). head_cell x es) (sym (
    filter-append (λ (e : KeyEntry). is_past p e.key) (items l) (entry k m ∷ items r)
    ∙ ap (λ (es : List KeyEntry). es ++ past p (entry k m ∷ items r)) none
    ∙ ap (λ (b : Bool). cond b (entry k m ∷ past p (items r)) (past p (items r))) is
    ))

pub first_past_is : (p : List ℕ) (x : Option ℕ) (t : Tree) → AreRising (items t) → first_past p x t ≡ head_cell x (past p (items t))
first_past_is p x Leaf rising = refl
first_past_is p x (Fork l m k bal r) rising =
    let a : IsAround (items l) (entry k m) (items r) = around (items l) (entry k m) (items r) rising in
    first_by (is_past p k) p x l m k bal r refl a (first_past_is p (Some m) l a.front) (first_past_is p x r a.back)

-- ---- the entries that begin with them

-- where none is before them, those that begin with them are first
cut_under_by : (b : Bool) (p : List ℕ) (e : KeyEntry) (es : List KeyEntry) → begins e.key p ≡ b → is_lt (byte_order e.key p) ≡ false → AreRising (e ∷ es) → es ≡ entries_under p es ++ past p es → e ∷ es ≡ entries_under p (e ∷ es) ++ past p (e ∷ es)
cut_under_by true p e es is le rising rest =
    let out : is_past p e.key ≡ false = ap (λ (a : Bool). not (is_lt (byte_order e.key p)) && not a) is ∙ ap (λ (a : Bool). not a && false) le in
    ap (λ (xs : List KeyEntry). e ∷ xs) rest
    ∙ sym (ap (λ (b : Bool). cond b (e ∷ entries_under p es) (entries_under p es) ++ past p (e ∷ es)) is ∙ ap (λ (b : Bool). (e ∷ entries_under p es) ++ cond b (e ∷ past p es) (past p es)) out)
cut_under_by false p e es is le rising rest =
    let after : is_past p e.key ≡ true = past_from p e.key le is in
    let all : AllByRecursion (λ (f : KeyEntry). is_past p f.key ≡ true) (e ∷ es) = (after, all_past p e.key es after rising.0) in
    let none : entries_under p (e ∷ es) ≡ [] = filter_none (λ (f : KeyEntry). begins f.key p) (e ∷ es) (all_weaker (λ (f : KeyEntry). is_past p f.key ≡ true) (λ (f : KeyEntry). begins f.key p ≡ false) (λ f x. (past_parts p f.key x).1) (e ∷ es) all) in
    sym (ap (λ (xs : List KeyEntry). xs ++ past p (e ∷ es)) none ∙ filter_all (λ (f : KeyEntry). is_past p f.key) (e ∷ es) all)

cut_under : (p : List ℕ) (es : List KeyEntry) → AllByRecursion (λ (e : KeyEntry). is_lt (byte_order e.key p) ≡ false) es → AreRising es → es ≡ entries_under p es ++ past p es
cut_under p [] le rising = refl
cut_under p (e ∷ es) le rising = cut_under_by (begins e.key p) p e es refl le.0 rising (cut_under p es le.1 rising.1)

from_not_below_by : (b : Bool) (p : List ℕ) (e : KeyEntry) (es : List KeyEntry) → is_lt (byte_order e.key p) ≡ b → AllByRecursion (λ (f : KeyEntry). is_lt (byte_order f.key p) ≡ false) es → AllByRecursion (λ (f : KeyEntry). is_lt (byte_order f.key p) ≡ false) (cond (not b) (e ∷ es) es)
from_not_below_by true p e es is h = h
from_not_below_by false p e es is h = (is, h)

from_not_below : (p : List ℕ) (es : List KeyEntry) → AllByRecursion (λ (e : KeyEntry). is_lt (byte_order e.key p) ≡ false) (from p es)
from_not_below p [] = tt
from_not_below p (e ∷ es) = from_not_below_by (is_lt (byte_order e.key p)) p e (from p es) refl (from_not_below p es)

-- none of those below them begins with them, or is past them
under_none : (p : List ℕ) (es : List KeyEntry) → AllByRecursion (λ (e : KeyEntry). byte_order e.key p ≡ Less) es → entries_under p es ≡ []
under_none p es h = filter_none (λ (e : KeyEntry). begins e.key p) es (all_weaker (λ (e : KeyEntry). byte_order e.key p ≡ Less) (λ (e : KeyEntry). begins e.key p ≡ false) (λ e x. by e x (begins e.key p) refl) es h)
  where
    by : (e : KeyEntry) → byte_order e.key p ≡ Less → (b : Bool) → begins e.key p ≡ b → b ≡ false
    by e x false is = refl
    by e x true is = absurd (let f : true ≡ false = sym (ap is_lt x) ∙ begins_not_before e.key p is in cc)

past_none : (p : List ℕ) (es : List KeyEntry) → AllByRecursion (λ (e : KeyEntry). byte_order e.key p ≡ Less) es → past p es ≡ []
past_none p es h = filter_none (λ (e : KeyEntry). is_past p e.key) es (all_weaker (λ (e : KeyEntry). byte_order e.key p ≡ Less) (λ (e : KeyEntry). is_past p e.key ≡ false) (λ e x. ap (λ (a : Bool). not a && not (begins e.key p)) (ap is_lt x)) es h)

pub under_walked : (cs : List Cell) (ns : Nexts) (index : TreeRoot) (own : IsIndex cs ns index) (n : ℕ) (enough : length cs ≤ n) (p : List ℕ) (at stop : Option ℕ)
    → at ≡ head_cell None (from p (entries_at cs index)) → stop ≡ head_cell None (past p (entries_at cs index)) → IsWalked cs ns n at stop (entries_under p (entries_at cs index))
under_walked cs ns index own n enough p at stop first last =
    let es = entries_at cs index in
    let cut : es ≡ below p es ++ from p es = cut_from p es own.search.rising in
    let rising : AreRising (from p es) = rising_back (below p es) (from p es) (subst AreRising {x = es} {y = below p es ++ from p es} cut own.search.rising) in
    let again : from p es ≡ entries_under p (from p es) ++ past p (from p es) = cut_under p (from p es) (from_not_below p es) rising in
    let rest : past p es ≡ past p (from p es) =
    ap (past p) cut ∙ filter-append (λ (e : KeyEntry). is_past p e.key) (below p es) (from p es) ∙ ap (λ (xs : List KeyEntry). xs ++ past p (from p es)) (past_none p (below p es) (below_all p es)) in
    let under : entries_under p es ≡ entries_under p (from p es) =
    ap (entries_under p) cut ∙ filter-append (λ (e : KeyEntry). begins e.key p) (below p es) (from p es) ∙ ap (λ (xs : List KeyEntry). xs ++ entries_under p (from p es)) (under_none p (below p es) (below_all p es)) in
    let is : es ≡ below p es ++ (entries_under p (from p es) ++ past p (from p es)) = cut ∙ ap (λ (xs : List KeyEntry). below p es ++ xs) again in
    let walk : IsWalked cs ns n at stop (entries_under p (from p es)) =
    part_walked cs ns index own n enough (below p es) (entries_under p (from p es)) (past p (from p es)) at stop is (first ∙ ap (λ (xs : List KeyEntry). head_cell None xs) again) (last ∙ ap (λ (xs : List KeyEntry). head_cell None xs) rest) in
    subst (λ (xs : List KeyEntry). IsWalked cs ns n at stop xs) {x = entries_under p (from p es)} {y = entries_under p es} (sym under) walk
