-- Rows in the order of their keys, as two lists one after the other: what is at a key, and what stays in order.
use Rattle.std.proofs.Common.{◌≡◌, ℕ, zero, suc, ◌<◌, ◌≤◌, ◌-◌, Bool, true, false, not, ◌||◌, cond, List, [], ◌∷◌, ◌++◌, Option, Some, None, is_none, is_some, take, drop, length, get_or, slice_get, refl, sym, ap, subst, ◌∙◌, append_assoc, arith, MatchBool}
use Rattle.std.specs.List.{filter, list_any, AllByRecursion}
use Rattle.std.specs.List.Sorted.{IsStrictlySortedBy, IsPartitionedBy}
use Rattle.std.specs.Ordering.{is_eq, is_lt, ordering_reverse, match_ordering}
use Rattle.std.specs.declared.cmp.Ordering.{Ordering}
use Rattle.std.specs.declared.cmp.Ordering.TheVariants.{Less, Equal, Greater}
use Rattle.std.specs.BTreeMap.{insert_entry, is_at}
use Rattle.std.specs.Map.{keys_of, remove_entry}
use Rattle.std.proofs.lemmas.Cmp.{eq_by_cmp_equiv}
use Rattle.std.proofs.lemmas.List.{length-drop, take-append-drop, take_all}
use Rattle.std.proofs.lemmas.List.Elements.{filter-append, recursion_from_All, All-from_recursion}
use Rattle.std.proofs.lemmas.List.Folds.{list_any-append}
use Rattle.std.proofs.lemmas.Map.Entries.{lookup_at_gap, lookup_from_place}
use Rattle.std.proofs.lemmas.Map.Keys.{IsDistinct-from_sorted}
use Rattle.std.proofs.lemmas.Map.Views.{All-keys-insert_entry, All-map-remove_entry}
use Rattle.std.proofs.lemmas.Option.{slice_get_within, get_or_from_slice_get}
use Rattle.std.proofs.lemmas.Bool.{or_left, or_right}
use Rattle.span_value.proofs.Lists.{all_append, all_weaker, filter_all, filter_none}
use Rattle.span_value.proofs.Comparisons.{is_less}
use Rattle.span_keycode.specs.Order.{byte_order, is_same}
use Rattle.span_keycode.proofs.Order.{same_bytes}
use Rattle.span_maderows.specs.Made.{begins_with, made_at, AddsMade, AreInKeyOrder, IsAfterAll, IsBeforeAll, IsFromFirst, IsCountBefore, IsSetAt}
use Rattle.span_maderows.proofs.Bytes.{bytes_total, turned}
use Rattle.span_maderows.proofs.Lists.{all_front, all_rest}
use Rattle.span_maderows.proofs.Pushing.{Made, is_from, from_is}

-- ---- keys before one, and after one

pub not_same : (k l : List ℕ) → byte_order k l ≡ Less → is_same k l ≡ false
not_same k l e = ap is_eq e

-- a key before one that is not after another is before that one
before_up_to : (k first key : List ℕ) → byte_order k first ≡ Less → is_lt (byte_order key first) ≡ false → byte_order k key ≡ Less
before_up_to k first key less from = cases (byte_order key first) refl
  where
    cases : (o : Ordering) → byte_order key first ≡ o → byte_order k key ≡ Less
    cases Less e = absurd (let f : true ≡ false = sym (ap is_lt e) ∙ from in cc)
    cases Equal e = ap (byte_order k) (same_bytes key first (ap is_eq e)) ∙ less
    cases Greater e = bytes_total.trans k first key less (bytes_total.antisymm first key ∙ ap ordering_reverse e)

pub before_none : (key : List ℕ) (made : Made) → IsBeforeAll key made → made_at made key ≡ None
before_none key [] h = refl
before_none key (e ∷ es) h = ap (λ (b : Bool). cond b (Some e.1) (made_at es key)) (not_same key e.0 h.0) ∙ before_none key es h.1

pub after_none : (key : List ℕ) (made : Made) → IsAfterAll key made → made_at made key ≡ None
after_none key [] h = refl
after_none key (e ∷ es) h = ap (λ (b : Bool). cond b (Some e.1) (made_at es key)) (turned key e.0 ∙ not_same e.0 key h.0) ∙ after_none key es h.1

-- ---- the order of two lists

pub front_all : (P : List ℕ → Type 0) (ps qs : Made) → AllByRecursion P (keys_of (ps ++ qs)) → AllByRecursion P (keys_of ps)
front_all P [] qs h = tt
front_all P (e ∷ ps) qs h = (h.0, front_all P ps qs h.1)

pub back_all : (P : List ℕ → Type 0) (ps qs : Made) → AllByRecursion P (keys_of (ps ++ qs)) → AllByRecursion P (keys_of qs)
back_all P [] qs h = h
back_all P (e ∷ ps) qs h = back_all P ps qs h.1

pub both_all : (P : List ℕ → Type 0) (ps qs : Made) → AllByRecursion P (keys_of ps) → AllByRecursion P (keys_of qs) → AllByRecursion P (keys_of (ps ++ qs))
both_all P [] qs h g = g
both_all P (e ∷ ps) qs h g = (h.0, both_all P ps qs h.1 g)

-- each key of the first list is before those of the second
abbrev pub AreApart : Made → Made → Type 0
AreApart ps qs = AllByRecursion (λ (k : List ℕ). IsBeforeAll k qs) (keys_of ps)

pub order_front : (ps qs : Made) → AreInKeyOrder (ps ++ qs) → AreInKeyOrder ps
unfolding IsStrictlySortedBy
order_front [] qs h = tt
order_front (e ∷ ps) qs h = (front_all (λ (k : List ℕ). byte_order e.0 k ≡ Less) ps qs h.0, order_front ps qs h.1)

pub order_back : (ps qs : Made) → AreInKeyOrder (ps ++ qs) → AreInKeyOrder qs
unfolding IsStrictlySortedBy
order_back [] qs h = h
order_back (e ∷ ps) qs h = order_back ps qs h.1

pub order_apart : (ps qs : Made) → AreInKeyOrder (ps ++ qs) → AreApart ps qs
unfolding IsStrictlySortedBy
order_apart [] qs h = tt
order_apart (e ∷ ps) qs h = (back_all (λ (k : List ℕ). byte_order e.0 k ≡ Less) ps qs h.0, order_apart ps qs h.1)

pub order_join : (ps qs : Made) → AreInKeyOrder ps → AreInKeyOrder qs → AreApart ps qs → AreInKeyOrder (ps ++ qs)
unfolding IsStrictlySortedBy
order_join [] qs a b apart = b
order_join (e ∷ ps) qs a b apart = (both_all (λ (k : List ℕ). byte_order e.0 k ≡ Less) ps qs a.0 apart.0, order_join ps qs a.1 b apart.1)

order_one : (e : List ℕ × List ℕ) → AreInKeyOrder (e ∷ [])
unfolding IsStrictlySortedBy
order_one e = (tt, tt)

-- ---- what is at a key of two lists

abbrev pub first_of : Option (List ℕ) → Option (List ℕ) → Option (List ℕ)
first_of (Some row) o = Some row
first_of None o = o

pub first_alone : (o : Option (List ℕ)) → first_of o None ≡ o
first_alone (Some row) = refl
first_alone None = refl

pub appended : (ps qs : Made) (k : List ℕ) → made_at (ps ++ qs) k ≡ first_of (made_at ps k) (made_at qs k)
appended [] qs k = refl
appended (e ∷ ps) qs k = cases (is_same k e.0) (appended ps qs k)
  where
    cases : (b : Bool) → made_at (ps ++ qs) k ≡ first_of (made_at ps k) (made_at qs k) → cond b (Some e.1) (made_at (ps ++ qs) k) ≡ first_of (cond b (Some e.1) (made_at ps k)) (made_at qs k)
    cases true again = refl
    cases false again = again

pub in_first : (ps qs : Made) (k row : List ℕ) → made_at ps k ≡ Some row → made_at (ps ++ qs) k ≡ Some row
in_first ps qs k row e = appended ps qs k ∙ ap (λ (o : Option (List ℕ)). first_of o (made_at qs k)) e

pub not_in_first : (ps qs : Made) (k : List ℕ) → made_at ps k ≡ None → made_at (ps ++ qs) k ≡ made_at qs k
not_in_first ps qs k e = appended ps qs k ∙ ap (λ (o : Option (List ℕ)). first_of o (made_at qs k)) e

pub not_in_second : (ps qs : Made) (k : List ℕ) → made_at qs k ≡ None → made_at (ps ++ qs) k ≡ made_at ps k
not_in_second ps qs k e = appended ps qs k ∙ ap (first_of (made_at ps k)) e ∙ first_alone (made_at ps k)

-- a key of the second list is none of the first
apart_none : (ps qs : Made) (k row : List ℕ) → AreApart ps qs → made_at qs k ≡ Some row → made_at ps k ≡ None
apart_none [] qs k row apart e = refl
apart_none (p ∷ ps) qs k row apart e = cases (is_same k p.0) refl (apart_none ps qs k row apart.1 e)
  where
    cases : (b : Bool) → is_same k p.0 ≡ b → made_at ps k ≡ None → cond b (Some p.1) (made_at ps k) ≡ None
    cases true f again =
        absurd (let g : None ≡ Some row = sym (before_none k qs (subst (λ (l : List ℕ). IsBeforeAll l qs) (sym (same_bytes k p.0 f)) apart.0)) ∙ e in cc)
    cases false f again = again

pub in_second : (ps qs : Made) (k row : List ℕ) → AreApart ps qs → made_at qs k ≡ Some row → made_at (ps ++ qs) k ≡ Some row
in_second ps qs k row apart e = not_in_first ps qs k (apart_none ps qs k row apart e) ∙ e

-- a key that is not before the second list is none of the first
from_first_none : (key : List ℕ) (ps qs : Made) → AreApart ps qs → IsFromFirst key qs → made_at ps key ≡ None
from_first_none key ps [] apart from = absurd from
from_first_none key ps (q ∷ qs) apart from =
    after_none key ps (all_weaker (λ (k : List ℕ). IsBeforeAll k (q ∷ qs)) (λ (k : List ℕ). byte_order k key ≡ Less) (λ k h. before_up_to k q.0 key h.0 from) (keys_of ps) apart)

-- a key beside the first one
pub first_cases : (key : List ℕ) (made : Made) (e : List ℕ × List ℕ) → AreInKeyOrder made → slice_get made 0 ≡ Some e → (b : Bool) → b ≡ is_lt (byte_order key e.0) → MatchBool b (IsBeforeAll key made) (IsFromFirst key made)
unfolding IsStrictlySortedBy
first_cases key [] e order at b is = absurd (let f : None ≡ Some e = at in cc)
first_cases key (x ∷ xs) e order at b is = cases b is
  where
    same : x ≡ e
    same = let f : Some x ≡ Some e = at in cc

    first : is_lt (byte_order key e.0) ≡ is_lt (byte_order key x.0)
    first = ap (λ (p : List ℕ × List ℕ). is_lt (byte_order key p.0)) (sym same)

    cases : (b : Bool) → b ≡ is_lt (byte_order key e.0) → MatchBool b (IsBeforeAll key (x ∷ xs)) (IsFromFirst key (x ∷ xs))
    cases true f =
        let less : byte_order key x.0 ≡ Less = is_less (byte_order key x.0) (sym (f ∙ first)) in
        (less, all_weaker (λ (k : List ℕ). byte_order x.0 k ≡ Less) (λ (k : List ℕ). byte_order key k ≡ Less) (λ k h. bytes_total.trans key x.0 k less h) (keys_of xs) order.0)
    cases false f = sym (f ∙ first)

-- ---- a look-up

pub get_first : (ps qs : Made) (key : List ℕ) → IsBeforeAll key qs → made_at ps key ≡ made_at (ps ++ qs) key
get_first ps qs key before = sym (not_in_second ps qs key (before_none key qs before))

pub get_second : (ps qs : Made) (key : List ℕ) → AreInKeyOrder (ps ++ qs) → IsFromFirst key qs → made_at qs key ≡ made_at (ps ++ qs) key
get_second ps qs key order from = sym (not_in_first ps qs key (from_first_none key ps qs (order_apart ps qs order) from))

-- ---- a key after the last one

-- ... is after all
pub after_last : (key : List ℕ) (made : Made) (e : List ℕ × List ℕ) → AreInKeyOrder made → slice_get made (length made - 1) ≡ Some e → byte_order e.0 key ≡ Less → IsAfterAll key made
unfolding IsStrictlySortedBy
after_last key [] e order at less = tt
after_last key (x ∷ []) e order at less =
    let one : length (x ∷ []) - 1 ≡ 0 = omega arith in
    let same : x ≡ e = (let f : Some x ≡ Some e = sym (ap (slice_get (x ∷ [])) one) ∙ at in cc) in
    (ap (λ (p : List ℕ × List ℕ). byte_order p.0 key) same ∙ less, tt)
after_last key (x ∷ y ∷ ys) e order at less =
    let more : length (x ∷ y ∷ ys) - 1 ≡ suc (length (y ∷ ys) - 1) = omega arith in
    let again = after_last key (y ∷ ys) e order.1 (sym (ap (slice_get (x ∷ y ∷ ys)) more) ∙ at) less in
    (bytes_total.trans x.0 y.0 key order.0.0 again.0, again)

-- ... also after all of a list before
pub after_both : (key : List ℕ) (ps qs : Made) (e : List ℕ × List ℕ) (i : ℕ) → AreInKeyOrder (ps ++ qs) → slice_get qs i ≡ Some e → IsAfterAll key qs → IsAfterAll key (ps ++ qs)
after_both key ps [] e i order at after = absurd (let f : None ≡ Some e = at in cc)
after_both key ps (q ∷ qs) e i order at after =
    both_all (λ (k : List ℕ). byte_order k key ≡ Less) ps (q ∷ qs)
    (all_weaker (λ (k : List ℕ). IsBeforeAll k (q ∷ qs)) (λ (k : List ℕ). byte_order k key ≡ Less) (λ k h. bytes_total.trans k q.0 key h.0 after.0) (keys_of ps) (order_apart ps (q ∷ qs) order))
    after

less_of : (k l : List ℕ) → is_lt (byte_order k l) ≡ true → byte_order k l ≡ Less
less_of k l e = is_less (byte_order k l) e

pub after_end : (key : List ℕ) (ps qs : Made) (e : List ℕ × List ℕ) → AreInKeyOrder (ps ++ qs) → slice_get qs (length qs - 1) ≡ Some e → is_lt (byte_order e.0 key) ≡ true → IsAfterAll key (ps ++ qs)
after_end key ps qs e order at less = after_both key ps qs e (length qs - 1) order at (after_last key qs e (order_back ps qs order) at (less_of e.0 key less))

-- ... which no key of a list is after
pub after_greatest : (key last : List ℕ) (made : Made) → is_lt (byte_order last key) ≡ true → AllByRecursion (λ (k : List ℕ). is_lt (byte_order last k) ≡ false) (keys_of made) → IsAfterAll key made
after_greatest key last made less greatest = all_weaker (λ (k : List ℕ). is_lt (byte_order last k) ≡ false) (λ (k : List ℕ). byte_order k key ≡ Less) (λ k h. cases k h (byte_order last k) refl) (keys_of made) greatest
  where
    cases : (k : List ℕ) → is_lt (byte_order last k) ≡ false → (o : Ordering) → byte_order last k ≡ o → byte_order k key ≡ Less
    cases k h Less e = absurd (let f : true ≡ false = sym (ap is_lt e) ∙ h in cc)
    cases k h Equal e = ap (λ (l : List ℕ). byte_order l key) (sym (same_bytes last k (ap is_eq e))) ∙ less_of last key less
    cases k h Greater e = bytes_total.trans k last key (bytes_total.antisymm k last ∙ ap ordering_reverse e) (less_of last key less)

-- its row is put at the end
end_order : (made : Made) (key row : List ℕ) → IsAfterAll key made → AreInKeyOrder made → AreInKeyOrder (made ++ (key, row) ∷ [])
end_order made key row after order =
    order_join made ((key, row) ∷ []) order (order_one (key, row)) (all_weaker (λ (k : List ℕ). byte_order k key ≡ Less) (λ (k : List ℕ). IsBeforeAll k ((key, row) ∷ [])) (λ k e. (e, tt)) (keys_of made) after)

end_set : (made : Made) (key row : List ℕ) → IsAfterAll key made → IsSetAt key (Some row) made (made ++ (key, row) ∷ [])
end_set made key row after k = appended made ((key, row) ∷ []) k ∙ cases (is_same key k) refl
  where
    cases : (b : Bool) → is_same key k ≡ b → first_of (made_at made k) (cond (is_same k key) (Some row) None) ≡ cond b (Some row) (made_at made k)
    cases true e =
        ap (λ (o : Option (List ℕ)). first_of o (cond (is_same k key) (Some row) None)) (ap (made_at made) (sym (same_bytes key k e)) ∙ after_none key made after)
        ∙ ap (λ (b : Bool). cond b (Some row) None) (turned k key ∙ e)
    cases false e =
        ap (λ (b : Bool). first_of (made_at made k) (cond b (Some row) None)) (turned k key ∙ e) ∙ first_alone (made_at made k)

pub tail_order : (map tail : Made) (key row : List ℕ) → IsAfterAll key (map ++ tail) → AreInKeyOrder (map ++ tail) → AreInKeyOrder (map ++ (tail ++ (key, row) ∷ []))
tail_order map tail key row after order = subst AreInKeyOrder (append_assoc map tail ((key, row) ∷ [])) (end_order (map ++ tail) key row after order)

pub tail_set : (map tail : Made) (key row : List ℕ) → IsAfterAll key (map ++ tail) → IsSetAt key (Some row) (map ++ tail) (map ++ (tail ++ (key, row) ∷ []))
tail_set map tail key row after = subst (IsSetAt key (Some row) (map ++ tail)) (append_assoc map tail ((key, row) ∷ [])) (end_set (map ++ tail) key row after)

-- ---- a row in the first list

-- ... is put, where its key is before the second
pub front_order : (map next tail : Made) (key row : List ℕ) → AreInKeyOrder (map ++ tail) → AreInKeyOrder next → next ≡ insert_entry byte_order map key row → IsBeforeAll key tail → AreInKeyOrder (next ++ tail)
front_order map next tail key row order sorted is before =
    order_join next tail sorted (order_back map tail order)
    (subst (λ (l : Made). AreApart l tail) (sym is)
    (recursion_from_All P (keys_of (insert_entry byte_order map key row)) (All-keys-insert_entry byte_order key row P map (All-from_recursion P (keys_of map) (order_apart map tail order)) before)))
  where
    P : List ℕ → Type 0
    P k = IsBeforeAll k tail

pub front_set : (map next tail : Made) (key row : List ℕ) → IsSetAt key (Some row) map next → IsSetAt key (Some row) (map ++ tail) (next ++ tail)
front_set map next tail key row set k =
    appended next tail k ∙ ap (λ (o : Option (List ℕ)). first_of o (made_at tail k)) (set k) ∙ cases (is_same key k)
    ∙ ap (λ (o : Option (List ℕ)). cond (is_same key k) (Some row) o) (sym (appended map tail k))
  where
    cases : (b : Bool) → first_of (cond b (Some row) (made_at map k)) (made_at tail k) ≡ cond b (Some row) (first_of (made_at map k) (made_at tail k))
    cases true = refl
    cases false = refl

-- ... is taken out
pub front_out_order : (map next tail : Made) (key : List ℕ) → AreInKeyOrder (map ++ tail) → AreInKeyOrder next → next ≡ remove_entry (is_at (byte_order key)) map → AreInKeyOrder (next ++ tail)
front_out_order map next tail key order sorted is =
    order_join next tail sorted (order_back map tail order)
    (subst (λ (l : Made). AreApart l tail) (sym is)
    (recursion_from_All P (keys_of (remove_entry (is_at (byte_order key)) map))
    (All-map-remove_entry (is_at (byte_order key)) (λ (e : List ℕ × List ℕ). e.0) P map (All-from_recursion P (keys_of map) (order_apart map tail order)))))
  where
    P : List ℕ → Type 0
    P k = IsBeforeAll k tail

pub front_out : (map next tail : Made) (key : List ℕ) → IsBeforeAll key tail → IsSetAt key None map next → IsSetAt key None (map ++ tail) (next ++ tail)
front_out map next tail key before set k =
    appended next tail k ∙ ap (λ (o : Option (List ℕ)). first_of o (made_at tail k)) (set k) ∙ cases (is_same key k) refl
    ∙ ap (λ (o : Option (List ℕ)). cond (is_same key k) None o) (sym (appended map tail k))
  where
    cases : (b : Bool) → is_same key k ≡ b → first_of (cond b None (made_at map k)) (made_at tail k) ≡ cond b None (first_of (made_at map k) (made_at tail k))
    cases true e = ap (made_at tail) (sym (same_bytes key k e)) ∙ before_none key tail before
    cases false e = refl

-- whether there was none at a key before
pub front_absent : (map tail : Made) (key : List ℕ) (o : Option (List ℕ)) (b : Bool) → IsBeforeAll key tail → o ≡ made_at map key → is_some o ≡ not b → b ≡ is_none (made_at (map ++ tail) key)
front_absent map tail key o b before is none = cases o b none ∙ ap (λ (p : Option (List ℕ)). is_none p) (is ∙ sym (not_in_second map tail key (before_none key tail before)))
  where
    cases : (p : Option (List ℕ)) (c : Bool) → is_some p ≡ not c → c ≡ is_none p
    cases None true e = refl
    cases None false e = absurd (let f : false ≡ true = e in cc)
    cases (Some row) true e = absurd (let f : true ≡ false = e in cc)
    cases (Some row) false e = refl

pub end_absent : (made : Made) (key : List ℕ) → IsAfterAll key made → true ≡ is_none (made_at made key)
end_absent made key after = sym (ap (λ (p : Option (List ℕ)). is_none p) (after_none key made after))

-- ---- the second list moves into the first

insert_end : (made : Made) (key row : List ℕ) → IsAfterAll key made → insert_entry byte_order made key row ≡ made ++ (key, row) ∷ []
insert_end [] key row after = refl
insert_end (e ∷ es) key row after =
    ap (λ (o : Ordering). match_ordering o ((key, row) ∷ e ∷ es) ((e.0, row) ∷ es) (e ∷ insert_entry byte_order es key row)) (bytes_total.antisymm key e.0 ∙ ap ordering_reverse after.0)
    ∙ ap (λ (l : Made). e ∷ l) (insert_end es key row after.1)

-- one row is moved
pub moved_next : (whole map next left rest : Made) (key row : List ℕ) → AreInKeyOrder whole → map ++ left ≡ whole → left ≡ (key, row) ∷ rest → next ≡ insert_entry byte_order map key row → next ++ rest ≡ whole
moved_next whole map next left rest key row order parts is put =
    let ordered : AreInKeyOrder (map ++ (key, row) ∷ rest) = subst AreInKeyOrder (sym parts ∙ ap (λ (l : Made). map ++ l) is) order in
    let after : IsAfterAll key map =
    all_weaker (λ (k : List ℕ). IsBeforeAll k ((key, row) ∷ rest)) (λ (k : List ℕ). byte_order k key ≡ Less) (λ k h. h.0) (keys_of map) (order_apart map ((key, row) ∷ rest) ordered) in
    ap (λ (l : Made). l ++ rest) (put ∙ insert_end map key row after) ∙ append_assoc map ((key, row) ∷ []) rest ∙ ap (λ (l : Made). map ++ l) (sym is) ∙ parts

-- ---- the second list is taken out

pub first_order : (map tail rest : Made) → AreInKeyOrder (map ++ tail) → rest ≡ [] → AreInKeyOrder (map ++ rest)
first_order map tail rest order none =
    subst (λ (l : Made). AreInKeyOrder (map ++ l)) (sym none) (order_front (map ++ []) tail (subst AreInKeyOrder (sym (append_assoc map [] tail)) order))

-- ---- a search in one list

lt_of : (k l : List ℕ) → byte_order k l ≡ Less → is_lt (byte_order k l) ≡ true
lt_of k l e = ap is_lt e

key_at : (P : List ℕ → Type 0) (made : Made) (j : ℕ) (d : List ℕ × List ℕ) → j < length made → AllByRecursion P (keys_of made) → P (get_or made j d).0
key_at P [] j d less h = absurd (let l : j < 0 = less in omega arith)
key_at P (x ∷ xs) zero d less h = h.0
key_at P (x ∷ xs) (suc j) d less h = key_at P xs j d (omega arith) h.1

-- the rows at keys before one are the first ones
pub parted : (key : List ℕ) (made : Made) → AreInKeyOrder made → IsPartitionedBy (λ (e : List ℕ × List ℕ). is_lt (byte_order e.0 key)) made
unfolding IsStrictlySortedBy
parted key [] order i j d le less e = absurd (let l : j < 0 = less in omega arith)
parted key (x ∷ xs) order zero zero d le less e = e
parted key (x ∷ xs) order (suc i) zero d le less e = absurd (let l : suc i ≤ 0 = le in omega arith)
parted key (x ∷ xs) order zero (suc j) d le less e =
    lt_of x.0 key (bytes_total.trans x.0 (get_or xs j d).0 key (key_at (λ (k : List ℕ). byte_order x.0 k ≡ Less) xs j d (omega arith) order.0) (less_of (get_or xs j d).0 key e))
parted key (x ∷ xs) order (suc i) (suc j) d le less e = parted key xs order.1 i j d (omega arith) (omega arith) e

-- the rows from the place on are those at the key and after it
pub rest_is : (key : List ℕ) (made : Made) (n : ℕ) → n ≤ length made → IsCountBefore key made n → drop n made ≡ filter (is_from key) made
rest_is key made n le count =
    sym (
    ap (filter (is_from key)) (sym (take-append-drop n made)) ∙ filter-append (is_from key) (take n made) (drop n made)
    ∙ ap (λ (l : Made). l ++ filter (is_from key) (drop n made)) (filter_none (is_from key) (take n made) none) ∙ filter_all (is_from key) (drop n made) all
    )
  where
    none : AllByRecursion (λ (e : List ℕ × List ℕ). is_from key e ≡ false) (take n made)
    none =
        all_weaker (λ (e : List ℕ × List ℕ). is_lt (byte_order e.0 key) ≡ true) (λ (e : List ℕ × List ℕ). is_from key e ≡ false) (λ e f. from_is key e ∙ ap not f) (take n made)
        (all_front (λ (e : List ℕ × List ℕ). is_lt (byte_order e.0 key) ≡ true) made n le count.0)

    all : AllByRecursion (λ (e : List ℕ × List ℕ). is_from key e ≡ true) (drop n made)
    all =
        all_weaker (λ (e : List ℕ × List ℕ). is_lt (byte_order e.0 key) ≡ false) (λ (e : List ℕ × List ℕ). is_from key e ≡ true) (λ e f. from_is key e ∙ ap not f) (drop n made)
        (all_rest (λ (e : List ℕ × List ℕ). is_lt (byte_order e.0 key) ≡ false) made n count.1)

-- the same, as a slice gives it
pub slice_is : (key : List ℕ) (made : Made) (n : ℕ) → n ≤ length made → IsCountBefore key made n → take (length made - n) (drop n made) ≡ filter (is_from key) made
slice_is key made n le count = take_all (length made - n) (drop n made) (omega (arith, length-drop n made)) ∙ rest_is key made n le count

-- a row at the key is found
pub place_some : (key : List ℕ) (made : Made) (n : ℕ) (k row : List ℕ) → AreInKeyOrder made → slice_get made n ≡ Some (k, row) → is_same key k ≡ true → made_at made key ≡ Some row
place_some key made n k row order at same =
    ap (made_at made) (same_bytes key k same) ∙ lookup_from_place (eq_by_cmp_equiv bytes_total) made n k row (IsDistinct-from_sorted byte_order (keys_of made) order) at

-- there is none where the search ends at no row, or at another
pub place_none : (key : List ℕ) (made : Made) (n : ℕ) → AreInKeyOrder made → IsCountBefore key made n → ((e : List ℕ × List ℕ) → slice_get made n ≡ Some e → is_same key e.0 ≡ false) → made_at made key ≡ None
place_none key made n order count other = lookup_at_gap bytes_total key made n order before here
  where
    before : (j : ℕ) (e : List ℕ × List ℕ) → j < n → slice_get made j ≡ Some e → byte_order key e.0 ≡ Greater
    before j e less at =
        let first : is_lt (byte_order e.0 key) ≡ true = ap (λ (p : List ℕ × List ℕ). is_lt (byte_order p.0 key)) (sym (get_or_from_slice_get made j e e at)) ∙ count.0 j e (omega arith) less in
        bytes_total.antisymm key e.0 ∙ ap ordering_reverse (less_of e.0 key first)

    neither : (e : List ℕ × List ℕ) → is_lt (byte_order e.0 key) ≡ false → is_same key e.0 ≡ false → (o : Ordering) → byte_order key e.0 ≡ o → o ≡ Less
    neither e f g Less i = refl
    neither e f g Equal i = absurd (let j : true ≡ false = sym (ap is_eq i) ∙ g in cc)
    neither e f g Greater i = absurd (let j : true ≡ false = sym (ap is_lt (bytes_total.antisymm e.0 key ∙ ap ordering_reverse i)) ∙ f in cc)

    here : (e : List ℕ × List ℕ) → slice_get made n ≡ Some e → byte_order key e.0 ≡ Less
    here e at =
        let last : is_lt (byte_order e.0 key) ≡ false =
        ap (λ (p : List ℕ × List ℕ). is_lt (byte_order p.0 key)) (sym (get_or_from_slice_get made n e e at)) ∙ count.1 n e (omega arith) (slice_get_within made n e at) in
        neither e last (other e at) (byte_order key e.0) refl

-- the row where the search ends is at another key
pub other_key : (key : List ℕ) (made : Made) (n : ℕ) (x : List ℕ × List ℕ) → slice_get made n ≡ Some x → is_same key x.0 ≡ false → (e : List ℕ × List ℕ) → slice_get made n ≡ Some e → is_same key e.0 ≡ false
other_key key made n x at other e here =
    let same : e ≡ x = (let f : Some e ≡ Some x = sym here ∙ at in cc) in
    ap (λ (p : List ℕ × List ℕ). is_same key p.0) same ∙ other

-- ---- the keys below one, of two lists

pub added_both : (ps qs : Made) (front : List ℕ) (old middle new : List (List ℕ)) → AreInKeyOrder (ps ++ qs) → AddsMade ps front old middle → AddsMade qs front middle new → AddsMade (ps ++ qs) front old new
added_both ps qs front old middle new order g h = record {
  added = g.added ++ h.added;
  whole = h.whole ∙ ap (λ (l : List (List ℕ)). l ++ h.added) g.whole ∙ append_assoc old g.added h.added;
  are = record {
    sound = all_append (Is (ps ++ qs)) g.added h.added (all_weaker (Is ps) (Is (ps ++ qs)) (λ k e. (e.0, (e.1.0, in_first ps qs k e.1.0 e.1.1))) g.added g.are.sound)
        (all_weaker (Is qs) (Is (ps ++ qs)) (λ k e. (e.0, (e.1.0, in_second ps qs k e.1.0 (order_apart ps qs order) e.1.1))) h.added h.are.sound);
    complete = λ k row b e. list_any-append (is_same k) g.added h.added ∙ of_first k row b e (made_at ps k) refl;
  };
}
  where
    Is : Made → List ℕ → Type 0
    Is made k = (begins_with k front ≡ true) × ((row : List ℕ) × (made_at made k ≡ Some row))

    of_first : (k row : List ℕ) → begins_with k front ≡ true → made_at (ps ++ qs) k ≡ Some row → (o : Option (List ℕ)) → made_at ps k ≡ o → (list_any (is_same k) g.added || list_any (is_same k) h.added) ≡ true
    of_first k row b e (Some r) f = or_left (list_any (is_same k) g.added) (list_any (is_same k) h.added) (g.are.complete k r b f)
    of_first k row b e None f = or_right (list_any (is_same k) g.added) (list_any (is_same k) h.added) (h.are.complete k row b (sym (not_in_first ps qs k f) ∙ e))
