-- Rows by hash, as a list in the order of their keys: what is at a key, and the same rows in another order.
use Rattle.std.proofs.Common.{◌≡◌, ℕ, Bool, true, false, cond, List, [], ◌∷◌, ◌++◌, Option, Some, None, is_none, is_some, not, IfSome, IfNone, IsPermutation, refl, sym, ap, subst, ◌∙◌, append_assoc}
use Rattle.std.specs.List.{IsDistinct}
use Rattle.std.specs.List.Sorted.{IsStrictlySortedBy}
use Rattle.std.specs.Ordering.{is_eq, match_ordering}
use Rattle.std.specs.declared.cmp.Ordering.{Ordering}
use Rattle.std.specs.declared.cmp.Ordering.TheVariants.{Less, Equal, Greater}
use Rattle.std.specs.BTreeMap.{insert_entry}
use Rattle.std.specs.Map.{keys_of}
use Rattle.std.proofs.lemmas.Cmp.{eq_by_cmp_equiv}
use Rattle.std.proofs.lemmas.List.Sorted.{Contains-permutation, IsPermutation-sym, IsPermutation-map}
use Rattle.std.proofs.lemmas.Map.Keys.{IsDistinct-IsPermutation}
use Rattle.std.proofs.lemmas.Map.Views.{Contains-from_lookup, lookup-from_Contains}
use Rattle.span_keycode.specs.Order.{byte_order, is_same}
use Rattle.span_keycode.proofs.Order.{same_bytes, bytes_same}
use Rattle.span_maderows.specs.Made.{made_at, AreInKeyOrder, HaveDistinctKeys, HasSameRows, IsBeforeAll, IsSetAt, in_key_order}
use Rattle.span_maderows.proofs.Bytes.{bytes_total, turned}
use Rattle.span_maderows.proofs.Pushing.{Made}
use Rattle.span_maderows.proofs.MadeRows.{back_all, front_all, both_all, not_in_first, not_in_second}

-- ---- a row is put into a list in the order of the keys

twice : (b : Bool) (new old : List ℕ) (o : Option (List ℕ)) → cond b (Some new) (cond b (Some old) o) ≡ cond b (Some new) o
twice true new old o = refl
twice false new old o = refl

-- what is at a key then
pub put_at : (made : Made) (key row k : List ℕ) → made_at (insert_entry byte_order made key row) k ≡ cond (is_same k key) (Some row) (made_at made k)
put_at [] key row k = refl
put_at (e ∷ es) key row k = by (byte_order key e.0) refl (put_at es key row k)
  where
    both : byte_order key e.0 ≡ Greater → (b c : Bool) → is_same k key ≡ b → is_same k e.0 ≡ c
        → cond c (Some e.1) (cond b (Some row) (made_at es k)) ≡ cond b (Some row) (cond c (Some e.1) (made_at es k))
    both f true true g h =
        absurd (let i : true ≡ false = sym (bytes_same key e.0 (sym (same_bytes k key g) ∙ same_bytes k e.0 h)) ∙ ap is_eq f in cc)
    both f true false g h = refl
    both f false true g h = refl
    both f false false g h = refl

    by : (o : Ordering) → byte_order key e.0 ≡ o → made_at (insert_entry byte_order es key row) k ≡ cond (is_same k key) (Some row) (made_at es k)
        → made_at (match_ordering o ((key, row) ∷ e ∷ es) ((e.0, row) ∷ es) (e ∷ insert_entry byte_order es key row)) k ≡ cond (is_same k key) (Some row) (cond (is_same k e.0) (Some e.1) (made_at es k))
    by Less f again = refl
    by Equal f again =
        sym (ap (λ (l : List ℕ). cond (is_same k l) (Some row) (cond (is_same k e.0) (Some e.1) (made_at es k))) (same_bytes key e.0 (ap is_eq f))
        ∙ twice (is_same k e.0) row e.1 (made_at es k))
    by Greater f again = ap (λ (o : Option (List ℕ)). cond (is_same k e.0) (Some e.1) o) again ∙ both f (is_same k key) (is_same k e.0) refl refl

-- before all others it is the first
put_first : (made : Made) (key row : List ℕ) → IsBeforeAll key made → insert_entry byte_order made key row ≡ (key, row) ∷ made
put_first [] key row before = refl
put_first (e ∷ es) key row before = ap (λ (o : Ordering). match_ordering o ((key, row) ∷ e ∷ es) ((e.0, row) ∷ es) (e ∷ insert_entry byte_order es key row)) before.0

-- ---- all rows of a list

pub order_at : (made : Made) (k : List ℕ) → made_at (in_key_order made) k ≡ made_at made k
order_at [] k = refl
order_at (e ∷ made) k = put_at (in_key_order made) e.0 e.1 k ∙ ap (λ (o : Option (List ℕ)). cond (is_same k e.0) (Some e.1) o) (order_at made k)

-- a list that is in order stays as it is
pub order_same : (made : Made) → AreInKeyOrder made → in_key_order made ≡ made
unfolding IsStrictlySortedBy
order_same [] order = refl
order_same (e ∷ made) order = ap (λ (l : Made). insert_entry byte_order l e.0 e.1) (order_same made order.1) ∙ put_first made e.0 e.1 order.0

-- rows are put into a list in order, from the last to the first
abbrev pub put_all : Made → Made → Made
put_all [] made = made
put_all (e ∷ rows) made = insert_entry byte_order (put_all rows made) e.0 e.1

pub put_from_none : (rows : Made) → put_all rows [] ≡ in_key_order rows
put_from_none [] = refl
put_from_none (e ∷ rows) = ap (λ (l : Made). insert_entry byte_order l e.0 e.1) (put_from_none rows)

put_last : (rows made : Made) (key row : List ℕ) → put_all (rows ++ (key, row) ∷ []) made ≡ put_all rows (insert_entry byte_order made key row)
put_last [] made key row = refl
put_last (e ∷ rows) made key row = ap (λ (l : Made). insert_entry byte_order l e.0 e.1) (put_last rows made key row)

-- one more of them
pub put_next : (whole left rest made next : Made) (key row : List ℕ) → put_all left made ≡ in_key_order whole → left ≡ rest ++ (key, row) ∷ [] → next ≡ insert_entry byte_order made key row
    → put_all rest next ≡ in_key_order whole
put_next whole left rest made next key row so_far is put =
    ap (put_all rest) put ∙ sym (put_last rest made key row) ∙ ap (λ (l : Made). put_all l made) (sym is) ∙ so_far

-- ---- one row by hash

-- a row, or none, is set at a key
pub hashed_set : (old new : Made) (key : List ℕ) (o : Option (List ℕ)) → ((k : List ℕ) → made_at new k ≡ cond (is_same key k) o (made_at old k)) → IsSetAt key o (in_key_order old) (in_key_order new)
hashed_set old new key o set k = order_at new k ∙ set k ∙ ap (λ (p : Option (List ℕ)). cond (is_same key k) o p) (sym (order_at old k))

-- whether there was none
pub hashed_absent : (old : Made) (key : List ℕ) (o : Option (List ℕ)) (b : Bool) → o ≡ made_at old key → is_some o ≡ not b → b ≡ is_none (made_at (in_key_order old) key)
hashed_absent old key o b is none = cases o b none ∙ ap (λ (p : Option (List ℕ)). is_none p) (is ∙ sym (order_at old key))
  where
    cases : (p : Option (List ℕ)) (c : Bool) → is_some p ≡ not c → c ≡ is_none p
    cases None true e = refl
    cases None false e = absurd (let f : false ≡ true = e in cc)
    cases (Some row) true e = absurd (let f : true ≡ false = e in cc)
    cases (Some row) false e = refl

-- ---- the same rows in another order

pub permuted_distinct : (old new : Made) → IsPermutation old new → HaveDistinctKeys old → HaveDistinctKeys new
permuted_distinct old new permutation distinct =
    IsDistinct-IsPermutation is_same turned (keys_of old) (keys_of new) (IsPermutation-map (λ (e : List ℕ × List ℕ). e.0) old new permutation) distinct

found_too : (old new : Made) (k row : List ℕ) → IsPermutation old new → HaveDistinctKeys new → made_at old k ≡ Some row → made_at new k ≡ Some row
found_too old new k row permutation distinct found =
    lookup-from_Contains (eq_by_cmp_equiv bytes_total) k row new distinct (Contains-permutation old new (k, row) permutation (Contains-from_lookup same_bytes k row old found))

pub permuted_same : (old new : Made) → IsPermutation old new → HaveDistinctKeys old → HasSameRows old new
permuted_same old new permutation distinct k = by (made_at old k) (made_at new k) refl refl
  where
    by : (o p : Option (List ℕ)) → made_at old k ≡ o → made_at new k ≡ p → made_at new k ≡ made_at old k
    by (Some row) p e f = found_too old new k row permutation (permuted_distinct old new permutation distinct) e ∙ sym e
    by None (Some row) e f = absurd (let g : None ≡ Some row = sym e ∙ found_too new old k row (IsPermutation-sym old new permutation) distinct f in cc)
    by None None e f = f ∙ sym e

-- the rows that are left are those that were by hash
pub left_same : (rows list left : Made) → list ≡ rows → HaveDistinctKeys rows → IsPermutation list left → HasSameRows (in_key_order rows) left
left_same rows list left is distinct permutation k =
    permuted_same rows left (subst (λ (l : Made). IsPermutation l left) is permutation) distinct k ∙ sym (order_at rows k)

-- ---- the last row is taken out

-- the others have keys that differ
pub front_distinct : (made last : Made) → HaveDistinctKeys (made ++ last) → HaveDistinctKeys made
unfolding IsDistinct
front_distinct [] last distinct = tt
front_distinct (e ∷ made) last distinct = (front_all (λ (k : List ℕ). is_same e.0 k ≡ false) made last distinct.0, front_distinct made last distinct.1)

-- none of them is at its key
last_none : (made : Made) (key row : List ℕ) → HaveDistinctKeys (made ++ (key, row) ∷ []) → made_at made key ≡ None
unfolding IsDistinct
last_none [] key row distinct = refl
last_none (e ∷ made) key row distinct =
    ap (λ (b : Bool). cond b (Some e.1) (made_at made key)) (turned key e.0 ∙ (back_all (λ (k : List ℕ). is_same e.0 k ≡ false) made ((key, row) ∷ []) distinct.0).0)
    ∙ last_none made key row distinct.1

pub less_distinct : (map tail rest last : Made) → HaveDistinctKeys (map ++ tail) → tail ≡ rest ++ last → HaveDistinctKeys (map ++ rest)
less_distinct map tail rest last distinct is = front_distinct (map ++ rest) last (subst HaveDistinctKeys (ap (λ (l : Made). map ++ l) is ∙ sym (append_assoc map rest last)) distinct)

back_distinct : (made last : Made) → HaveDistinctKeys (made ++ last) → HaveDistinctKeys last
unfolding IsDistinct
back_distinct [] last distinct = distinct
back_distinct (e ∷ made) last distinct = back_distinct made last distinct.1

middle_distinct : (rest middle list : Made) → HaveDistinctKeys ((rest ++ middle) ++ list) → HaveDistinctKeys (rest ++ list)
unfolding IsDistinct
middle_distinct [] middle list distinct = back_distinct middle list distinct
middle_distinct (e ∷ rest) middle list distinct = (
  both_all (λ (k : List ℕ). is_same e.0 k ≡ false) rest list
      (front_all (λ (k : List ℕ). is_same e.0 k ≡ false) rest middle (front_all (λ (k : List ℕ). is_same e.0 k ≡ false) (rest ++ middle) list distinct.0))
      (back_all (λ (k : List ℕ). is_same e.0 k ≡ false) (rest ++ middle) list distinct.0),
  middle_distinct rest middle list distinct.1,
)

-- so too where it was the last of a map that is before a list
pub less_map : (map rest list : Made) (last : Option (List ℕ × List ℕ)) → HaveDistinctKeys (map ++ list) → IfSome last (λ e. map ≡ rest ++ e ∷ []) → IfNone last (rest ≡ map) → HaveDistinctKeys (rest ++ list)
less_map map rest list (Some e) distinct some none = middle_distinct rest (e ∷ []) list (subst (λ (l : Made). HaveDistinctKeys (l ++ list)) some distinct)
less_map map rest list None distinct some none = subst (λ (l : Made). HaveDistinctKeys (l ++ list)) (sym none) distinct

-- it was at its key
last_at : (rest : Made) (key row : List ℕ) → HaveDistinctKeys (rest ++ (key, row) ∷ []) → made_at (rest ++ (key, row) ∷ []) key ≡ Some row
last_at rest key row distinct = not_in_first rest ((key, row) ∷ []) key (last_none rest key row distinct) ∙ ap (λ (b : Bool). cond b (Some row) None) (bytes_same key key refl)

-- what is at the other keys stays
last_out : (rest : Made) (key row : List ℕ) → HaveDistinctKeys (rest ++ (key, row) ∷ []) → IsSetAt key None (rest ++ (key, row) ∷ []) rest
last_out rest key row distinct k = cases (is_same key k) refl
  where
    cases : (b : Bool) → is_same key k ≡ b → made_at rest k ≡ cond b None (made_at (rest ++ (key, row) ∷ []) k)
    cases true e = ap (made_at rest) (sym (same_bytes key k e)) ∙ last_none rest key row distinct
    cases false e = sym (not_in_second rest ((key, row) ∷ []) k (ap (λ (b : Bool). cond b (Some row) None) (turned k key ∙ e)))

-- the same where what is left is named
pub popped_at : (left rest : Made) (key row : List ℕ) → HaveDistinctKeys left → left ≡ rest ++ (key, row) ∷ [] → made_at left key ≡ Some row
popped_at left rest key row distinct is = ap (λ (l : Made). made_at l key) is ∙ last_at rest key row (subst HaveDistinctKeys is distinct)

pub popped_out : (left rest : Made) (key row : List ℕ) → HaveDistinctKeys left → left ≡ rest ++ (key, row) ∷ [] → IsSetAt key None left rest
popped_out left rest key row distinct is = subst (λ (l : Made). IsSetAt key None l rest) (sym is) (last_out rest key row (subst HaveDistinctKeys is distinct))
