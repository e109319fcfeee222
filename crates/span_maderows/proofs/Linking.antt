-- Rows in classes by a hash of their keys: a search in a class, and one row more.
use Rattle.std.proofs.Common.{◌≡◌, inl, inr, ℕ, zero, suc, ◌+◌, ◌<◌, ◌≤◌, Bool, true, false, cond, List, [], ◌∷◌, ◌++◌, Option, Some, None, is_some, get_or, set, length, slice_get, slice_index, refl, sym, ap, subst, ◌∙◌, arith}
use Rattle.std.specs.List.{IsDistinct}
use Rattle.std.specs.Map.{keys_of}
use Rattle.std.proofs.lemmas.Bool.{cases_eq, cases_lt}
use Rattle.std.proofs.lemmas.Cmp.{eq_by_cmp_equiv}
use Rattle.std.proofs.lemmas.List.{map-append, map-set, set-get_or}
use Rattle.std.proofs.lemmas.Map.Entries.{lookup_from_place}
use Rattle.std.proofs.lemmas.Map.Keys.{IsDistinct-push}
use Rattle.std.proofs.lemmas.Map.Made.{is_some-lookup}
use Rattle.span_keycode.specs.Order.{is_same}
use Rattle.span_keycode.proofs.Order.{same_bytes}
use Rattle.span_maderows.specs.Linked.{class_of, key_at, AreHashed, AreLinked, IsLast}
use Rattle.span_maderows.specs.Made.{made_at, HaveDistinctKeys, IsSetAt}
use Rattle.span_maderows.proofs.Bytes.{bytes_total, turned}
use Rattle.span_maderows.proofs.Pushing.{Made}
use Rattle.span_maderows.proofs.MadeRows.{appended, first_alone, first_of}

-- ---- a search

-- the key is none of those from a place on; the one right before it is in the class
pub record IsSearching (keys : List (List ℕ)) (key : List ℕ) (count class left : ℕ) : Type 0 where
  pub within : left ≤ length keys
  pub own : (at : ℕ) → left ≡ at + 1 → class_of count (key_at keys at) ≡ class
  pub passed : (at : ℕ) → left ≤ at → at < length keys → is_same key (key_at keys at) ≡ false

-- a key in another class is another
apart : (count : ℕ) (key other : List ℕ) → (class_of count other ≡ class_of count key → ⊥) → is_same key other ≡ false
apart count key other e = cases (is_same key other) refl
  where
    cases : (b : Bool) → is_same key other ≡ b → is_same key other ≡ false
    cases true same = absurd (e (sym (ap (class_of count) (same_bytes key other same))))
    cases false differs = differs

pub search_first : (keys : List (List ℕ)) (lasts befores : List ℕ) (key : List ℕ) (class : ℕ) → AreLinked keys lasts befores → class ≡ class_of (length lasts) key → class < length lasts
    → IsSearching keys key (length lasts) class (slice_index lasts class)
search_first keys lasts befores key class are own within =
    let is = are.last class within in
    record {
      within = is.within;
      own = is.own;
      passed = λ at from less. apart (length lasts) key (key_at keys at) (λ e. is.others at from less (e ∙ sym own));
    }

pub search_next : (keys : List (List ℕ)) (lasts befores : List ℕ) (key : List ℕ) (class left at : ℕ) → AreLinked keys lasts befores → class ≡ class_of (length lasts) key → IsSearching keys key (length lasts) class left → left ≡ at + 1
    → is_same key (key_at keys at) ≡ false → IsSearching keys key (length lasts) class (slice_index befores at)
search_next keys lasts befores key class left at are own so_far is other = record {
  within = let w = before.within in omega arith;
  own = before.own;
  passed = λ n from less. elim (cases_lt n at) [
    | inl early ↦ apart (length lasts) key (key_at keys n) (λ e. before.others n from early (e ∙ sym own))
    | inr past ↦ elim (cases_eq n at) [
      | inl here ↦ ap (λ (m : ℕ). is_same key (key_at keys m)) here ∙ other
      | inr later ↦ so_far.passed n (omega arith) less
    ]
  ];
}
  where
    within : at < length keys
    within = let w = so_far.within in omega arith

    before : IsLast (length lasts) keys at class (slice_index befores at)
    before = subst (λ (n : ℕ). IsLast (length lasts) keys at n (slice_index befores at)) (so_far.own at is) (are.before at within)

none_at : (rows : Made) (key : List ℕ) → ((at : ℕ) → at < length (keys_of rows) → is_same key (key_at (keys_of rows) at) ≡ false) → made_at rows key ≡ None
none_at [] key others = refl
none_at (e ∷ rows) key others = ap (λ (b : Bool). cond b (Some e.1) (made_at rows key)) (others 0 (omega arith)) ∙ none_at rows key (λ at less. others (suc at) (omega arith))

pub search_none : (rows : Made) (key : List ℕ) (count class left : ℕ) → IsSearching (keys_of rows) key count class left → left ≤ 0 → made_at rows key ≡ None
search_none rows key count class left so_far end = none_at rows key (λ at less. so_far.passed at (omega arith) less)

-- ---- the row that was found

pub found_key : (rows : Made) (at : ℕ) (e : List ℕ × List ℕ) → at < length rows → e ≡ get_or rows at e → key_at (keys_of rows) at ≡ e.0
found_key [] at e less is = absurd (omega arith)
found_key (x ∷ rows) zero e less is = ap (λ (p : List ℕ × List ℕ). p.0) (sym is)
found_key (x ∷ rows) (suc at) e less is = found_key rows at e (omega arith) is

get_of : (rows : Made) (at : ℕ) (e : List ℕ × List ℕ) → at < length rows → e ≡ get_or rows at e → slice_get rows at ≡ Some e
get_of [] at e less is = absurd (omega arith)
get_of (x ∷ rows) zero e less is = ap Some (sym is)
get_of (x ∷ rows) (suc at) e less is = get_of rows at e (omega arith) is

pub found_row : (rows : Made) (key : List ℕ) (at : ℕ) (e : List ℕ × List ℕ) → HaveDistinctKeys rows → at < length rows → e ≡ get_or rows at e → is_same key (key_at (keys_of rows) at) ≡ true → made_at rows key ≡ Some e.1
found_row rows key at e distinct less is same =
    ap (made_at rows) (same_bytes key (key_at (keys_of rows) at) same ∙ found_key rows at e less is)
    ∙ lookup_from_place (eq_by_cmp_equiv bytes_total) rows at e.0 e.1 distinct (get_of rows at e less is)

-- ---- a row in the place of another

pub keys_stay : (rows : Made) (at : ℕ) (e : List ℕ × List ℕ) (row : List ℕ) → at < length rows → e ≡ get_or rows at e → keys_of (set rows at (e.0, row)) ≡ keys_of rows
keys_stay rows at e row less is =
    map-set (λ (p : List ℕ × List ℕ). p.0) rows at (e.0, row) ∙ ap (set (keys_of rows) at) (sym (found_key rows at e less is)) ∙ set-get_or (keys_of rows) at []

other_at : (rows : Made) (at : ℕ) (e : List ℕ × List ℕ) (row k : List ℕ) → e ≡ get_or rows at e → is_same k e.0 ≡ false → made_at (set rows at (e.0, row)) k ≡ made_at rows k
other_at [] at e row k is other = refl
other_at (x ∷ rows) zero e row k is other =
    ap (λ (b : Bool). cond b (Some row) (made_at rows k)) other
    ∙ sym (ap (λ (b : Bool). cond b (Some x.1) (made_at rows k)) (ap (λ (p : List ℕ × List ℕ). is_same k p.0) (sym is) ∙ other))
other_at (x ∷ rows) (suc at) e row k is other = ap (λ (o : Option (List ℕ)). cond (is_same k x.0) (Some x.1) o) (other_at rows at e row k is other)

set_place : (rows : Made) (at : ℕ) (e : List ℕ × List ℕ) → at < length rows → slice_get (set rows at e) at ≡ Some e
set_place [] at e less = absurd (omega arith)
set_place (x ∷ rows) zero e less = refl
set_place (x ∷ rows) (suc at) e less = set_place rows at e (omega arith)

pub replaced : (rows : Made) (key : List ℕ) (at : ℕ) (e : List ℕ × List ℕ) (row : List ℕ) → HaveDistinctKeys rows → at < length rows → e ≡ get_or rows at e → is_same key (key_at (keys_of rows) at) ≡ true
    → IsSetAt key (Some row) rows (set rows at (e.0, row))
replaced rows key at e row distinct less is same k = cases (is_same key k) refl
  where
    own : key ≡ e.0
    own = same_bytes key (key_at (keys_of rows) at) same ∙ found_key rows at e less is

    cases : (b : Bool) → is_same key k ≡ b → made_at (set rows at (e.0, row)) k ≡ cond b (Some row) (made_at rows k)
    cases true f =
        ap (made_at (set rows at (e.0, row))) (sym (same_bytes key k f) ∙ own)
        ∙ lookup_from_place (eq_by_cmp_equiv bytes_total) (set rows at (e.0, row)) at e.0 row (subst (IsDistinct is_same) (sym (keys_stay rows at e row less is)) distinct) (set_place rows at (e.0, row) less)
    cases false f = other_at rows at e row k is (ap (is_same k) (sym own) ∙ turned k key ∙ f)

pub replaced_hashed : (rows : Made) (lasts befores : List ℕ) (at : ℕ) (e : List ℕ × List ℕ) (row : List ℕ) → at < length rows → e ≡ get_or rows at e → AreHashed rows lasts befores → AreHashed (set rows at (e.0, row)) lasts befores
replaced_hashed rows lasts befores at e row less is are = record {
  distinct = subst (IsDistinct is_same) (sym (keys_stay rows at e row less is)) are.distinct;
  linked = subst (λ (l : List (List ℕ)). AreLinked l lasts befores) (sym (keys_stay rows at e row less is)) are.linked;
}

-- ---- one row more

pub more_set : (rows : Made) (key row : List ℕ) → made_at rows key ≡ None → IsSetAt key (Some row) rows (rows ++ (key, row) ∷ [])
more_set rows key row none k = appended rows ((key, row) ∷ []) k ∙ cases (is_same key k) refl
  where
    cases : (b : Bool) → is_same key k ≡ b → first_of (made_at rows k) (cond (is_same k key) (Some row) None) ≡ cond b (Some row) (made_at rows k)
    cases true e =
        ap (λ (o : Option (List ℕ)). first_of o (cond (is_same k key) (Some row) None)) (ap (made_at rows) (sym (same_bytes key k e)) ∙ none)
        ∙ ap (λ (b : Bool). cond b (Some row) None) (turned k key ∙ e)
    cases false e = ap (λ (b : Bool). first_of (made_at rows k) (cond b (Some row) None)) (turned k key ∙ e) ∙ first_alone (made_at rows k)

more_distinct : (rows : Made) (key row : List ℕ) → HaveDistinctKeys rows → made_at rows key ≡ None → HaveDistinctKeys (rows ++ (key, row) ∷ [])
more_distinct rows key row distinct none =
    subst (IsDistinct is_same) (sym (map-append (λ (e : List ℕ × List ℕ). e.0) rows ((key, row) ∷ [])))
    (IsDistinct-push (eq_by_cmp_equiv bytes_total) (keys_of rows) key distinct (sym (is_some-lookup (is_same key) rows) ∙ ap (λ (o : Option (List ℕ)). is_some o) none))

pub more_hashed : (rows next : Made) (lasts befores lasts_then befores_then : List ℕ) (key row : List ℕ) (class : ℕ) → AreHashed rows lasts befores → made_at rows key ≡ None → next ≡ rows ++ (key, row) ∷ [] → class ≡ class_of (length lasts) key
    → ((keys : List (List ℕ)) (k : List ℕ) → AreLinked keys lasts befores → class ≡ class_of (length lasts) k → AreLinked (keys ++ k ∷ []) lasts_then befores_then) → AreHashed next lasts_then befores_then
more_hashed rows next lasts befores lasts_then befores_then key row class are none is own push = subst (λ (l : Made). AreHashed l lasts_then befores_then) (sym is) (record {
  distinct = more_distinct rows key row are.distinct none;
  linked = subst (λ (l : List (List ℕ)). AreLinked l lasts_then befores_then) (sym (map-append (λ (e : List ℕ × List ℕ). e.0) rows ((key, row) ∷ []))) (push (keys_of rows) key are.linked own);
})
