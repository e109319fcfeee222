-- Keys at which rows were made, from one on, as they are added one after another.
use Rattle.std.proofs.Common.{◌≡◌, ◌⊎◌, inl, inr, ℕ, Bool, true, false, not, ◌&&◌, cond, List, [], ◌∷◌, ◌++◌, Some, None, drop, length, refl, sym, ap, subst, ◌∙◌, append_assoc}
use Rattle.std.specs.List.{filter, list_any, AllByRecursion}
use Rattle.std.specs.List.Sorted.{IsStrictlySortedBy}
use Rattle.std.specs.Ordering.{is_lt, is_le, ordering_reverse}
use Rattle.std.specs.declared.cmp.Ordering.{Ordering}
use Rattle.std.specs.declared.cmp.Ordering.TheVariants.{Less, Equal, Greater}
use Rattle.std.specs.BTreeMap.{is_at}
use Rattle.std.specs.Map.{keys_of}
use Rattle.std.specs.Cmp.{tied_itself}
use Rattle.std.proofs.lemmas.Bool.{not-true, or_left, or_right}
use Rattle.std.proofs.lemmas.List.{append-nil}
use Rattle.std.proofs.lemmas.List.Folds.{list_any-append}
use Rattle.std.proofs.lemmas.List.Kept.{IsStrictlySortedBy-filter}
use Rattle.std.proofs.lemmas.Map.Entries.{lookup-filter-keys}
use Rattle.std.proofs.lemmas.Map.Keys.{sorted_head, sorted_tail}
use Rattle.span_value.proofs.Lists.{all_append, all_weaker, filter-map}
use Rattle.span_keycode.specs.Order.{byte_order, is_same}
use Rattle.span_keycode.proofs.Order.{same_bytes, bytes_same}
use Rattle.span_maderows.specs.Made.{begins_with, made_at, AddsMade}
use Rattle.span_maderows.proofs.Bytes.{bytes_total, begins_front, before_begins_not, between}
use Rattle.span_maderows.proofs.Lists.{all_filter_itself}

abbrev pub Made : Type 0
Made = List (List ℕ × List ℕ)

-- the keys so far; each other one is left
pub record IsPushing (es : Made) (front : List ℕ) (old : List (List ℕ)) (rest : Made) (new : List (List ℕ)) : Type 0 where
  pub added : List (List ℕ)
  pub whole : new ≡ old ++ added
  pub sound : AllByRecursion (λ (k : List ℕ). (begins_with k front ≡ true) × ((row : List ℕ) × (made_at es k ≡ Some row))) added
  pub left : (k row : List ℕ) → begins_with k front ≡ true → made_at es k ≡ Some row → (list_any (is_same k) added ≡ true) ⊎ (made_at rest k ≡ Some row)
  pub own : (k : List ℕ) (o : List ℕ) → made_at rest k ≡ Some o → made_at es k ≡ Some o
  pub sorted : IsStrictlySortedBy byte_order (keys_of rest)
  pub from : AllByRecursion (λ (e : List ℕ × List ℕ). is_lt (byte_order e.0 front) ≡ false) rest

-- from a key on
abbrev pub is_from_key : List ℕ → List ℕ → Bool
is_from_key front k = is_le (byte_order front k) && true

abbrev pub is_from : List ℕ → List ℕ × List ℕ → Bool
is_from front e = is_from_key front e.0

le_not_lt : (o : Ordering) → (is_le o && true) ≡ not (is_lt (ordering_reverse o))
le_not_lt Less = refl
le_not_lt Equal = refl
le_not_lt Greater = refl

pub from_is : (front : List ℕ) (e : List ℕ × List ℕ) → is_from front e ≡ not (is_lt (byte_order e.0 front))
from_is front e = le_not_lt (byte_order front e.0) ∙ ap (λ (o : Ordering). not (is_lt o)) (sym (bytes_total.antisymm e.0 front))

-- a key that begins with the front is from it on
begun_from : (front k : List ℕ) → begins_with k front ≡ true → is_from_key front k ≡ true
begun_from front k b = from_is front (k, []) ∙ ap not (cases (is_lt (byte_order k front)) refl)
  where
    cases : (c : Bool) → is_lt (byte_order k front) ≡ c → c ≡ false
    cases false g = refl
    cases true g = absurd (let h : true ≡ false = sym b ∙ before_begins_not k front g in cc)

-- what is at a key among the rows from another on
from_at : (front k : List ℕ) (es : Made) → made_at (filter (is_from front) es) k ≡ cond (is_from_key front k) (made_at es k) None
from_at front k es = lookup-filter-keys (is_at (byte_order k)) (is_from_key front) (is_from_key front k) (λ l f. ap (is_from_key front) (sym (same_bytes k l f))) es

from_own : (front k o : List ℕ) (es : Made) → made_at (filter (is_from front) es) k ≡ Some o → made_at es k ≡ Some o
from_own front k o es e = cases (is_from_key front k) (sym (from_at front k es) ∙ e)
  where
    cases : (b : Bool) → cond b (made_at es k) None ≡ Some o → made_at es k ≡ Some o
    cases true f = f
    cases false f = absurd (let g : None ≡ Some o = f in cc)

keys_filter : (q : List ℕ → Bool) (es : Made) → keys_of (filter (λ e. q e.0) es) ≡ filter q (keys_of es)
keys_filter q es = sym (filter-map q (λ (e : List ℕ × List ℕ). e.0) es)

pub pushing_first : (es : Made) (front : List ℕ) (old : List (List ℕ)) (rest : Made) → IsStrictlySortedBy byte_order (keys_of es) → rest ≡ filter (is_from front) es → IsPushing es front old rest old
pushing_first es front old rest sorted is = subst (λ (l : Made). IsPushing es front old l old) (sym is) (record {
  added = [];
  whole = sym (append-nil old);
  sound = tt;
  left = λ k row b e. inr (from_at front k es ∙ ap (λ (c : Bool). cond c (made_at es k) None) (begun_from front k b) ∙ e);
  own = λ k o e. from_own front k o es e;
  sorted = subst (IsStrictlySortedBy byte_order) (sym (keys_filter (is_from_key front) es)) (IsStrictlySortedBy-filter byte_order (is_from_key front) (keys_of es) sorted);
  from = all_weaker (λ (e : List ℕ × List ℕ). is_from front e ≡ true) (λ (e : List ℕ × List ℕ). is_lt (byte_order e.0 front) ≡ false) (λ e f. not-true (is_lt (byte_order e.0 front)) (sym (from_is front e) ∙ f)) (filter (is_from front) es) (all_filter_itself (is_from front) es);
})

here_at : (key : List ℕ) (o : List ℕ) (rest : Made) → made_at ((key, o) ∷ rest) key ≡ Some o
here_at key o rest = ap (λ (b : Bool). cond b (Some o) (made_at rest key)) (bytes_same key key refl)

-- what is left has other keys than the first
tail_own : (key : List ℕ) (o : List ℕ) (rest : Made) → IsStrictlySortedBy byte_order (key ∷ keys_of rest) → (k : List ℕ) (p : List ℕ) → made_at rest k ≡ Some p → made_at ((key, o) ∷ rest) k ≡ Some p
tail_own key o rest sorted k p e = cases (is_same k key) refl
  where
    absent : (ys : Made) → AllByRecursion (λ (y : List ℕ). byte_order key y ≡ Less) (keys_of ys) → k ≡ key → made_at ys k ≡ None
    absent [] h same = refl
    absent (y ∷ ys) h same = one (is_same k y.0) refl (absent ys h.1 same)
      where
        one : (b : Bool) → is_same k y.0 ≡ b → made_at ys k ≡ None → made_at (y ∷ ys) k ≡ None
        one true f again = absurd (let i : Less ≡ Equal = sym h.0 ∙ ap (byte_order key) (sym (same_bytes k y.0 f) ∙ same) ∙ tied_itself bytes_total key in cc)
        one false f again = ap (λ (b : Bool). cond b (Some y.1) (made_at ys k)) f ∙ again

    cases : (b : Bool) → is_same k key ≡ b → made_at ((key, o) ∷ rest) k ≡ Some p
    cases true f = absurd (let i : None ≡ Some p = sym (absent rest (sorted_head byte_order key (keys_of rest) sorted) (same_bytes k key f)) ∙ e in cc)
    cases false f = ap (λ (b : Bool). cond b (Some o) (made_at rest k)) f ∙ e

-- the next key is added
pub pushing_next : (es : Made) (front : List ℕ) (old new next : List (List ℕ)) (key row : List ℕ) (before rest : Made) → before ≡ (key, row) ∷ rest → next ≡ new ++ key ∷ [] → begins_with key front ≡ true → IsPushing es front old before new → IsPushing es front old rest next
pushing_next es front old new next key row before rest is more begun h = moved (subst (λ (l : Made). IsPushing es front old l new) is h)
  where
    moved : IsPushing es front old ((key, row) ∷ rest) new → IsPushing es front old rest next
    moved g = record {
      added = g.added ++ key ∷ [];
      whole = more ∙ ap (λ (l : List (List ℕ)). l ++ key ∷ []) g.whole ∙ append_assoc old g.added (key ∷ []);
      sound = all_append _ g.added (key ∷ []) g.sound ((begun, (row, g.own key row (here_at key row rest))), tt);
      left = λ k r b e. elim (g.left k r b e) [
        | inl f ↦ inl (list_any-append (is_same k) g.added (key ∷ []) ∙ or_left (list_any (is_same k) g.added) (list_any (is_same k) (key ∷ [])) f)
        | inr f ↦ by_key k r f (is_same k key) refl
      ];
      own = λ k o e. g.own k o (tail_own key row rest g.sorted k o e);
      sorted = sorted_tail byte_order key (keys_of rest) g.sorted;
      from = g.from.1;
    }
      where
        by_key : (k r : List ℕ) → made_at ((key, row) ∷ rest) k ≡ Some r → (b : Bool) → is_same k key ≡ b → (list_any (is_same k) (g.added ++ key ∷ []) ≡ true) ⊎ (made_at rest k ≡ Some r)
        by_key k r f true e = inl (list_any-append (is_same k) g.added (key ∷ []) ∙ or_right (list_any (is_same k) g.added) (list_any (is_same k) (key ∷ [])) (or_left (is_same k key) false e))
        by_key k r f false e = inr (sym (ap (λ (b : Bool). cond b (Some row) (made_at rest k)) e) ∙ f)

-- where the next key doesn't begin with the front, no later one does
pub pushed_until : (es : Made) (front : List ℕ) (old new : List (List ℕ)) (key : List ℕ) (o : List ℕ) (before rest : Made) → before ≡ (key, o) ∷ rest → begins_with key front ≡ false → IsPushing es front old before new → AddsMade es front old new
pushed_until es front old new key o before rest is past h = done (subst (λ (l : Made). IsPushing es front old l new) is h)
  where
    done : IsPushing es front old ((key, o) ∷ rest) new → AddsMade es front old new
    done g = record {
      added = g.added;
      whole = g.whole;
      are = record {
        sound = g.sound;
        complete = λ k row b e. elim (g.left k row b e) [
          | inl f ↦ f
          | inr f ↦ absurd (never k row b f (is_same k key) refl)
        ];
      };
    }
      where
        -- a key that is found is after the first
        later : (ys : Made) → AllByRecursion (λ (y : List ℕ). byte_order key y ≡ Less) (keys_of ys) → (k row : List ℕ) → made_at ys k ≡ Some row → byte_order key k ≡ Less
        later [] a k row e = absurd (let i : None ≡ Some row = e in cc)
        later (y ∷ ys) a k row e = one (is_same k y.0) refl (later ys a.1 k row)
          where
            one : (b : Bool) → is_same k y.0 ≡ b → (made_at ys k ≡ Some row → byte_order key k ≡ Less) → byte_order key k ≡ Less
            one true f again = ap (byte_order key) (same_bytes k y.0 f) ∙ a.0
            one false f again = again (sym (ap (λ (b : Bool). cond b (Some y.1) (made_at ys k)) f) ∙ e)

        never : (k row : List ℕ) → begins_with k front ≡ true → made_at ((key, o) ∷ rest) k ≡ Some row → (b : Bool) → is_same k key ≡ b → ⊥
        never k row b e true f = let i : true ≡ false = sym b ∙ ap (λ (l : List ℕ). begins_with l front) (same_bytes k key f) ∙ past in cc
        never k row b e false f =
            let less = later rest (sorted_head byte_order key (keys_of rest) g.sorted) k row (sym (ap (λ (c : Bool). cond c (Some o) (made_at rest k)) f) ∙ e) in
            let within = between front key (drop (length front) k) g.from.0 (λ i. let j : Less ≡ Greater = sym less ∙ ap (byte_order key) (sym (begins_front k front b)) ∙ i in cc) in
            let i : true ≡ false = sym within ∙ past in cc
