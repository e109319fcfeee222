-- The keys of groups: the place of a key among them, and one more key.
use Rattle.std.proofs.Common.{◌≡◌, ◌≢◌, ℕ, zero, suc, ◌+◌, ◌<◌, ◌≤◌, Bool, true, false, cond, not, ◌||◌, List, [], ◌∷◌, ◌++◌, length, get_or, map, Some, refl, sym, ap, ◌∙◌, arith}
use Rattle.std.specs.Prelude.{slice_get}
use Rattle.std.proofs.lemmas.Option.{get_or_from_slice_get}
use Rattle.std.specs.List.{AllByRecursion, IsDistinct, filter}
use Rattle.std.proofs.lemmas.List.{map-append}
use Rattle.std.proofs.lemmas.List.Elements.{filter-append}
use Rattle.std.proofs.lemmas.List.Folds.{list_any-append}
use Rattle.std.proofs.lemmas.List.Recursion.{is_position_or_len}
use Rattle.std.specs.List.{position_or_len}
use Rattle.std.proofs.lemmas.Bool.{or_parts, or_right}
use Rattle.indexmap.specs.IndexSet.{insert_key}
use Rattle.span_query.specs.Rows.{Row}
use Rattle.span_query.specs.Groups.{are_equal, distinct, columns_at, group_keys, rows_with}
use Rattle.span_rows.specs.Keys.{contains_row, with_new, place_of, AreApart}
use Rattle.span_rows.proofs.Alike.{are_equal-same, are_equal-itself, are_equal-reversed}
use Rattle.span_rows.proofs.Firsts.{unlike, contains_row-unlike, distinct-more, insert_key-new}

-- ---- the place of a key

pub place_found : (ks : List Row) (k d : Row) → place_of ks k < length ks → get_or ks (place_of ks k) d ≡ k
place_found [] k d h = absurd (omega arith)
place_found (x ∷ ks) k d h = elim (are_equal x k) as (λ b. are_equal x k ≡ b → cond b zero (suc (place_of ks k)) < suc (length ks) → get_or (x ∷ ks) (cond b zero (suc (place_of ks k))) d ≡ k) [
  | true ↦ λ e within. are_equal-same x k e
  | false ↦ λ e within. place_found ks k d (omega arith)
] refl h

pub place_known : (ks : List Row) (k : Row) → contains_row ks k ≡ true → place_of ks k < length ks
place_known [] k e = absurd cc
place_known (x ∷ ks) k e = elim (are_equal x k) as (λ b. (b || contains_row ks k) ≡ true → cond b zero (suc (place_of ks k)) < suc (length ks)) [
  | true ↦ λ known. omega arith
  | false ↦ λ known. omega (arith, place_known ks k known)
] e

-- whether it is among them
pub place_tells : (ks : List Row) (k : Row) → (place_of ks k < length ks → contains_row ks k ≡ true) × (length ks ≤ place_of ks k → contains_row ks k ≡ false)
place_tells [] k = (λ h. absurd (omega arith), λ h. refl)
place_tells (x ∷ ks) k = elim (are_equal x k) as (λ b. (cond b zero (suc (place_of ks k)) < suc (length ks) → (b || contains_row ks k) ≡ true) × (suc (length ks) ≤ cond b zero (suc (place_of ks k)) → (b || contains_row ks k) ≡ false)) [
  | true ↦ (λ h. refl, λ h. absurd (omega arith))
  | false ↦ (λ h. (place_tells ks k).0 (omega arith), λ h. (place_tells ks k).1 (omega arith))
]

-- ---- the place of a key of which there is no other

none_after : (x : Row) (ks : List Row) (i : ℕ) (d : Row) → AllByRecursion (λ y. are_equal x y ≡ false) ks → i < length ks → are_equal x (get_or ks i d) ≡ false
none_after x [] i d all less = absurd (omega arith)
none_after x (y ∷ ks) zero d all less = all.0
none_after x (y ∷ ks) (suc i) d all less = none_after x ks i d all.1 (omega arith)

pub place_of_own : (ks : List Row) (i : ℕ) (k d : Row) → IsDistinct are_equal ks → i < length ks → k ≡ get_or ks i d → i ≡ place_of ks k
unfolding IsDistinct
place_of_own [] i k d apart less is = absurd (omega arith)
place_of_own (x ∷ ks) zero k d apart less is =
    sym (ap (λ (b : Bool). cond b zero (suc (place_of ks k))) (ap (are_equal x) is ∙ are_equal-itself x))
place_of_own (x ∷ ks) (suc i) k d apart less is =
    ap (λ (n : ℕ). suc n) (place_of_own ks i k d apart.1 (omega arith) is)
    ∙ sym (ap (λ (b : Bool). cond b zero (suc (place_of ks k))) (ap (are_equal x) is ∙ none_after x ks i d apart.0 (omega arith)))

-- the place where an index has a key that is equal to this one
pub known_place : (ks : List Row) (i : ℕ) (known k : Row) → IsDistinct are_equal ks → i < length ks → slice_get ks i ≡ Some known → are_equal known k ≡ true → i ≡ place_of ks k
known_place ks i known k apart less there same =
    place_of_own ks i k k apart less (sym (are_equal-same known k same) ∙ sym (get_or_from_slice_get ks i known k there))

-- ---- keys that are apart

none_alike : (ks : List Row) (x : Row) → contains_row ks x ≡ false → (j : ℕ) (d : Row) → j < length ks → are_equal (get_or ks j d) x ≡ false
none_alike [] x e j d h = absurd (omega arith)
none_alike (y ∷ ks) x e zero d h = (or_parts (are_equal y x) (contains_row ks x) e).0
none_alike (y ∷ ks) x e (suc j) d h = none_alike ks x (or_parts (are_equal y x) (contains_row ks x) e).1 j d (omega arith)

pub apart_at : (ks : List Row) → AreApart ks → (i j : ℕ) (d e : Row) → i < length ks → j < length ks → j ≢ i → are_equal (get_or ks j d) (get_or ks i e) ≡ false
apart_at [] a i j d e h l other = absurd (omega arith)
apart_at (x ∷ ks) a zero zero d e h l other = absurd (other refl)
apart_at (x ∷ ks) a zero (suc j) d e h l other = none_alike ks x a.0 j d (omega arith)
apart_at (x ∷ ks) a (suc i) zero d e h l other = are_equal-reversed x (get_or ks i e) ∙ none_alike ks x a.0 i e (omega arith)
apart_at (x ∷ ks) a (suc i) (suc j) d e h l other = apart_at ks a.1 i j d e (omega arith) (omega arith) (λ same. other (ap suc same))

contains_row-filter : (p : Row → Bool) (ks : List Row) (x : Row) → contains_row ks x ≡ false → contains_row (filter p ks) x ≡ false
contains_row-filter p [] x e = refl
contains_row-filter p (y ∷ ks) x e =
    let both : (are_equal y x ≡ false) × (contains_row ks x ≡ false) = or_parts (are_equal y x) (contains_row ks x) e in
    elim (p y) as (λ b. contains_row (cond b (y ∷ filter p ks) (filter p ks)) x ≡ false) [
      | true ↦ ap (λ b. b || contains_row (filter p ks) x) both.0 ∙ contains_row-filter p ks x both.1
      | false ↦ contains_row-filter p ks x both.1
    ]

apart-filter : (p : Row → Bool) (ks : List Row) → AreApart ks → AreApart (filter p ks)
apart-filter p [] a = tt
apart-filter p (x ∷ ks) a = elim (p x) as (λ b. AreApart (cond b (x ∷ filter p ks) (filter p ks))) [
  | true ↦ (contains_row-filter p ks x a.0, apart-filter p ks a.1)
  | false ↦ apart-filter p ks a.1
]

others : (x : Row) (ks : List Row) → contains_row (filter (unlike x) ks) x ≡ false
others x [] = refl
others x (y ∷ ks) = elim (are_equal x y) as (λ b. are_equal x y ≡ b → contains_row (cond (not b) (y ∷ filter (unlike x) ks) (filter (unlike x) ks)) x ≡ false) [
  | true ↦ λ e. others x ks
  | false ↦ λ e. ap (λ b. b || contains_row (filter (unlike x) ks) x) (are_equal-reversed y x ∙ e) ∙ others x ks
] refl

pub distinct-apart : (ks : List Row) → AreApart (distinct ks)
distinct-apart [] = tt
distinct-apart (x ∷ ks) = (others x (distinct ks), apart-filter (unlike x) (distinct ks) (distinct-apart ks))

pub group_keys-apart : (places : List ℕ) (rows : List Row) → AreApart (group_keys places rows)
group_keys-apart [] rows = (refl, tt)
group_keys-apart (p ∷ ps) rows = distinct-apart (map (columns_at (p ∷ ps)) rows)

-- ---- the keys of rows

pub group_keys-more : (places : List ℕ) (rows : List Row) (row : Row) → group_keys places (rows ++ row ∷ []) ≡ with_new (group_keys places rows) (columns_at places row)
group_keys-more [] rows row = refl
group_keys-more (p ∷ ps) rows row =
    ap distinct (map-append (columns_at (p ∷ ps)) rows (row ∷ [])) ∙ distinct-more (map (columns_at (p ∷ ps)) rows) (columns_at (p ∷ ps) row)

pub contains_row-distinct : (ks : List Row) (k : Row) → contains_row (distinct ks) k ≡ contains_row ks k
contains_row-distinct [] k = refl
contains_row-distinct (x ∷ ks) k = elim (are_equal x k) as (λ b. are_equal x k ≡ b → (b || contains_row (filter (unlike x) (distinct ks)) k) ≡ (b || contains_row ks k)) [
  | true ↦ λ e. refl
  | false ↦ λ e. contains_row-unlike x k e (distinct ks) ∙ contains_row-distinct ks k
] refl

pub none_with : (places : List ℕ) (k : Row) (rows : List Row) → contains_row (map (columns_at places) rows) k ≡ false → rows_with places k rows ≡ []
none_with places k [] e = refl
none_with places k (row ∷ rows) e =
    let both : (are_equal (columns_at places row) k ≡ false) × (contains_row (map (columns_at places) rows) k ≡ false) = or_parts (are_equal (columns_at places row) k) (contains_row (map (columns_at places) rows) k) e in
    ap (λ b. cond b (row ∷ rows_with places k rows) (rows_with places k rows)) (are_equal-reversed k (columns_at places row) ∙ both.0) ∙ none_with places k rows both.1

pub rows_with-push : (places : List ℕ) (k : Row) (rows : List Row) (row : Row) (b : Bool) → are_equal k (columns_at places row) ≡ b → rows_with places k (rows ++ row ∷ []) ≡ rows_with places k rows ++ cond b (row ∷ []) []
rows_with-push places k rows row b e =
    filter-append (λ (r : Row). are_equal k (columns_at places r)) rows (row ∷ []) ∙ ap (λ c. rows_with places k rows ++ cond c (row ∷ []) []) e

-- the key of a row is among the keys
pub has_key : (places : List ℕ) (before : List Row) (row : Row) (later : List Row) → contains_row (group_keys places (before ++ row ∷ later)) (columns_at places row) ≡ true
has_key [] before row later = refl
has_key (p ∷ ps) before row later =
    let key = columns_at (p ∷ ps) row in
    let keys = map (columns_at (p ∷ ps)) in
    contains_row-distinct (keys (before ++ row ∷ later)) key
    ∙ ap (λ (ks : List Row). contains_row ks key) (map-append (columns_at (p ∷ ps)) before (row ∷ later))
    ∙ list_any-append (λ (x : Row). are_equal x key) (keys before) (key ∷ keys later)
    ∙ or_right (contains_row (keys before) key) (are_equal key key || contains_row (keys later) key) (ap (λ b. b || contains_row (keys later) key) (are_equal-itself key))

pub place_most : (ks : List Row) (k : Row) → place_of ks k ≤ length ks
place_most [] k = omega arith
place_most (x ∷ ks) k = elim (are_equal x k) as (λ b. cond b zero (suc (place_of ks k)) ≤ suc (length ks)) [
  | true ↦ omega arith
  | false ↦ omega (arith, place_most ks k)
]

-- ---- the place of a key in an index that has these keys

step_in_index : (x : Row) (ks : List Row) (k : Row) → place_of (x ∷ ks) k ≡ cond (are_equal k x) 0 (1 + place_of ks k)
step_in_index x ks k =
    ap (λ b. cond b zero (suc (place_of ks k))) (are_equal-reversed x k) ∙ ap (λ (n : ℕ). cond (are_equal k x) 0 n) {x = suc (place_of ks k)} {y = 1 + place_of ks k} (omega arith)

pub place_in_index : (ks : List Row) (k : Row) → position_or_len (are_equal k) ks ≡ place_of ks k
place_in_index ks k = sym (is_position_or_len (λ (l : List Row). place_of l k) (are_equal k) refl (λ x xs. step_in_index x xs k) ks)

module _ (keys index : List Row) (key k : Row) (at : ℕ) (indexed : index ≡ keys) (is : at ≡ position_or_len (are_equal k) index) (same : k ≡ key) where
  pub index_place : at ≡ place_of keys key
  index_place = is ∙ ap (position_or_len (are_equal k)) indexed ∙ ap (λ (x : Row). position_or_len (are_equal x) keys) same ∙ place_in_index keys key

-- a key that is there stays alone
pub index_stays : (keys index new : List Row) (key k : Row) → index ≡ keys → k ≡ key → place_of keys key < length keys → new ≡ insert_key are_equal index k → new ≡ keys
index_stays keys index new key k indexed same within inserted =
    inserted
    ∙ ap (λ (l : List Row). insert_key are_equal l k) indexed
    ∙ insert_key-new keys k
    ∙ ap (with_new keys) same
    ∙ ap (λ b. cond b keys (keys ++ key ∷ [])) ((place_tells keys key).0 within)
