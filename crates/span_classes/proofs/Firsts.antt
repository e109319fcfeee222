-- The places of the first rows of groups: they ascend as the groups do, and tell the keys.
use Rattle.std.proofs.Common.{◌≡◌, ℕ, ◌<◌, ◌≤◌, ◌==◌, zero, suc, Bool, true, false, cond, not, ◌||◌, List, [], ◌∷◌, ◌++◌, length, get_or, map, refl, sym, ap, ◌∙◌, subst, arith}
use Rattle.std.specs.List.{AllByRecursion, filter}
use Rattle.std.proofs.lemmas.Bool.{or_parts, or_right}
use Rattle.span_query.specs.Rows.{Row}
use Rattle.span_query.specs.Groups.{are_equal, distinct}
use Rattle.span_rows.specs.Keys.{contains_row, place_of}
use Rattle.span_rows.proofs.Alike.{are_equal-same, are_equal-itself}
use Rattle.span_rows.proofs.Firsts.{unlike}
use Rattle.span_rows.proofs.Places.{contains_row-distinct, place_found, place_known}
use Rattle.span_classes.specs.Merging.{IsAscending}
use Rattle.span_classes.proofs.Keys.{all_more}

-- ---- a key that none before it is

pub place_first : (before : List Row) (k : Row) (later : List Row) → contains_row before k ≡ false → place_of (before ++ k ∷ later) k ≡ length before
place_first [] k later none = ap (λ b. cond b zero (suc (place_of later k))) (are_equal-itself k)
place_first (x ∷ before) k later none =
    let both : (are_equal x k ≡ false) × (contains_row before k ≡ false) = or_parts (are_equal x k) (contains_row before k) none in
    ap (λ b. cond b zero (suc (place_of (before ++ k ∷ later) k))) both.0 ∙ ap suc (place_first before k later both.1)

-- ---- keys that are among others

abbrev pub AreAmong : List Row → List Row → Type 0
AreAmong ks keys = AllByRecursion (λ (k : Row). contains_row ks k ≡ true) keys

itself_among : (ks : List Row) → AreAmong ks ks
itself_among [] = tt
itself_among (x ∷ ks) = (
  ap (λ b. b || contains_row ks x) (are_equal-itself x),
  all_more (λ (k : Row). contains_row ks k ≡ true) (λ (k : Row). contains_row (x ∷ ks) k ≡ true) (λ k known. or_right (are_equal x k) (contains_row ks k) known) ks (itself_among ks),
)

pub distinct_among : (ks : List Row) → AreAmong ks (distinct ks)
distinct_among ks =
    all_more (λ (k : Row). contains_row (distinct ks) k ≡ true) (λ (k : Row). contains_row ks k ≡ true) (λ k known. sym (contains_row-distinct ks k) ∙ known) (distinct ks) (itself_among (distinct ks))

pub key_found : (ks : List Row) (k : Row) → contains_row ks k ≡ true → get_or ks (place_of ks k) [] ≡ k
key_found ks k known = place_found ks k [] (place_known ks k known)

pub all_kept : {X : Type 0} (P : X → Type 0) (p : X → Bool) (xs : List X) → AllByRecursion P xs → AllByRecursion P (filter p xs)
all_kept P p [] all = tt
all_kept P p (x ∷ xs) all = elim (p x) as (λ b. AllByRecursion P (cond b (x ∷ filter p xs) (filter p xs))) [
  | true ↦ (all.0, all_kept P p xs all.1)
  | false ↦ all_kept P p xs all.1
]

-- ---- they ascend

all_of_kept : {X : Type 0} (f : X → ℕ) (p : X → Bool) (n : ℕ) (xs : List X) → AllByRecursion (λ (m : ℕ). n < m) (map f xs) → AllByRecursion (λ (m : ℕ). n < m) (map f (filter p xs))
all_of_kept f p n [] all = tt
all_of_kept f p n (x ∷ xs) all = elim (p x) as (λ b. AllByRecursion (λ (m : ℕ). n < m) (map f (cond b (x ∷ filter p xs) (filter p xs)))) [
  | true ↦ (all.0, all_of_kept f p n xs all.1)
  | false ↦ all_of_kept f p n xs all.1
]

ascending_kept : {X : Type 0} (f : X → ℕ) (p : X → Bool) (xs : List X) → IsAscending (map f xs) → IsAscending (map f (filter p xs))
ascending_kept f p [] a = tt
ascending_kept f p (x ∷ xs) a = elim (p x) as (λ b. IsAscending (map f (cond b (x ∷ filter p xs) (filter p xs)))) [
  | true ↦ (all_of_kept f p (f x) xs a.0, ascending_kept f p xs a.1)
  | false ↦ ascending_kept f p xs a.1
]

all_next : (n : ℕ) (ns : List ℕ) → AllByRecursion (λ (m : ℕ). n < m) ns → AllByRecursion (λ (m : ℕ). suc n < m) (map suc ns)
all_next n [] all = tt
all_next n (m ∷ ns) all = (omega (arith, all.0), all_next n ns all.1)

ascending_next : (ns : List ℕ) → IsAscending ns → IsAscending (map suc ns)
ascending_next [] a = tt
ascending_next (n ∷ ns) a = (all_next n ns a.0, ascending_next ns a.1)

all_above : (ns : List ℕ) → AllByRecursion (λ (m : ℕ). 0 < m) (map suc ns)
all_above [] = tt
all_above (n ∷ ns) = (omega arith, all_above ns)

places_after : (x : Row) (ks keys : List Row) → map (place_of (x ∷ ks)) (filter (unlike x) keys) ≡ map suc (map (place_of ks) (filter (unlike x) keys))
places_after x ks [] = refl
places_after x ks (k ∷ keys) = elim (are_equal x k) as (λ b. are_equal x k ≡ b → map (place_of (x ∷ ks)) (cond (not b) (k ∷ filter (unlike x) keys) (filter (unlike x) keys)) ≡ map suc (map (place_of ks) (cond (not b) (k ∷ filter (unlike x) keys) (filter (unlike x) keys)))) [
  | true ↦ λ e. places_after x ks keys
  | false ↦ λ e.
      ap (λ b. cond b zero (suc (place_of ks k)) ∷ map (place_of (x ∷ ks)) (filter (unlike x) keys)) e
      ∙ ap (λ (l : List ℕ). suc (place_of ks k) ∷ l) (places_after x ks keys)
] refl

pub places_ascend : (ks : List Row) → IsAscending (map (place_of ks) (distinct ks))
places_ascend [] = tt
places_ascend (x ∷ ks) =
    let others : List Row = filter (unlike x) (distinct ks) in
    let after : map (place_of (x ∷ ks)) others ≡ map suc (map (place_of ks) others) = places_after x ks (distinct ks) in
    let first : place_of (x ∷ ks) x ≡ zero = ap (λ b. cond b zero (suc (place_of ks x))) (are_equal-itself x) in
    subst (λ (n : ℕ). AllByRecursion (λ (m : ℕ). n < m) (map (place_of (x ∷ ks)) others) × IsAscending (map (place_of (x ∷ ks)) others)) (sym first)
    (subst (λ (l : List ℕ). AllByRecursion (λ (m : ℕ). 0 < m) l × IsAscending l) (sym after) (all_above (map (place_of ks) others), ascending_next (map (place_of ks) others) (ascending_kept (place_of ks) (unlike x) (distinct ks) (places_ascend ks))))

-- ---- those of a class

-- the places of keys are of a class as the keys are
pub places_of_class : (ks : List Row) (of_number : ℕ → ℕ) (of_key : Row → ℕ) (part : ℕ) → ((k : Row) → contains_row ks k ≡ true → of_number (place_of ks k) ≡ of_key k) → (keys : List Row) → AreAmong ks keys
    → filter (λ (n : ℕ). of_number n == part) (map (place_of ks) keys) ≡ map (place_of ks) (filter (λ (k : Row). of_key k == part) keys)
places_of_class ks of_number of_key part same [] among = refl
places_of_class ks of_number of_key part same (k ∷ keys) among =
    let rest : filter (λ (n : ℕ). of_number n == part) (map (place_of ks) keys) ≡ map (place_of ks) (filter (λ (k : Row). of_key k == part) keys) = places_of_class ks of_number of_key part same keys among.1 in
    ap (λ (n : ℕ). cond (n == part) (place_of ks k ∷ filter (λ (n : ℕ). of_number n == part) (map (place_of ks) keys)) (filter (λ (n : ℕ). of_number n == part) (map (place_of ks) keys))) (same k among.0)
    ∙ elim (of_key k == part) as (λ b. cond b (place_of ks k ∷ filter (λ (n : ℕ). of_number n == part) (map (place_of ks) keys)) (filter (λ (n : ℕ). of_number n == part) (map (place_of ks) keys)) ≡ map (place_of ks) (cond b (k ∷ filter (λ (k : Row). of_key k == part) keys) (filter (λ (k : Row). of_key k == part) keys))) [
      | true ↦ ap (λ (l : List ℕ). place_of ks k ∷ l) rest
      | false ↦ rest
    ]
