-- The groups of the rows whose keys are of one kind: those of all rows whose keys are of it.
use Rattle.std.proofs.Common.{◌≡◌, ℕ, ◌<◌, zero, suc, Bool, true, false, cond, not, ◌||◌, List, [], ◌∷◌, ◌++◌, length, get_or, map, Option, Some, None, refl, sym, ap, ◌∙◌, arith}
use Rattle.std.specs.List.{AllByRecursion, filter}
use Rattle.std.specs.Option.{option_map}
use Rattle.span_query.specs.declared.query.Grouping.{Grouping}
use Rattle.span_query.specs.Rows.{Row, OrFault, ◌>>=◌, append_results, singleton, each}
use Rattle.span_query.specs.Groups.{aggregate, are_equal, columns_at, distinct, group_keys, group_row, groups, rows_with}
use Rattle.span_rows.specs.Keys.{contains_row}
use Rattle.span_rows.proofs.Alike.{are_equal-same}
use Rattle.span_rows.proofs.Firsts.{unlike}
use Rattle.std.proofs.lemmas.Option.{same_Some}

-- ---- items that two tests leave

filter-swap : {X : Type 0} (p q : X → Bool) (xs : List X) → filter p (filter q xs) ≡ filter q (filter p xs)
filter-swap p q [] = refl
filter-swap p q (x ∷ xs) = elim (q x) as (λ b. q x ≡ b → filter p (cond b (x ∷ filter q xs) (filter q xs)) ≡ filter q (cond (p x) (x ∷ filter p xs) (filter p xs))) [
  | true ↦ λ e. elim (p x) as (λ c. cond c (x ∷ filter p (filter q xs)) (filter p (filter q xs)) ≡ filter q (cond c (x ∷ filter p xs) (filter p xs))) [
    | true ↦ ap (λ l. x ∷ l) (filter-swap p q xs) ∙ sym (ap (λ b. cond b (x ∷ filter q (filter p xs)) (filter q (filter p xs))) e)
    | false ↦ filter-swap p q xs
  ]
  | false ↦ λ e. elim (p x) as (λ c. filter p (filter q xs) ≡ filter q (cond c (x ∷ filter p xs) (filter p xs))) [
    | true ↦ filter-swap p q xs ∙ sym (ap (λ b. cond b (x ∷ filter q (filter p xs)) (filter q (filter p xs))) e)
    | false ↦ filter-swap p q xs
  ]
] refl

-- a test that leaves no more than another
filter-within : {X : Type 0} (p q : X → Bool) → ((x : X) → p x ≡ true → q x ≡ true) → (xs : List X) → filter p (filter q xs) ≡ filter p xs
filter-within p q more [] = refl
filter-within p q more (x ∷ xs) = elim (p x) as (λ b. p x ≡ b → filter p (cond (q x) (x ∷ filter q xs) (filter q xs)) ≡ cond b (x ∷ filter p xs) (filter p xs)) [
  | true ↦ λ e.
      ap (λ b. filter p (cond b (x ∷ filter q xs) (filter q xs))) (more x e)
      ∙ ap (λ b. cond b (x ∷ filter p (filter q xs)) (filter p (filter q xs))) e
      ∙ ap (λ l. x ∷ l) (filter-within p q more xs)
  | false ↦ λ e. elim (q x) as (λ c. filter p (cond c (x ∷ filter q xs) (filter q xs)) ≡ filter p xs) [
    | true ↦ ap (λ b. cond b (x ∷ filter p (filter q xs)) (filter p (filter q xs))) e ∙ filter-within p q more xs
    | false ↦ filter-within p q more xs
  ]
] refl

pub filter-map : {X Y : Type 0} (f : X → Y) (p : Y → Bool) (xs : List X) → map f (filter (λ (x : X). p (f x)) xs) ≡ filter p (map f xs)
filter-map f p [] = refl
filter-map f p (x ∷ xs) = elim (p (f x)) as (λ b. map f (cond b (x ∷ filter (λ y. p (f y)) xs) (filter (λ y. p (f y)) xs)) ≡ cond b (f x ∷ filter p (map f xs)) (filter p (map f xs))) [
  | true ↦ ap (λ l. f x ∷ l) (filter-map f p xs)
  | false ↦ filter-map f p xs
]

-- ---- the keys of one kind

-- no key like one of another kind is of the kind
none_like : (p : Row → Bool) (x : Row) → p x ≡ false → (y : Row) → p y ≡ true → unlike x y ≡ true
none_like p x other y its = elim (are_equal x y) as (λ b. are_equal x y ≡ b → not b ≡ true) [
  | true ↦ λ e. absurd (let clash : true ≡ false = sym its ∙ ap p (sym (are_equal-same x y e)) ∙ other in cc)
  | false ↦ λ e. refl
] refl

pub distinct-filter : (p : Row → Bool) (ks : List Row) → distinct (filter p ks) ≡ filter p (distinct ks)
distinct-filter p [] = refl
distinct-filter p (x ∷ ks) = elim (p x) as (λ b. p x ≡ b → distinct (cond b (x ∷ filter p ks) (filter p ks)) ≡ cond b (x ∷ filter p (filter (unlike x) (distinct ks))) (filter p (filter (unlike x) (distinct ks)))) [
  | true ↦ λ e. ap (λ (l : List Row). x ∷ l) (ap (filter (unlike x)) (distinct-filter p ks) ∙ filter-swap (unlike x) p (distinct ks))
  | false ↦ λ e. distinct-filter p ks ∙ sym (filter-within p (unlike x) (none_like p x e) (distinct ks))
] refl

-- the rows whose keys are of a kind
abbrev pub rows_of : List ℕ → (Row → Bool) → List Row → List Row
rows_of places p rows = filter (λ (row : Row). p (columns_at places row)) rows

pub keys_of_kind : (places : List ℕ) (p : Row → Bool) (rows : List Row) → 0 < length places → group_keys places (rows_of places p rows) ≡ filter p (group_keys places rows)
keys_of_kind [] p rows keyed = absurd (omega arith)
keys_of_kind (n ∷ ns) p rows keyed = ap distinct (filter-map (columns_at (n ∷ ns)) p rows) ∙ distinct-filter p (map (columns_at (n ∷ ns)) rows)

has_kind : (places : List ℕ) (p : Row → Bool) (key : Row) → p key ≡ true → (row : Row) → are_equal key (columns_at places row) ≡ true → p (columns_at places row) ≡ true
has_kind places p key its row same = ap p (sym (are_equal-same key (columns_at places row) same)) ∙ its

pub rows_of_kind : (places : List ℕ) (p : Row → Bool) (key : Row) (rows : List Row) → p key ≡ true → rows_with places key (rows_of places p rows) ≡ rows_with places key rows
rows_of_kind places p key rows its =
    filter-within (λ (row : Row). are_equal key (columns_at places row)) (λ (row : Row). p (columns_at places row)) (has_kind places p key its) rows

-- a key of the kind is among the keys of the kind where it is among all
pub contains-kind : (p : Row → Bool) (k : Row) → p k ≡ true → (ks : List Row) → contains_row (filter p ks) k ≡ contains_row ks k
contains-kind p k its [] = refl
contains-kind p k its (x ∷ ks) = elim (p x) as (λ b. p x ≡ b → contains_row (cond b (x ∷ filter p ks) (filter p ks)) k ≡ (are_equal x k || contains_row ks k)) [
  | true ↦ λ e. ap (λ b. are_equal x k || b) (contains-kind p k its ks)
  | false ↦ λ e. elim (are_equal x k) as (λ b. are_equal x k ≡ b → contains_row (filter p ks) k ≡ (b || contains_row ks k)) [
    | true ↦ λ same. absurd (let clash : true ≡ false = sym its ∙ ap p (sym (are_equal-same x k same)) ∙ e in cc)
    | false ↦ λ other. contains-kind p k its ks
  ] refl
] refl

-- ---- what each of some items gives

none_of : {B : Type 0} (y : B) (o : OrFault (List B)) → append_results (Some (y ∷ [])) o ≡ None → o ≡ None
none_of y None e = refl
none_of y (Some ys) e = absurd cc

none_with : {B : Type 0} (o : OrFault B) (r : OrFault (List B)) → r ≡ None → append_results (option_map singleton o) r ≡ None
none_with None r e = refl
none_with (Some y) r e = ap (append_results (Some (y ∷ []))) e

-- a fault at some of them is one at all
pub each-none : {A B : Type 0} (f : A → OrFault B) (p : A → Bool) (xs : List A) → each f (filter p xs) ≡ None → each f xs ≡ None
each-none f p [] e = e
each-none {B = B} f p (x ∷ xs) e = elim (p x) as (λ b. each f (cond b (x ∷ filter p xs) (filter p xs)) ≡ None → each f (x ∷ xs) ≡ None) [
  | true ↦ λ h. elim (f x) as (λ (o : OrFault B). append_results (option_map singleton o) (each f (filter p xs)) ≡ None → append_results (option_map singleton o) (each f xs) ≡ None) [
    | None ↦ λ k. refl
    | Some y ↦ λ k. none_with (Some y) (each f xs) (each-none f p xs (none_of y (each f (filter p xs)) k))
  ] h
  | false ↦ λ h. none_with (f x) (each f xs) (each-none f p xs h)
] e

pub each-same : {A B : Type 0} (f : A → OrFault B) (h : A → B) (xs : List A) → AllByRecursion (λ x. f x ≡ Some (h x)) xs → each f xs ≡ Some (map h xs)
each-same f h [] all = refl
each-same {B = B} f h (x ∷ xs) all =
    ap (λ (o : OrFault B). append_results (option_map singleton o) (each f xs)) all.0
    ∙ ap (append_results (Some (h x ∷ []))) (each-same f h xs all.1)

pub each-map : {A B C : Type 0} (f : B → OrFault C) (h : A → B) (xs : List A) → each f (map h xs) ≡ each (λ x. f (h x)) xs
each-map f h [] = refl
each-map f h (x ∷ xs) = ap (append_results (option_map singleton (f (h x)))) (each-map f h xs)

record HasParts {A B : Type 0} (f : A → OrFault B) (x : A) (xs : List A) (ys : List B) : Type 0 where
  first : B
  others : List B
  gives : f x ≡ Some first
  rest : each f xs ≡ Some others
  are : ys ≡ first ∷ others

each_parts : {A B : Type 0} (f : A → OrFault B) (x : A) (xs : List A) (ys : List B) → each f (x ∷ xs) ≡ Some ys → HasParts f x xs ys
each_parts {B = B} f x xs ys e = elim (f x) as (λ (o : OrFault B). f x ≡ o → append_results (option_map singleton o) (each f xs) ≡ Some ys → HasParts f x xs ys) [
  | None ↦ λ a h. absurd cc
  | Some y ↦ λ a h. elim (each f xs) as (λ (r : OrFault (List B)). each f xs ≡ r → append_results (Some (y ∷ [])) r ≡ Some ys → HasParts f x xs ys) [
    | None ↦ λ b k. absurd cc
    | Some zs ↦ λ b k. record { first = y; others = zs; gives = a; rest = b; are = sym (same_Some (y ∷ zs) ys k) }
  ] refl h
] refl e

pub each-get : {A B : Type 0} (f : A → OrFault B) (xs : List A) (ys : List B) → each f xs ≡ Some ys → (i : ℕ) (d : A) (e : B) → i < length xs → f (get_or xs i d) ≡ Some (get_or ys i e)
each-get f [] ys h i d e less = absurd (omega arith)
each-get f (x ∷ xs) ys h zero d e less =
    let parts = each_parts f x xs ys h in
    parts.gives ∙ ap (λ l. Some (get_or l zero e)) (sym parts.are)
each-get f (x ∷ xs) ys h (suc i) d e less =
    let parts = each_parts f x xs ys h in
    each-get f xs parts.others parts.rest i d e (omega arith) ∙ ap (λ l. Some (get_or l (suc i) e)) (sym parts.are)

pub each-length : {A B : Type 0} (f : A → OrFault B) (xs : List A) (ys : List B) → each f xs ≡ Some ys → length ys ≡ length xs
each-length f [] ys h = ap (λ l. length l) (sym (same_Some [] ys h))
each-length f (x ∷ xs) ys h =
    let parts = each_parts f x xs ys h in
    ap (λ l. length l) parts.are ∙ ap suc (each-length f xs parts.others parts.rest)

pub each_alike : {A B : Type 0} (f h : A → OrFault B) (xs : List A) → AllByRecursion (λ x. f x ≡ h x) xs → each f xs ≡ each h xs
each_alike f h [] all = refl
each_alike {B = B} f h (x ∷ xs) all =
    ap (λ (o : OrFault B). append_results (option_map singleton o) (each f xs)) all.0
    ∙ ap (append_results (option_map singleton (h x))) (each_alike f h xs all.1)

-- ---- the groups of one kind

all_pass : {X : Type 0} (p : X → Bool) (xs : List X) → AllByRecursion (λ x. p x ≡ true) (filter p xs)
all_pass p [] = tt
all_pass p (x ∷ xs) = elim (p x) as (λ b. p x ≡ b → AllByRecursion (λ y. p y ≡ true) (cond b (x ∷ filter p xs) (filter p xs))) [
  | true ↦ λ e. (e, all_pass p xs)
  | false ↦ λ e. all_pass p xs
] refl

pub all_more : {X : Type 0} (P Q : X → Type 0) → ((x : X) → P x → Q x) → (xs : List X) → AllByRecursion P xs → AllByRecursion Q xs
all_more P Q more [] all = tt
all_more P Q more (x ∷ xs) all = (more x all.0, all_more P Q more xs all.1)

same_row : (g : Grouping) (p : Row → Bool) (rows : List Row) (key : Row) → p key ≡ true → group_row g (rows_of g.keys p rows) key ≡ group_row g rows key
same_row g p rows key its = ap (λ (l : List Row). each (aggregate l) g.aggregates >>= (λ vs. Some (key ++ vs))) (rows_of_kind g.keys p key rows its)

pub groups_of_kind : (g : Grouping) (p : Row → Bool) (rows : List Row) → 0 < length g.keys → groups g (rows_of g.keys p rows) ≡ each (group_row g rows) (filter p (group_keys g.keys rows))
groups_of_kind g p rows keyed =
    ap (λ (ks : List Row). each (group_row g (rows_of g.keys p rows)) ks) (keys_of_kind g.keys p rows keyed)
    ∙ each_alike (group_row g (rows_of g.keys p rows)) (group_row g rows) (filter p (group_keys g.keys rows))
    (all_more (λ k. p k ≡ true) (λ k. group_row g (rows_of g.keys p rows) k ≡ group_row g rows k) (same_row g p rows) (filter p (group_keys g.keys rows)) (all_pass p (group_keys g.keys rows)))

-- a fault of those of one kind is one of all
pub groups-none : (g : Grouping) (p : Row → Bool) (rows : List Row) → 0 < length g.keys → groups g (rows_of g.keys p rows) ≡ None → groups g rows ≡ None
groups-none g p rows keyed e = each-none (group_row g rows) p (group_keys g.keys rows) (sym (groups_of_kind g p rows keyed) ∙ e)
