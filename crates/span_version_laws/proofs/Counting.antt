-- Counting changes and versions by their keys.
use Rattle.std.proofs.Common.{◌≡◌, ℕ, ◌+◌, ◌<◌, Bool, true, false, cond, not, ◌&&◌, ◌||◌, nat_lt, nat_le, List, [], ◌∷◌, ◌++◌, length, Option, Some, None, refl, ap, sym, ◌∙◌, arith, append_assoc}
use Rattle.std.proofs.Math.Bool.{and-false, or-false, or_comm, and-true}
use Rattle.std.specs.Prelude.{filter, sum_by, is_some}
use Rattle.std.specs.List.{AllByRecursion, list_any}
use Rattle.std.specs.Ordering.{eq_by_cmp}
use Rattle.std.specs.Str.{bytes_eq}
use Rattle.std.specs.declared.cmp.Ordering.TheVariants.{Less}
use Rattle.std.proofs.lemmas.Bool.Decides.{nat_tests}
use Rattle.std.proofs.lemmas.List.{append-nil, length-append}
use Rattle.std.proofs.lemmas.List.Folds.{list_any-append}
use Rattle.std.proofs.lemmas.List.Sums.{sum_by-cons}
use Rattle.std.proofs.lemmas.Slice.Eq.{bytes_eq-Decides}
use Rattle.std.proofs.lemmas.Bool.{lt-ltb, and_parts}
use Rattle.span_value.proofs.Lists.{all_weaker, all_whole, filter_swap}
use Rattle.span_keycode.specs.Order.{byte_order}
use Rattle.span_keycode.proofs.Order.{same_bytes, bytes_same}
use Rattle.span_maderows.proofs.Lists.{all_filter_itself}
use Rattle.span_store.specs.declared.chain.Version.{Version}
use Rattle.span_shard.specs.KeyVersions.{KeyVersions}
use Rattle.span_shard.specs.Versions.{kept_version, kept_upto}
use Rattle.span_shard.specs.Shard.{AreInOrder, is_key}
use Rattle.span_machine.specs.Kept.{Change, hides, is_kept, kept}
use Rattle.span_version_laws.proofs.Keys.{greater_apart}

-- ---- filters

-- tests that agree on each keep the same
pub filter_alike : {X : Type 0} (p q : X → Bool) (xs : List X) → AllByRecursion (λ x. p x ≡ q x) xs → filter p xs ≡ filter q xs
filter_alike p q [] same = refl
filter_alike {X} p q (x ∷ xs) same = ap (λ (b : Bool). cond b (x ∷ filter p xs) (filter p xs)) same.0 ∙ ap (λ (l : List X). cond (q x) (x ∷ l) l) (filter_alike p q xs same.1)

-- and find equal things
pub any_alike : {X : Type 0} (p q : X → Bool) (xs : List X) → AllByRecursion (λ x. p x ≡ q x) xs → list_any p xs ≡ list_any q xs
any_alike p q [] same = refl
any_alike p q (x ∷ xs) same = ap (λ (b : Bool). b || list_any p xs) same.0 ∙ ap (λ (b : Bool). q x || b) (any_alike p q xs same.1)

-- what passes the stronger test is among what passes the weaker
pub any_within : {X : Type 0} (p q : X → Bool) → ((x : X) → q x ≡ true → p x ≡ true) → (xs : List X) → list_any q (filter p xs) ≡ list_any q xs
any_within p q weaker [] = refl
any_within {X} p q weaker (x ∷ xs) = cases (p x) (q x) refl refl (any_within p q weaker xs)
  where
    cases : (a b : Bool) → p x ≡ a → q x ≡ b → list_any q (filter p xs) ≡ list_any q xs → list_any q (cond (p x) (x ∷ filter p xs) (filter p xs)) ≡ (q x || list_any q xs)
    cases true b e f again = ap (λ (c : Bool). list_any q (cond c (x ∷ filter p xs) (filter p xs))) e ∙ ap (λ (c : Bool). q x || c) again
    cases false true e f again = absurd (let bad : false ≡ true = sym e ∙ weaker x f in cc)
    cases false false e f again = ap (λ (c : Bool). list_any q (cond c (x ∷ filter p xs) (filter p xs))) e ∙ again ∙ ap (λ (c : Bool). c || list_any q xs) (sym f)

-- ---- changes of one key

-- the change is at the key
abbrev pub is_at_key : List ℕ → Change → Bool
is_at_key k c = eq_by_cmp byte_order k c.key

-- a version as a change leaves it
abbrev pub version_of : Change → Version
version_of c = record { timestamp = c.timestamp; row = c.row }

-- the versions that changes leave, the last one first
abbrev pub newest_first : List Change → List Version
newest_first [] = []
newest_first (c ∷ cs) = newest_first cs ++ version_of c ∷ []

-- those of later changes are in front of those of the others
pub newest_joined : (cs ds : List Change) → newest_first (cs ++ ds) ≡ newest_first ds ++ newest_first cs
newest_joined [] ds = sym (append-nil (newest_first ds))
newest_joined (c ∷ cs) ds = ap (λ (vs : List Version). vs ++ version_of c ∷ []) (newest_joined cs ds) ∙ append_assoc {A = Version} (newest_first ds) (newest_first cs) (version_of c ∷ [])

-- ---- what is kept of the changes of one key

-- another change of the key does not bear on this one
pub kept_at_key : (h : ℕ) (k : List ℕ) (cs : List Change) → filter (is_at_key k) (kept h cs) ≡ kept h (filter (is_at_key k) cs)
kept_at_key h k cs =
    filter_swap (is_at_key k) (is_kept h cs) cs
    ∙ filter_alike (is_kept h cs) (is_kept h (filter (is_at_key k) cs)) (filter (is_at_key k) cs)
    (all_weaker (λ c. is_at_key k c ≡ true) (λ c. is_kept h cs c ≡ is_kept h (filter (is_at_key k) cs) c) same (filter (is_at_key k) cs) (all_filter_itself (is_at_key k) cs))
  where
    of_key : (c d : Change) → is_at_key k c ≡ true → hides h c d ≡ true → is_at_key k d ≡ true
    of_key c d at e =
        let one : bytes_eq c.key d.key ≡ true = (and_parts (bytes_eq c.key d.key) (nat_lt c.timestamp d.timestamp) (and_parts (bytes_eq c.key d.key && nat_lt c.timestamp d.timestamp) (nat_le d.timestamp h) e).0).0 in
        bytes_same k d.key (same_bytes k c.key at ∙ (bytes_eq-Decides c.key d.key).0 one)

    same : (c : Change) → is_at_key k c ≡ true → is_kept h cs c ≡ is_kept h (filter (is_at_key k) cs) c
    same c at = ap (λ (b : Bool). nat_lt h c.timestamp || (is_some c.row && not b)) (sym (any_within (is_at_key k) (hides h c) (λ d e. of_key c d at e) cs))

-- changes of one key, each later than those in front of it
abbrev pub AreRising : List Change → Type 0
AreRising [] = Unit {0}
AreRising (c ∷ cs) = AllByRecursion (λ (d : Change). (d.key ≡ c.key) × (c.timestamp < d.timestamp)) cs × AreRising cs

-- one of the changes is at or below the horizon
abbrev has_early : ℕ → List Change → Bool
has_early h cs = list_any (λ (c : Change). nat_le c.timestamp h) cs

-- one of the versions is
abbrev has_old : ℕ → List Version → Bool
has_old h vs = list_any (λ (v : Version). nat_le v.timestamp h) vs

-- the versions that changes leave are as old as they
old_is_early : (h : ℕ) (cs : List Change) → has_old h (newest_first cs) ≡ has_early h cs
old_is_early h [] = refl
old_is_early h (c ∷ cs) =
    list_any-append (λ (v : Version). nat_le v.timestamp h) (newest_first cs) (version_of c ∷ [])
    ∙ ap (λ (b : Bool). b || (nat_le c.timestamp h || false)) (old_is_early h cs)
    ∙ ap (λ (b : Bool). has_early h cs || b) (or-false (nat_le c.timestamp h))
    ∙ or_comm (has_early h cs) (nat_le c.timestamp h)

-- an older version after others is left out where one of them is at or below the horizon
upto_after : (h : ℕ) (vs : List Version) (v : Version) → kept_upto h (vs ++ v ∷ []) ≡ cond (has_old h vs) (kept_upto h vs) (vs ++ kept_upto h (v ∷ []))
upto_after h [] v = refl
upto_after h (w ∷ vs) v = elim (nat_le w.timestamp h) as (λ b. cond b (kept_version w w.row) (w ∷ kept_upto h (vs ++ v ∷ []))
    ≡ cond (b || has_old h vs) (cond b (kept_version w w.row) (w ∷ kept_upto h vs)) (w ∷ (vs ++ kept_upto h (v ∷ [])))) [
      | true ↦ refl
      | false ↦ ap (λ (l : List Version). w ∷ l) (upto_after h vs v) ∙ inside (has_old h vs)
    ]
  where
    inside : (b : Bool) → w ∷ cond b (kept_upto h vs) (vs ++ kept_upto h (v ∷ [])) ≡ cond b (w ∷ kept_upto h vs) (w ∷ (vs ++ kept_upto h (v ∷ [])))
    inside true = refl
    inside false = refl

-- versions that are all above the horizon are all kept
upto_late : (h : ℕ) (vs : List Version) → has_old h vs ≡ false → kept_upto h vs ≡ vs
upto_late h [] e = refl
upto_late h (w ∷ vs) e = cases (nat_le w.timestamp h) (upto_late h vs) e
  where
    cases : (b : Bool) → (has_old h vs ≡ false → kept_upto h vs ≡ vs) → (b || has_old h vs) ≡ false → cond b (kept_version w w.row) (w ∷ kept_upto h vs) ≡ w ∷ vs
    cases true again f = absurd (let bad : true ≡ false = f in cc)
    cases false again f = ap (λ (l : List Version). w ∷ l) (again f)

-- tests of numbers, by what is known about them
not_before : (t u : ℕ) → t < u → nat_lt u t ≡ false
not_before t u low = grind (arith, nat_tests)

not_self : (t : ℕ) → nat_lt t t ≡ false
not_self t = grind (arith, nat_tests)

not_late : (h t u : ℕ) → t < u → nat_le u h ≡ true → nat_lt h t ≡ false
not_late h t u low early = grind (arith, nat_tests)

-- an earlier change does not hide a later one
hides_back : (h : ℕ) (c d : Change) → c.timestamp < d.timestamp → hides h d c ≡ false
hides_back h c d low = ap (λ (b : Bool). bytes_eq d.key c.key && b && nat_le c.timestamp h) (not_before c.timestamp d.timestamp low) ∙ ap (λ (b : Bool). b && nat_le c.timestamp h) (and-false (bytes_eq d.key c.key))

-- no change hides itself
hides_self : (h : ℕ) (c : Change) → hides h c c ≡ false
hides_self h c = ap (λ (b : Bool). bytes_eq c.key c.key && b && nat_le c.timestamp h) (not_self c.timestamp) ∙ ap (λ (b : Bool). b && nat_le c.timestamp h) (and-false (bytes_eq c.key c.key))

-- a later change of the key hides where it is at or below the horizon
hides_on : (h : ℕ) (c d : Change) → d.key ≡ c.key → c.timestamp < d.timestamp → hides h c d ≡ nat_le d.timestamp h
hides_on h c d same low =
    ap (λ (b : Bool). b && nat_lt c.timestamp d.timestamp && nat_le d.timestamp h) ((bytes_eq-Decides c.key d.key).1 (sym same))
    ∙ ap (λ (b : Bool). b && nat_le d.timestamp h) (lt-ltb c.timestamp d.timestamp low)

-- the first of rising changes does not bear on the others
rest_kept : (h : ℕ) (c : Change) (cs : List Change) → AreRising (c ∷ cs) → filter (is_kept h (c ∷ cs)) cs ≡ kept h cs
rest_kept h c cs up = filter_alike (is_kept h (c ∷ cs)) (is_kept h cs) cs (all_weaker (λ (d : Change). (d.key ≡ c.key) × (c.timestamp < d.timestamp)) (λ d. is_kept h (c ∷ cs) d ≡ is_kept h cs d)
    (λ d later. ap (λ (b : Bool). nat_lt h d.timestamp || (is_some d.row && not (b || list_any (hides h d) cs))) (hides_back h c d later.1)) cs up.0)

-- and is kept by itself
first_kept : (h : ℕ) (c : Change) (cs : List Change) → AreRising (c ∷ cs) → is_kept h (c ∷ cs) c ≡ (nat_lt h c.timestamp || (is_some c.row && not (has_early h cs)))
first_kept h c cs up = ap (λ (b : Bool). nat_lt h c.timestamp || (is_some c.row && not b))
    (ap (λ (b : Bool). b || list_any (hides h c) cs) (hides_self h c)
    ∙ any_alike (hides h c) (λ d. nat_le d.timestamp h) cs (all_weaker (λ (d : Change). (d.key ≡ c.key) × (c.timestamp < d.timestamp)) (λ (d : Change). hides h c d ≡ nat_le d.timestamp h) (λ d later. hides_on h c d later.0 later.1) cs up.0))

-- a change with a later one at or below the horizon is itself below it
early_below : (h : ℕ) (c : Change) (cs : List Change) → AllByRecursion (λ (d : Change). (d.key ≡ c.key) × (c.timestamp < d.timestamp)) cs → has_early h cs ≡ true → nat_lt h c.timestamp ≡ false
early_below h c [] up e = absurd (let bad : false ≡ true = e in cc)
early_below h c (d ∷ cs) up e = cases (nat_le d.timestamp h) refl (early_below h c cs up.1) e
  where
    cases : (b : Bool) → nat_le d.timestamp h ≡ b → (has_early h cs ≡ true → nat_lt h c.timestamp ≡ false) → (b || has_early h cs) ≡ true → nat_lt h c.timestamp ≡ false
    cases true is again f = not_late h c.timestamp d.timestamp up.0.1 is
    cases false is again f = again f

-- at or below is not above
at_or_above : (h t : ℕ) → nat_le t h ≡ not (nat_lt h t)
at_or_above h t = grind (arith, nat_tests)

-- how many of one change alone are kept
one_kept : (h : ℕ) (c : Change) → length (kept_upto h (version_of c ∷ [])) ≡ cond (nat_lt h c.timestamp || is_some c.row) 1 0
one_kept h c = ap (λ (b : Bool). length (cond b (kept_version (version_of c) c.row) (version_of c ∷ []))) (at_or_above h c.timestamp) ∙ cases (nat_lt h c.timestamp) c.row
  where
    cases : (b : Bool) (row : Option (List ℕ)) → length (cond (not b) (kept_version (version_of c) row) (version_of c ∷ [])) ≡ cond (b || is_some row) 1 0
    cases true row = refl
    cases false None = refl
    cases false (Some bytes) = refl

-- one more where the test passes
length_if : {X : Type 0} (b : Bool) (x : X) (xs : List X) → length (cond b (x ∷ xs) xs) ≡ length xs + cond b 1 0
length_if true x xs = omega arith
length_if false x xs = omega arith

-- of rising changes of one key as many are kept as of the versions that they leave
pub kept_count : (h : ℕ) (cs : List Change) → AreRising cs → length (kept h cs) ≡ length (kept_upto h (newest_first cs))
kept_count h [] up = refl
kept_count h (c ∷ cs) up =
    ap (λ (l : List Change). length (cond (is_kept h (c ∷ cs) c) (c ∷ l) l)) (rest_kept h c cs up)
    ∙ length_if (is_kept h (c ∷ cs) c) c (kept h cs)
    ∙ ap (λ (b : Bool). length (kept h cs) + cond b 1 0) (first_kept h c cs up)
    ∙ ap (λ (n : ℕ). n + cond (nat_lt h c.timestamp || (is_some c.row && not (has_early h cs))) 1 0) (kept_count h cs up.1)
    ∙ by_early (has_early h cs) refl
    ∙ ap length (sym (upto_after h (newest_first cs) (version_of c)))
  where
    by_early : (b : Bool) → has_early h cs ≡ b → length (kept_upto h (newest_first cs)) + cond (nat_lt h c.timestamp || (is_some c.row && not b)) 1 0
        ≡ length (cond (has_old h (newest_first cs)) (kept_upto h (newest_first cs)) (newest_first cs ++ kept_upto h (version_of c ∷ [])))
    by_early true e =
        let out : (nat_lt h c.timestamp || (is_some c.row && false)) ≡ false = ap (λ (b : Bool). b || (is_some c.row && false)) (early_below h c cs up.0 e) ∙ and-false (is_some c.row) in
        ap (λ (b : Bool). length (kept_upto h (newest_first cs)) + cond b 1 0) out
        ∙ omega arith
        ∙ ap (λ (b : Bool). length (cond b (kept_upto h (newest_first cs)) (newest_first cs ++ kept_upto h (version_of c ∷ [])))) (sym (old_is_early h cs ∙ e))
    by_early false e =
        let none : has_old h (newest_first cs) ≡ false = old_is_early h cs ∙ e in
        ap (λ (vs : List Version). length vs + cond (nat_lt h c.timestamp || (is_some c.row && true)) 1 0) (upto_late h (newest_first cs) none)
        ∙ ap (λ (b : Bool). length (newest_first cs) + cond (nat_lt h c.timestamp || b) 1 0) (and-true (is_some c.row))
        ∙ ap (λ (n : ℕ). length (newest_first cs) + n) (sym (one_kept h c))
        ∙ sym (length-append (newest_first cs) (kept_upto h (version_of c ∷ [])))
        ∙ ap (λ (b : Bool). length (cond b (kept_upto h (newest_first cs)) (newest_first cs ++ kept_upto h (version_of c ∷ [])))) (sym none)

-- ---- sums over keys

-- equal numbers have one sum
pub sum_alike : {X : Type 0} (f g : X → ℕ) (xs : List X) → AllByRecursion (λ x. f x ≡ g x) xs → sum_by f xs ≡ sum_by g xs
sum_alike f g [] same = refl
sum_alike f g (x ∷ xs) same = sum_by-cons f x xs ∙ ap (λ (n : ℕ). n + sum_by f xs) same.0 ∙ ap (λ (n : ℕ). g x + n) (sum_alike f g xs same.1) ∙ sym (sum_by-cons g x xs)

-- nothing but zeros
sum_none : {X : Type 0} (f : X → ℕ) (xs : List X) → AllByRecursion (λ x. f x ≡ 0) xs → sum_by f xs ≡ 0
sum_none f [] none = refl
sum_none f (x ∷ xs) none = sum_by-cons f x xs ∙ ap (λ (n : ℕ). n + sum_by f xs) none.0 ∙ (let rest = sum_none f xs none.1 in omega arith)

-- a sum of sums
sum_split : {X : Type 0} (f g : X → ℕ) (xs : List X) → sum_by (λ x. f x + g x) xs ≡ sum_by f xs + sum_by g xs
sum_split f g [] = refl
sum_split f g (x ∷ xs) =
    let whole = sum_by-cons (λ y. f y + g y) x xs in
    let left = sum_by-cons f x xs in
    let right = sum_by-cons g x xs in
    let rest = sum_split f g xs in
    omega arith

-- one or none, by whether the keys are the same
abbrev counted : List ℕ → KeyVersions → ℕ
counted k c = cond (eq_by_cmp byte_order c.key k) 1 0

-- equality of keys is symmetric
turned_key : (a b : List ℕ) → eq_by_cmp byte_order a b ≡ eq_by_cmp byte_order b a
turned_key a b = cases (eq_by_cmp byte_order a b) (eq_by_cmp byte_order b a) refl refl
  where
    cases : (p q : Bool) → eq_by_cmp byte_order a b ≡ p → eq_by_cmp byte_order b a ≡ q → p ≡ q
    cases true true e f = refl
    cases true false e f = sym (bytes_same b a (sym (same_bytes a b e))) ∙ f
    cases false true e f = sym e ∙ bytes_same a b (sym (same_bytes b a f))
    cases false false e f = refl

-- a key that is there is there once
count_once : (k : List ℕ) (cs : List KeyVersions) → AreInOrder cs → list_any (is_key k) cs ≡ true → sum_by (counted k) cs ≡ 1
count_once k [] up e = absurd (let bad : false ≡ true = e in cc)
count_once k (c ∷ cs) up e = sum_by-cons (counted k) c cs ∙ cases (is_key k c) refl (count_once k cs up.1) e
  where
    cases : (b : Bool) → is_key k c ≡ b → (list_any (is_key k) cs ≡ true → sum_by (counted k) cs ≡ 1) → (b || list_any (is_key k) cs) ≡ true → counted k c + sum_by (counted k) cs ≡ 1
    cases true is again f =
        let same : k ≡ c.key = same_bytes k c.key is in
        let one : counted k c ≡ 1 = ap (λ (b : Bool). cond b 1 0) (turned_key c.key k ∙ is) in
        let none : sum_by (counted k) cs ≡ 0 = sum_none (counted k) cs (all_weaker (λ (d : KeyVersions). byte_order c.key d.key ≡ Less) (λ d. counted k d ≡ 0)
        (λ d less. ap (λ (l : List ℕ). cond (eq_by_cmp byte_order d.key l) 1 0) same ∙ ap (λ (b : Bool). cond b 1 0) (greater_apart c.key d.key less)) cs up.0) in
        omega arith
    cases false is again f =
        let off : counted k c ≡ 0 = ap (λ (b : Bool). cond b 1 0) (turned_key c.key k ∙ is) in
        let rest : sum_by (counted k) cs ≡ 1 = again f in
        omega arith

-- counting by keys counts each change once, where the key of each is there
pub count_by_keys : (cs : List KeyVersions) → AreInOrder cs → (ds : List Change) → AllByRecursion (λ (d : Change). list_any (is_key d.key) cs ≡ true) ds → sum_by (λ (c : KeyVersions). length (filter (is_at_key c.key) ds)) cs ≡ length ds
count_by_keys cs up [] there = sum_none (λ c. 0) cs (all_whole (λ c. 0 ≡ 0) (λ c. refl) cs)
count_by_keys cs up (d ∷ ds) there =
    let after : KeyVersions → ℕ = λ (c : KeyVersions). length (filter (is_at_key c.key) (d ∷ ds)) in
    let lt-ltb : KeyVersions → ℕ = λ (c : KeyVersions). length (filter (is_at_key c.key) ds) in
    let one : sum_by (counted d.key) cs ≡ 1 = count_once d.key cs up there.0 in
    let rest : sum_by lt-ltb cs ≡ length ds = count_by_keys cs up ds there.1 in
    sum_alike after (λ (c : KeyVersions). lt-ltb c + counted d.key c) cs (all_whole (λ (c : KeyVersions). after c ≡ lt-ltb c + counted d.key c) (λ (c : KeyVersions). length_if (is_at_key c.key d) d (filter (is_at_key c.key) ds)) cs)
    ∙ sum_split lt-ltb (counted d.key) cs
    ∙ omega arith
