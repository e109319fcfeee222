-- Rows that mutations make and remove; the keys below one, of those at which they made a row and of the others.
use Rattle.std.proofs.Common.{◌≡◌, ℕ, Bool, true, false, ◌||◌, cond, List, [], ◌∷◌, Option, Some, None, is_some, is_none, map, length, refl, sym, ap, subst, ◌∙◌, arith}
use Rattle.std.specs.List.{filter, find, list_any, AllByRecursion}
use Rattle.std.specs.Option.{unwrap_or}
use Rattle.std.specs.Ordering.{is_eq, ordering_reverse}
use Rattle.std.specs.declared.cmp.Ordering.TheVariants.{Less}
use Rattle.std.proofs.lemmas.List.Folds.{list_any-append}
use Rattle.std.specs.Cmp.{tied_itself}
use Rattle.std.proofs.lemmas.Bool.{and_parts, or_left, or_right, and_from}
use Rattle.span_value.proofs.Lists.{all_append, all_weaker, all_filter, all_map, all_whole, all_both}
use Rattle.span_keycode.specs.Order.{is_same}
use Rattle.span_keycode.proofs.Order.{same_bytes}
use Rattle.span_mutate.proofs.Filters.{filter_yes, filter_no}
use Rattle.span_maderows.specs.Made.{begins_with, made_at, AddsMade}
use Rattle.span_maderows.proofs.Bytes.{bytes_total, turned}
use Rattle.span_maderows.proofs.Lists.{all_filter_itself}
use Rattle.span_store.specs.KeyVersions.{KeyVersions}
use Rattle.span_store.specs.KeyLists.{AreInOrder, keys_cmp, is_key, versions_of, end_of_time, row_now}
use Rattle.span_store.specs.Reads.{versions_alone}
use Rattle.span_shard.specs.Reading.{row_of}
use Rattle.span_shard.specs.Overlay.{Changes, changed_at, row_over, is_unchanged, change_of, AreUnchangedUnder, AreCleared, AddsCleared, HasSameCleared, AreUnder, AreRemoved, without_if}
use Rattle.span_store.proofs.Lists.{found_all}
use Rattle.span_shard.proofs.Databases.{find_kept}
use Rattle.span_store.specs.Versions.{row_at}

-- ---- a row that is removed

-- its key goes from the rows that were made to those that were removed
pub removed_at : (now next : Changes) (key : List ℕ) → ((k : List ℕ) → made_at next.made k ≡ cond (is_same key k) None (made_at now.made k))
    → ((k : List ℕ) → list_any (is_same k) next.removed ≡ cond (is_same key k) true (list_any (is_same k) now.removed)) → (k : List ℕ) → changed_at next k ≡ cond (is_same key k) (Some None) (changed_at now k)
removed_at now next key out put k =
    ap (λ (o : Option (List ℕ)). change_of o (list_any (is_same k) next.removed)) (out k)
    ∙ ap (change_of (cond (is_same key k) None (made_at now.made k))) (put k)
    ∙ cases (is_same key k)
  where
    cases : (b : Bool) → change_of (cond b None (made_at now.made k)) (cond b true (list_any (is_same k) now.removed)) ≡ cond b (Some None) (changed_at now k)
    cases true = refl
    cases false = refl

-- ---- rows that are removed

-- of keys that are left, one is removed
pub removed_step : (now next : Changes) (key : List ℕ) (ks : List (List ℕ)) → ((k : List ℕ) → changed_at next k ≡ cond (is_same key k) (Some None) (changed_at now k))
    → (k : List ℕ) → without_if (list_any (is_same k) ks) (changed_at next k) ≡ without_if (list_any (is_same k) (key ∷ ks)) (changed_at now k)
removed_step now next key ks set k = cases (is_same key k) (list_any (is_same k) ks) refl refl
  where
    cases : (a b : Bool) → is_same key k ≡ a → list_any (is_same k) ks ≡ b → without_if (list_any (is_same k) ks) (changed_at next k) ≡ without_if (list_any (is_same k) (key ∷ ks)) (changed_at now k)
    cases true true e f =
        ap (λ (b : Bool). without_if b (changed_at next k)) f
        ∙ sym (ap (λ (b : Bool). without_if (b || list_any (is_same k) ks) (changed_at now k)) (turned k key ∙ e))
    cases true false e f =
        ap (λ (b : Bool). without_if b (changed_at next k)) f
        ∙ set k ∙ ap (λ (b : Bool). cond b (Some None) (changed_at now k)) e
        ∙ sym (ap (λ (b : Bool). without_if (b || list_any (is_same k) ks) (changed_at now k)) (turned k key ∙ e))
    cases false b e f =
        ap (without_if (list_any (is_same k) ks)) (set k ∙ ap (λ (c : Bool). cond c (Some None) (changed_at now k)) e)
        ∙ sym (ap (λ (c : Bool). without_if (c || list_any (is_same k) ks) (changed_at now k)) (turned k key ∙ e))

-- with the rows of the keys that are left removed too, all are
pub record AreRemoving (old now : Changes) (keys left : List (List ℕ)) : Type 0 where
  pub removed : (k : List ℕ) → without_if (list_any (is_same k) left) (changed_at now k) ≡ without_if (list_any (is_same k) keys) (changed_at old k)
  pub cleared : HasSameCleared old now

pub removing_first : (old now : Changes) (keys left : List (List ℕ)) → old ≡ now → left ≡ keys → AreRemoving old now keys left
removing_first old now keys left same is = record {
  removed = λ k. ap (λ (l : List (List ℕ)). without_if (list_any (is_same k) l) (changed_at now k)) is ∙ ap (λ (es : Changes). without_if (list_any (is_same k) keys) (changed_at es k)) (sym same);
  cleared = ap (λ (es : Changes). es.cleared) (sym same);
}

-- one more is removed
pub removing_next : (old now next : Changes) (keys left rest : List (List ℕ)) (key : List ℕ) → left ≡ key ∷ rest → ((k : List ℕ) → made_at next.made k ≡ cond (is_same key k) None (made_at now.made k))
    → ((k : List ℕ) → list_any (is_same k) next.removed ≡ cond (is_same key k) true (list_any (is_same k) now.removed)) → next.cleared ≡ now.cleared → AreRemoving old now keys left → AreRemoving old next keys rest
removing_next old now next keys left rest key is out put same so_far = record {
  removed = λ k. removed_step now next key rest (removed_at now next key out put) k ∙ ap (λ (l : List (List ℕ)). without_if (list_any (is_same k) l) (changed_at now k)) (sym is) ∙ so_far.removed k;
  cleared = same ∙ so_far.cleared;
}

pub removed_all : (old now : Changes) (keys left : List (List ℕ)) → length left ≡ 0 → AreRemoving old now keys left → AreRemoved old keys now
removed_all old now keys (x ∷ left) none so_far k = absurd (omega (arith, none))
removed_all old now keys [] none so_far k = so_far.removed k

-- ---- the keys below one

none_is : {X : Type 0} (o : Option X) → is_none o ≡ true → o ≡ None
none_is None e = refl
none_is (Some x) e = absurd (let f : false ≡ true = e in cc)

-- each key is found where it is
own_found : (cs : List KeyVersions) → AreInOrder cs → AllByRecursion (λ (c : KeyVersions). find (is_key c.key) cs ≡ Some c) cs
own_found [] h = tt
own_found (d ∷ ds) h = (
  ap (λ (b : Bool). cond b (Some d) (find (is_key d.key) ds)) (ap is_eq (tied_itself bytes_total d.key)),
  all_weaker (λ (c : KeyVersions). (keys_cmp d c ≡ Less) × (find (is_key c.key) ds ≡ Some c)) (λ (c : KeyVersions). find (is_key c.key) (d ∷ ds) ≡ Some c)
      (λ c g. ap (λ (b : Bool). cond b (Some d) (find (is_key c.key) ds)) (ap is_eq (bytes_total.antisymm c.key d.key ∙ ap ordering_reverse g.0)) ∙ g.1) ds
      (all_both (λ (c : KeyVersions). keys_cmp d c ≡ Less) (λ (c : KeyVersions). find (is_key c.key) ds ≡ Some c) ds h.0 (own_found ds h.1)),
)

own_rows : (cs : List KeyVersions) → AreInOrder cs → AllByRecursion (λ (c : KeyVersions). row_now cs c.key ≡ row_of c) cs
own_rows cs h = all_weaker (λ (c : KeyVersions). find (is_key c.key) cs ≡ Some c) (λ (c : KeyVersions). row_now cs c.key ≡ row_of c) (λ c e. ap (λ (o : Option KeyVersions). row_at (versions_of o) end_of_time) e) cs (own_found cs h)

-- the keys of the store below one that no mutation changed
abbrev pub unchanged_under : Changes → List ℕ → List KeyVersions → List (List ℕ)
unchanged_under es front cs = map (λ c. c.key) (filter (is_unchanged es) (map versions_alone (filter (λ c. begins_with c.key front) cs)))

-- what a key of the store below has
abbrev IsStoredUnder : List KeyVersions → List ℕ → KeyVersions → Type 0
IsStoredUnder cs front c = (begins_with c.key front ≡ true) × (row_now cs c.key ≡ row_of c)

stored_under : (cs : List KeyVersions) → AreInOrder cs → (front : List ℕ) → AllByRecursion (IsStoredUnder cs front) (map versions_alone (filter (λ c. begins_with c.key front) cs))
stored_under cs sorted front =
    all_map (IsStoredUnder cs front) (IsStoredUnder cs front) versions_alone (λ c h. h) (filter (λ (c : KeyVersions). begins_with c.key front) cs)
    (all_both (λ (c : KeyVersions). begins_with c.key front ≡ true) (λ (c : KeyVersions). row_now cs c.key ≡ row_of c) (filter (λ (c : KeyVersions). begins_with c.key front) cs)
    (all_filter_itself (λ (c : KeyVersions). begins_with c.key front) cs) (all_filter (λ (c : KeyVersions). row_now cs c.key ≡ row_of c) (λ (c : KeyVersions). begins_with c.key front) cs (own_rows cs sorted)))

unchanged_sound : (cs : List KeyVersions) → AreInOrder cs → (es : Changes) (front : List ℕ) → AllByRecursion (λ (k : List ℕ). (begins_with k front ≡ true) × (is_some (row_over cs es k) ≡ true)) (unchanged_under es front cs)
unchanged_sound cs sorted es front =
    all_map (λ (c : KeyVersions). (is_unchanged es c ≡ true) × IsStoredUnder cs front c) (λ (k : List ℕ). (begins_with k front ≡ true) × (is_some (row_over cs es k) ≡ true)) (λ c. c.key) good found
    (all_both (λ (c : KeyVersions). is_unchanged es c ≡ true) (IsStoredUnder cs front) found (all_filter_itself (is_unchanged es) whole) (all_filter (IsStoredUnder cs front) (is_unchanged es) whole (stored_under cs sorted front)))
  where
    whole : List KeyVersions
    whole = map versions_alone (filter (λ (c : KeyVersions). begins_with c.key front) cs)

    found : List KeyVersions
    found = filter (is_unchanged es) whole

    good : (c : KeyVersions) → (is_unchanged es c ≡ true) × IsStoredUnder cs front c → (begins_with c.key front ≡ true) × (is_some (row_over cs es c.key) ≡ true)
    good c h =
        let both = and_parts (is_none (changed_at es c.key)) (is_some (row_of c)) h.0 in
        (h.1.0, ap (λ (o : Option (Option (List ℕ))). is_some (unwrap_or o (row_now cs c.key))) (none_is (changed_at es c.key) both.0) ∙ ap (λ (o : Option (List ℕ)). is_some o) h.1.1 ∙ both.1)

-- a key of the store that passes is among those that are left
kept_any : (p : KeyVersions → Bool) (k : List ℕ) (xs : List KeyVersions) → (x : KeyVersions) → find (is_key k) xs ≡ Some x → p x ≡ true → list_any (is_same k) (map (λ c. c.key) (filter p xs)) ≡ true
kept_any p k [] x e f = absurd (let g : None ≡ Some x = e in cc)
kept_any p k (y ∷ ys) x e f = cases (is_key k y) (p y) refl refl e (λ i. kept_any p k ys x i f)
  where
    here : p y ≡ true → is_key k y ≡ true → list_any (is_same k) (map (λ c. c.key) (filter p (y ∷ ys))) ≡ true
    here g h = ap (λ (l : List KeyVersions). list_any (is_same k) (map (λ c. c.key) l)) (filter_yes p y ys g) ∙ or_left (is_same k y.key) (list_any (is_same k) (map (λ c. c.key) (filter p ys))) h

    cases : (a b : Bool) → is_key k y ≡ a → p y ≡ b → cond (is_key k y) (Some y) (find (is_key k) ys) ≡ Some x → (find (is_key k) ys ≡ Some x → list_any (is_same k) (map (λ c. c.key) (filter p ys)) ≡ true)
        → list_any (is_same k) (map (λ c. c.key) (filter p (y ∷ ys))) ≡ true
    cases true b h g i more =
        let same : y ≡ x = (let j : Some y ≡ Some x = sym (ap (λ (c : Bool). cond c (Some y) (find (is_key k) ys)) h) ∙ i in cc) in
        here (ap p same ∙ f) h
    cases false true h g i more =
        let again = more (sym (ap (λ (c : Bool). cond c (Some y) (find (is_key k) ys)) h) ∙ i) in
        ap (λ (l : List KeyVersions). list_any (is_same k) (map (λ c. c.key) l)) (filter_yes p y ys g) ∙ or_right (is_same k y.key) (list_any (is_same k) (map (λ c. c.key) (filter p ys))) again
    cases false false h g i more =
        ap (λ (l : List KeyVersions). list_any (is_same k) (map (λ c. c.key) l)) (filter_no p y ys g) ∙ more (sym (ap (λ (c : Bool). cond c (Some y) (find (is_key k) ys)) h) ∙ i)

find_mapped : (k : List ℕ) (xs : List KeyVersions) (c : KeyVersions) → find (is_key k) xs ≡ Some c → find (is_key k) (map versions_alone xs) ≡ Some (versions_alone c)
find_mapped k [] c e = absurd (let g : None ≡ Some c = e in cc)
find_mapped k (x ∷ xs) c e = cases (is_key k x) refl (find_mapped k xs c)
  where
    cases : (b : Bool) → is_key k x ≡ b → (find (is_key k) xs ≡ Some c → find (is_key k) (map versions_alone xs) ≡ Some (versions_alone c)) → find (is_key k) (map versions_alone (x ∷ xs)) ≡ Some (versions_alone c)
    cases true f again =
        let same : x ≡ c = (let j : Some x ≡ Some c = sym (ap (λ (b : Bool). cond b (Some x) (find (is_key k) xs)) f) ∙ e in cc) in
        ap (λ (b : Bool). cond b (Some (versions_alone x)) (find (is_key k) (map versions_alone xs))) f ∙ ap (λ (y : KeyVersions). Some (versions_alone y)) same
    cases false f again =
        ap (λ (b : Bool). cond b (Some (versions_alone x)) (find (is_key k) (map versions_alone xs))) f
        ∙ again (sym (ap (λ (b : Bool). cond b (Some x) (find (is_key k) xs)) f) ∙ e)

unchanged_complete : (cs : List KeyVersions) (es : Changes) (front k : List ℕ) → begins_with k front ≡ true → changed_at es k ≡ None → is_some (row_now cs k) ≡ true → list_any (is_same k) (unchanged_under es front cs) ≡ true
unchanged_complete cs es front k b none some = of_found (find (is_key k) cs) refl
  where
    of_found : (o : Option KeyVersions) → find (is_key k) cs ≡ o → list_any (is_same k) (unchanged_under es front cs) ≡ true
    of_found None e = absurd (let f : false ≡ true = sym (ap (λ (o : Option KeyVersions). is_some (row_at (versions_of o) end_of_time)) e) ∙ some in cc)
    of_found (Some c) e =
        let key : k ≡ c.key = same_bytes k c.key (found_all (λ (d : KeyVersions). Unit {0}) (is_key k) cs c (all_whole (λ (d : KeyVersions). Unit {0}) (λ d. tt) cs) e).1 in
        let within : find (is_key k) (filter (λ (d : KeyVersions). begins_with d.key front) cs) ≡ Some c =
        find_kept (is_key k) (λ (d : KeyVersions). begins_with d.key front) cs
        (all_whole (λ (d : KeyVersions). is_key k d ≡ true → begins_with d.key front ≡ true) (λ d f. ap (λ (l : List ℕ). begins_with l front) (sym (same_bytes k d.key f)) ∙ b) cs) ∙ e in
        let now : is_some (row_of c) ≡ true = sym (ap (λ (o : Option KeyVersions). is_some (row_at (versions_of o) end_of_time)) e) ∙ some in
        kept_any (is_unchanged es) k (map versions_alone (filter (λ (d : KeyVersions). begins_with d.key front) cs)) (versions_alone c)
        (find_mapped k (filter (λ (d : KeyVersions). begins_with d.key front) cs) c within)
        (and_from (is_none (changed_at es c.key)) (is_some (row_of c)) (ap (λ (l : List ℕ). is_none (changed_at es l)) (sym key) ∙ ap (λ (o : Option (Option (List ℕ))). is_none o) none) now)

-- the store was looked at
pub unchanged_found : (cs : List KeyVersions) → AreInOrder cs → (es : Changes) (front : List ℕ) → AreUnchangedUnder cs es front (unchanged_under es front cs)
unchanged_found cs sorted es front = record { sound = unchanged_sound cs sorted es front; complete = unchanged_complete cs es front }

pub all_under : (cs : List KeyVersions) (es : Changes) (front : List ℕ) (old ks : List (List ℕ)) → AreUnchangedUnder cs es front old → AddsMade es.made front old ks → AreUnder cs es front ks
all_under cs es front old ks unchanged h = subst (AreUnder cs es front) (sym h.whole) (record {
  sound = all_append (λ (k : List ℕ). (begins_with k front ≡ true) × (is_some (row_over cs es k) ≡ true)) old h.added unchanged.sound
      (all_weaker (λ (k : List ℕ). (begins_with k front ≡ true) × ((row : List ℕ) × (made_at es.made k ≡ Some row))) (λ (k : List ℕ). (begins_with k front ≡ true) × (is_some (row_over cs es k) ≡ true))
      (λ k g. (g.0, ap (λ (o : Option (List ℕ)). is_some (unwrap_or (change_of o (list_any (is_same k) es.removed)) (row_now cs k))) g.1.1)) h.added h.are.sound);
  complete = λ k b some. list_any-append (is_same k) old h.added ∙ of_change k b some (made_at es.made k) (list_any (is_same k) es.removed) refl refl;
})
  where
    -- what is left at the key
    left : (k : List ℕ) (o : Option (List ℕ)) (c : Bool) → made_at es.made k ≡ o → list_any (is_same k) es.removed ≡ c → changed_at es k ≡ change_of o c
    left k o c e f = ap (λ (p : Option (List ℕ)). change_of p (list_any (is_same k) es.removed)) e ∙ ap (change_of o) f

    over : (k : List ℕ) (p : Option (Option (List ℕ))) → changed_at es k ≡ p → is_some (row_over cs es k) ≡ is_some (unwrap_or p (row_now cs k))
    over k p e = ap (λ (o : Option (Option (List ℕ))). is_some (unwrap_or o (row_now cs k))) e

    of_change : (k : List ℕ) → begins_with k front ≡ true → is_some (row_over cs es k) ≡ true → (o : Option (List ℕ)) (c : Bool) → made_at es.made k ≡ o → list_any (is_same k) es.removed ≡ c
        → (list_any (is_same k) old || list_any (is_same k) h.added) ≡ true
    of_change k b some (Some row) c e f = or_right (list_any (is_same k) old) (list_any (is_same k) h.added) (h.are.complete k row b e)
    of_change k b some None true e f = absurd (let g : false ≡ true = sym (over k (Some None) (left k None true e f)) ∙ some in cc)
    of_change k b some None false e f =
        or_left (list_any (is_same k) old) (list_any (is_same k) h.added)
        (unchanged.complete k b (left k None false e f) (sym (over k None (left k None false e f)) ∙ some))

-- ---- keys from which on down all rows were removed

removed_stays : (es fs : Changes) (ks : List (List ℕ)) → AreRemoved es ks fs → (k : List ℕ) → is_some (changed_at es k) ≡ true → is_some (changed_at fs k) ≡ true
removed_stays es fs ks removed k e = ap (λ (o : Option (Option (List ℕ))). is_some o) (removed k) ∙ cases (list_any (is_same k) ks)
  where
    cases : (b : Bool) → is_some (without_if b (changed_at es k)) ≡ true
    cases true = refl
    cases false = e

-- where all rows below a key are removed, it may be among the cleared ones
pub clears : (cs : List KeyVersions) (es fs : Changes) (key : List ℕ) (ks : List (List ℕ)) → AreCleared cs es → AreUnder cs es key ks → AreRemoved es ks fs → AddsCleared key es fs → AreCleared cs fs
clears cs es fs key ks cleared under removed adds front e k b some = by_key (is_same key front) refl
  where
    of_change : begins_with k key ≡ true → (o : Option (Option (List ℕ))) → changed_at es k ≡ o → is_some (changed_at fs k) ≡ true
    of_change c (Some row) f = removed_stays es fs ks removed k (ap (λ (o : Option (Option (List ℕ))). is_some o) f)
    of_change c None f =
        let among = under.complete k c (ap (λ (o : Option (Option (List ℕ))). is_some (unwrap_or o (row_now cs k))) f ∙ some) in
        ap (λ (o : Option (Option (List ℕ))). is_some o) (removed k ∙ ap (λ (a : Bool). without_if a (changed_at es k)) among)

    by_key : (a : Bool) → is_same key front ≡ a → is_some (changed_at fs k) ≡ true
    by_key true f = of_change (ap (begins_with k) (same_bytes key front f) ∙ b) (changed_at es k) refl
    by_key false f = removed_stays es fs ks removed k (cleared front (sym (adds front ∙ ap (λ (a : Bool). cond a true (list_any (is_same front) es.cleared)) f) ∙ e) k b some)
