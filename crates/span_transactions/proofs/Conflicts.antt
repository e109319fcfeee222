-- Directories by the coded keys of their root rows.
use Rattle.std.proofs.Common.{◌≡◌, ℕ, Bool, true, false, cond, ◌&&◌, ◌||◌, ◌==◌, List, [], ◌∷◌, length, take, refl, sym, ap, subst, ◌∙◌}
use Rattle.std.specs.List.{list_any}
use Rattle.std.specs.Cmp.{both_ways}
use Rattle.std.proofs.Math.Bool.{and-false}
use Rattle.std.proofs.lemmas.Bool.{and_from, and_parts, eqb-true, eq-eqb}
use Rattle.span_value.specs.declared.value.Value.{Value}
use Rattle.span_schema.specs.declared.table.Table.{Table}
use Rattle.span_schema.specs.Lineages.{MeetsRules}
use Rattle.span_schema.specs.Numbers.{key_columns, root_of}
use Rattle.span_keycode.specs.Order.{is_same}
use Rattle.span_keycode.specs.Keys.{IsKey, key_code}
use Rattle.span_keycode.proofs.KeyLaws.{one_key}
use Rattle.span_keycode.proofs.LevelLaws.{fit_length}
use Rattle.span_keycode.proofs.Order.{same_bytes, bytes_same}
use Rattle.span_mutate.specs.declared.mutation.CheckedMutation.{CheckedMutation}
use Rattle.span_mutate.specs.Rows.{begins}
use Rattle.span_mutate.specs.Directories.{key_len}
use Rattle.span_mutate.proofs.Begins.{taken_begins, front_taken}
use Rattle.span_machine.specs.declared.slot.SlotState.{SlotState}
use Rattle.span_machine.specs.Slots.{holds, is_at, root_at, root_code}
use Rattle.span_transactions.specs.Places.{share_directory_in}
use Rattle.span_transactions.specs.Conflicts.{HasRootKey, IsRootKey, is_in_held_directory, has_directory, AddsDirectory}

-- of two mutations, one is in the directory of the other just where their directories have one coded key
module _ (schema : List Table) (rules : MeetsRules schema) (m n : CheckedMutation) (coded : HasRootKey schema m) (also : HasRootKey schema n) where
  abbrev R : ℕ
  R = root_of schema m.table

  abbrev S : ℕ
  S = root_of schema n.table

  there : is_same (root_code schema (root_at schema m)) (root_code schema (root_at schema n)) ≡ true → is_at schema (root_at schema m) n ≡ true
  unfolding root_code
  there e =
      let one = one_key schema rules R S (take (key_len schema R) m.key) (take (key_len schema S) n.key) coded also (same_bytes _ _ e) in
      and_from _ _ (eq-eqb S R (sym one.0)) (ap (λ (us : List Value). begins us n.key) one.1 ∙ taken_begins n.key (key_len schema S))

  back : is_at schema (root_at schema m) n ≡ true → is_same (root_code schema (root_at schema m)) (root_code schema (root_at schema n)) ≡ true
  unfolding root_code
  back e =
      let us = take (key_len schema R) m.key in
      let parts = and_parts (S == R) (begins us n.key) e in
      let named : S ≡ R = eqb-true S R parts.0 in
      let len : length us ≡ key_len schema R = sym (fit_length (key_columns schema R) us coded.1) in
      let taken : us ≡ take (key_len schema R) n.key = front_taken us n.key parts.1 ∙ ap (λ (j : ℕ). take j n.key) len in
      let code : key_code schema R us ≡ key_code schema S (take (key_len schema S) n.key) =
      ap (key_code schema R) taken ∙ ap (λ (t : ℕ). key_code schema t (take (key_len schema t) n.key)) (sym named) in
      bytes_same _ _ code

  one_directory : is_same (root_code schema (root_at schema m)) (root_code schema (root_at schema n)) ≡ is_at schema (root_at schema m) n
  one_directory = both_ways _ _ there back

-- ---- the coded keys of directories

-- a coding that is made of the front of a mutation's key is its directory's
pub root_coded : (schema : List Table) (m : CheckedMutation) (root len : ℕ) (values : List Value) (key : List ℕ)
    → root ≡ root_of schema m.table → len ≡ key_len schema root → values ≡ take len m.key
    → IsKey schema root values → key ≡ key_code schema root values → IsRootKey schema m key
unfolding root_code
root_coded schema m root len values key named long front is code =
    let same : values ≡ take (key_len schema root) m.key = front ∙ ap (λ (j : ℕ). take j m.key) long in
    let P : List Value → Type 0 = λ us. IsKey schema root us in
    let Q : ℕ → Type 0 = λ r. IsKey schema r (take (key_len schema r) m.key) in
    (subst Q named (subst P same is), code ∙ ap (key_code schema root) same ∙ ap (λ (r : ℕ). key_code schema r (take (key_len schema r) m.key)) named)

true_or : (b c : Bool) → cond b true c ≡ (c || b)
true_or true true = refl
true_or true false = refl
true_or false true = refl
true_or false false = refl

-- the coded key that was added is a directory's
pub added : (schema : List Table) → MeetsRules schema → (slot_state : SlotState) (m : CheckedMutation) (key : List ℕ) (old new : List (List ℕ))
    → IsRootKey schema m key → holds schema slot_state (root_at schema m) ≡ true
    → ((k : List ℕ) → list_any (is_same k) new ≡ cond (is_same key k) true (list_any (is_same k) old))
    → AddsDirectory schema slot_state m old new
added schema rules slot_state m key old new is held updated n coded =
    let code = root_code schema (root_at schema n) in
    let same : is_same key code ≡ is_at schema (root_at schema m) n = ap (λ (k : List ℕ). is_same k code) is.1 ∙ one_directory schema rules m n is.0 coded in
    updated code ∙ true_or (is_same key code) (list_any (is_same code) old)
    ∙ ap (λ b. has_directory schema old n || b) (same ∙ ap (λ b. b && is_at schema (root_at schema m) n) (sym held))

-- ---- lists

module _ {A : Type 0} (h : A → Bool) where
  never : (xs : List A) → list_any (λ x. h x && false) xs ≡ false
  never [] = refl
  never (x ∷ xs) = ap (λ b. b || list_any (λ y. h y && false) xs) (and-false (h x)) ∙ never xs

  either : (f g : A → Bool) → (xs : List A) → (list_any (λ x. h x && f x) xs || list_any (λ x. h x && g x) xs) ≡ list_any (λ x. h x && (f x || g x)) xs
  either f g [] = refl
  either f g (x ∷ xs) = cases (h x) (f x) (g x) (list_any (λ y. h y && f y) xs) (list_any (λ y. h y && g y) xs) ∙ ap (λ b. (h x && (f x || g x)) || b) (either f g xs)
    where
      cases : (a b c d e : Bool) → (((a && b) || d) || ((a && c) || e)) ≡ ((a && (b || c)) || (d || e))
      cases false b c d e = refl
      cases true true c d e = refl
      cases true false true false e = refl
      cases true false true true e = refl
      cases true false false d e = refl

  swapped : {B : Type 0} → (g : A → B → Bool) → (xs : List A) (ys : List B) → list_any (λ y. list_any (λ x. h x && g x y) xs) ys ≡ list_any (λ x. h x && list_any (g x) ys) xs
  swapped g xs [] = sym (never xs)
  swapped g xs (y ∷ ys) = ap (λ b. list_any (λ x. h x && g x y) xs || b) (swapped g xs ys) ∙ either (λ x. g x y) (λ x. list_any (g x) ys) xs

-- whichever list is gone through
pub shared_by : (schema : List Table) (slot_state : SlotState) (ms ns : List CheckedMutation) → list_any (λ n. list_any (is_in_held_directory schema slot_state n) ms) ns ≡ share_directory_in schema slot_state ms ns
shared_by schema slot_state ms ns = swapped (λ m. holds schema slot_state (root_at schema m)) (λ m n. is_at schema (root_at schema m) n) ms ns
