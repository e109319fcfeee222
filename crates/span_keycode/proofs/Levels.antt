-- Keys, level by level.
use Rattle.std.proofs.Common.{◌≡◌, ℕ, zero, suc, ◌+◌, ◌<◌, ◌≤◌, List, [], ◌∷◌, ◌++◌, Option, Some, None, refl, sym, ◌∙◌, ap, subst, arith, length, length-append, map, drop, inl, inr, add-sub_cancel}
use Rattle.std.specs.List.{AllByRecursion}
use Rattle.std.proofs.lemmas.Option.{slice_get_cases}
use Rattle.std.proofs.Math.Seq.{drop-append_seam}
use Rattle.span_value.specs.declared.value.Value.{Value}
use Rattle.span_schema.specs.declared.table.Table.{Table}
use Rattle.span_schema.specs.declared.layout.KeyPart.{KeyPart}
use Rattle.span_schema.specs.Lineages.{parent_at, above, path_at, MeetsRules}
use Rattle.span_schema.specs.Numbers.{key_at, key_columns, own_key_at, columns_above}
use Rattle.span_schema.proofs.Paths.{parent_before, path_goes_on}
use Rattle.span_schema.proofs.Prefixes.{key_goes_on}
use Rattle.span_keycode.specs.Keys.{Level, level_of}

-- what holds of a table where it holds of its parent holds of each
pub by_parents : (tables : List Table) (P : ℕ → Type 0) → ((i : ℕ) → ((p : ℕ) → parent_at tables i ≡ Some p → P p) → P i) → (i : ℕ) → P i
by_parents tables P step i = below (suc i) i (omega arith)
  where
    below : (n i : ℕ) → i < n → P i
    below zero i h = absurd (omega arith)
    below (suc n) i h = step i (λ p e. let less : p < i = parent_before tables i p e in below n p (omega arith))

-- the key of a child is that of its parent, and its own columns
pub key_split : (tables : List Table) → MeetsRules tables → (i p : ℕ) → i < length tables → parent_at tables i ≡ Some p
    → key_at tables i ≡ key_at tables p ++ own_key_at tables i
key_split tables rules i p h e =
    let less : p < i = parent_before tables i p e in
    elim (slice_get_cases tables i).1 [
      | inl here ↦ elim (slice_get_cases tables p).1 [
        | inl there ↦ (let goes = key_goes_on tables rules i p here.0 there.0 here.2 there.2 e in
            goes.1 ∙ ap (λ (own : List KeyPart). key_at tables p ++ own)
            (sym (ap (λ (o : Option ℕ). drop (columns_above tables o) (key_at tables i)) e ∙ ap (drop (length (key_at tables p))) goes.1 ∙ drop-append_seam (key_at tables p) goes.0)))
        | inr gone ↦ absurd (omega arith)
      ]
      | inr gone ↦ absurd (omega arith)
    ]

pub key_root : (tables : List Table) (i : ℕ) → parent_at tables i ≡ None → own_key_at tables i ≡ key_at tables i
key_root tables i e = ap (λ (o : Option ℕ). drop (columns_above tables o) (key_at tables i)) e

-- the levels of the table at a place
abbrev pub levels_at : List Table → ℕ → List Value → List Level
levels_at tables i vs = map (level_of tables vs) (path_at tables i)

-- each table on a path has no more key columns than the last
abbrev pub IsShort : List Table → ℕ → ℕ → Type 0
IsShort tables most n = length (key_columns tables n) ≤ most

all_shorter : (tables : List Table) (ns : List ℕ) (a b : ℕ) → a ≤ b → AllByRecursion (IsShort tables a) ns → AllByRecursion (IsShort tables b) ns
all_shorter tables [] a b h f = tt
all_shorter tables (n ∷ ns) a b h f = (omega (arith, f.0), all_shorter tables ns a b h f.1)

all_push : (tables : List Table) (ns : List ℕ) (n a : ℕ) → AllByRecursion (IsShort tables a) ns → IsShort tables a n → AllByRecursion (IsShort tables a) (ns ++ n ∷ [])
all_push tables [] n a f h = (h, tt)
all_push tables (m ∷ ns) n a f h = (f.0, all_push tables ns n a f.1 h)

pub keys_short : (tables : List Table) → MeetsRules tables → (i : ℕ) → i < length tables → AllByRecursion (IsShort tables (length (key_at tables i))) (path_at tables i)
keys_short tables rules = by_parents tables (λ i. i < length tables → AllByRecursion (IsShort tables (length (key_at tables i))) (path_at tables i)) step
  where
    own : (i : ℕ) → IsShort tables (length (key_at tables i)) (i + 1)
    own i = let e : length (key_columns tables (i + 1)) ≡ length (key_at tables i) = ap (λ (k : ℕ). length (key_at tables k)) (add-sub_cancel i 1) in omega arith

    step : (i : ℕ) → ((p : ℕ) → parent_at tables i ≡ Some p → p < length tables → AllByRecursion (IsShort tables (length (key_at tables p))) (path_at tables p))
        → i < length tables → AllByRecursion (IsShort tables (length (key_at tables i))) (path_at tables i)
    step i again h =
        let P : List ℕ → Type 0 = AllByRecursion (IsShort tables (length (key_at tables i))) in
        subst P (sym (path_goes_on tables i)) (all_push tables (above (path_at tables) (parent_at tables i)) (i + 1) (length (key_at tables i)) (front (parent_at tables i) refl) (own i))
      where
        front : (o : Option ℕ) → parent_at tables i ≡ o → AllByRecursion (IsShort tables (length (key_at tables i))) (above (path_at tables) o)
        front None e = tt
        front (Some p) e =
            let less : p < i = parent_before tables i p e in
            let more : length (key_at tables p) ≤ length (key_at tables i) = omega (arith, ap (length {A = KeyPart}) (key_split tables rules i p h e), length-append (key_at tables p) (own_key_at tables i)) in
            all_shorter tables (path_at tables p) (length (key_at tables p)) (length (key_at tables i)) more (again p e (omega arith))
