-- The numbers on a path, and the table at a place.
use Rattle.std.proofs.Common.{◌≡◌, ℕ, zero, suc, ◌+◌, ◌<◌, ◌≤◌, List, [], ◌∷◌, Option, Some, None, refl, ◌∙◌, ap, arith, length, length-append, map, get_or, slice_index, inl, inr}
use Rattle.std.specs.List.{All, range_with_len}
use Rattle.std.proofs.lemmas.List.Elements.{All-push}
use Rattle.std.proofs.lemmas.Option.{slice_get_cases}
use Rattle.std.proofs.lemmas.List.FromFn.{length-map-range_with_len, get_or-map-range_with_len}
use Rattle.span_schema.specs.declared.table.Table.{Table}
use Rattle.span_schema.specs.declared.layout.KeyPart.{KeyPart}
use Rattle.span_schema.specs.Lineages.{parent_at, above, path_in, path_at, MeetsRules}
use Rattle.span_schema.specs.Numbers.{IsTable, key_at, columns_above}
use Rattle.span_schema.proofs.Paths.{parent_before}
use Rattle.span_schema.proofs.Prefixes.{key_goes_on}

all_above : (P : ℕ → Type 0) (f : ℕ → List ℕ) (o : Option ℕ) → ((p : ℕ) → o ≡ Some p → All P (f p)) → All P (above f o)
all_above P f None h = λ k d less. absurd (let less0 : k < 0 = less in omega arith)
all_above P f (Some p) h = h p refl

numbers_in : (tables : List Table) (k i : ℕ) → i < length tables → All (λ n. IsTable tables n) (path_in tables k i)
numbers_in tables zero i h = λ k d less. absurd (let less0 : k < 0 = less in omega arith)
numbers_in tables (suc k) i h = All-push (λ n. IsTable tables n) (above (path_in tables k) (parent_at tables i)) (i + 1)
    (all_above (λ n. IsTable tables n) (path_in tables k) (parent_at tables i) (λ p e. let less : p < i = parent_before tables i p e in numbers_in tables k p (omega arith)))
    (omega arith, omega arith)

-- each number on a path is a table's
pub path_numbers : (tables : List Table) (i : ℕ) → i < length tables → All (λ n. IsTable tables n) (path_at tables i)
path_numbers tables i h = numbers_in tables (suc i) i h

-- a path has its own end
pub path_has : (tables : List Table) (i : ℕ) → 0 < length (path_at tables i)
path_has tables i = omega (arith, length-append (above (path_in tables i) (parent_at tables i)) ((i + 1) ∷ []))

pub root_number : (tables : List Table) (i : ℕ) → i < length tables → IsTable tables (slice_index (path_at tables i) 0)
root_number tables i h = path_numbers tables i h 0 0 (path_has tables i)

-- what a list of something for each place has at a place
pub each_at : {X : Type 0} (f : ℕ → X) (n i : ℕ) (xs : List X) (d : X) → xs ≡ map f (range_with_len 0 n) → i < n → get_or xs i d ≡ f i
each_at f n i xs d e h = ap (λ ys. get_or ys i d) e ∙ get_or-map-range_with_len f 0 n i i d h (omega arith)

pub each_length : {X : Type 0} (f : ℕ → X) (n : ℕ) (xs : List X) → xs ≡ map f (range_with_len 0 n) → length xs ≡ n
each_length f n xs e = ap length e ∙ length-map-range_with_len f 0 n

-- the columns above are in front of the key
pub above_within : (tables : List Table) → MeetsRules tables → (i : ℕ) → i < length tables → columns_above tables (parent_at tables i) ≤ length (key_at tables i)
above_within tables rules i h = in_parent (parent_at tables i) refl
  where
    in_parent : (o : Option ℕ) → parent_at tables i ≡ o → columns_above tables o ≤ length (key_at tables i)
    in_parent None e = omega arith
    in_parent (Some p) e =
        let less : p < i = parent_before tables i p e in
        elim (slice_get_cases tables i).1 [
          | inl here ↦ elim (slice_get_cases tables p).1 [
            | inl there ↦ (let goes = key_goes_on tables rules i p here.0 there.0 here.2 there.2 e in
                omega (arith, ap (length {A = KeyPart}) goes.1, length-append (key_at tables p) goes.0))
            | inr parts_after ↦ absurd (omega arith)
          ]
          | inr parts_after ↦ absurd (omega arith)
        ]
