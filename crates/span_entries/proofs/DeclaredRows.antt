-- The values of declared rows at the places of their keys.
use Rattle.std.proofs.Common.{◌≡◌, ℕ, ◌<◌, ◌-◌, ◌+◌, ◌==◌, Bool, false, true, List, [], ◌∷◌, map, take, length, get_or, Option, Some, None, refl, ap, sym, ◌∙◌, arith, inl, inr}
use Rattle.std.specs.Prelude.{slice_get, if◌then◌else◌}
use Rattle.std.specs.List.{AllByRecursion}
use Rattle.std.specs.Option.{unwrap_or, option_or}
use Rattle.std.proofs.lemmas.List.{take-map, length-append, length-take-le}
use Rattle.std.proofs.lemmas.List.FromFn.{length-map-range_with_len, get_or-map-range_with_len}
use Rattle.std.proofs.lemmas.Option.{slice_get-get_or, slice_get_cases}
use Rattle.span_value.specs.declared.value.Value.{Value}
use Rattle.span_value.specs.declared.value.Value.TheVariants.{Null}
use Rattle.span_schema.specs.declared.table.Table.{Table}
use Rattle.span_schema.specs.declared.layout.KeyPart.{KeyPart}
use Rattle.span_schema.specs.Layouts.{key_parts}
use Rattle.span_schema.specs.Lineages.{MeetsRules, parent_in, parent_at}
use Rattle.span_schema.specs.Numbers.{root_of, columns_of, key_columns, key_places, other_places, columns_in, key_in}
use Rattle.span_keycode.proofs.LevelLaws.{fit_length, path_root}
use Rattle.span_mutate.specs.declared.row.TableRow.{TableRow}
use Rattle.span_mutate.specs.Typed.{IsTyped}
use Rattle.span_expr.specs.Operators.{column_of, or_null}
use Rattle.span_leaves.specs.Leaves.{width_of, root_places}
use Rattle.span_leaves.proofs.Cutting.{columns}
use Rattle.span_entries.specs.Meaning.{value_for, value_at, declared_row}
use Rattle.span_entries.proofs.KeyPlaces.{ArePlacesApart, has_key_columns, keyed, root_key_of}

-- ---- values at the places of the key

-- each has a value of its own
abbrev value_among : List ℕ → List Value → (ℕ → Option Value) → ℕ → Value
value_among ps vs other place = unwrap_or (option_or (value_for ps vs place) (other place)) Null

passed_over : (p : ℕ) (v : Value) (ps : List ℕ) (vs : List Value) (other : ℕ → Option Value) (qs : List ℕ) → AllByRecursion (λ (q : ℕ). (p == q) ≡ false) qs
    → map (value_among (p ∷ ps) (v ∷ vs) other) qs ≡ map (value_among ps vs other) qs
passed_over p v ps vs other [] apart = refl
passed_over p v ps vs other (q ∷ qs) apart =
    ap (λ (b : Bool). unwrap_or (option_or (if b then Some v else value_for ps vs q) (other q)) Null ∷ map (value_among (p ∷ ps) (v ∷ vs) other) qs) apart.0
    ∙ ap (λ (l : List Value). value_among ps vs other q ∷ l) (passed_over p v ps vs other qs apart.1)

values_at_own : (ps : List ℕ) (vs : List Value) (other : ℕ → Option Value) → length ps ≡ length vs → ArePlacesApart ps → map (value_among ps vs other) ps ≡ vs
values_at_own [] [] other long apart = refl
values_at_own [] (v ∷ vs) other long apart = absurd (omega arith)
values_at_own (p ∷ ps) [] other long apart = absurd (omega arith)
values_at_own (p ∷ ps) (v ∷ vs) other long apart =
    let itself : (p == p) ≡ true = grind arith in
    ap (λ (b : Bool). unwrap_or (option_or (if b then Some v else value_for ps vs p) (other p)) Null ∷ map (value_among (p ∷ ps) (v ∷ vs) other) ps) itself
    ∙ ap (λ (l : List Value). v ∷ l) (passed_over p v ps vs other ps apart.0 ∙ values_at_own ps vs other (omega arith) apart.1)

-- ---- rows as they are declared

module _ (schema : List Table) where
  pub row_width : (r : TableRow) → length (declared_row schema r) ≡ width_of schema r.table
  row_width r = length-map-range_with_len (value_at schema r) 0 (length (columns_of schema r.table))

  pub column_at : (r : TableRow) (place : ℕ) → place < width_of schema r.table → column_of (declared_row schema r) place ≡ value_at schema r place
  column_at r place within =
      let long : place < length (declared_row schema r) = omega (arith, row_width r) in
      let found : slice_get (declared_row schema r) place ≡ Some (value_at schema r place) =
      slice_get-get_or (declared_row schema r) place Null long
      ∙ ap (λ (v : Value). Some v) (get_or-map-range_with_len (value_at schema r) 0 (length (columns_of schema r.table)) place place Null within (omega arith)) in
      ap or_null found

  columns_at : (r : TableRow) (places : List ℕ) → AllByRecursion (λ (p : ℕ). p < width_of schema r.table) places → columns places (declared_row schema r) ≡ map (value_at schema r) places
  columns_at r [] within = refl
  columns_at r (p ∷ ps) within =
      ap (λ (v : Value). v ∷ columns ps (declared_row schema r)) (column_at r p within.0) ∙ ap (λ (l : List Value). value_at schema r p ∷ l) (columns_at r ps within.1)

module _ (schema : List Table) (rules : MeetsRules schema) where
  -- the columns at the places of the key have the values of the key
  pub key_of_columns : (r : TableRow) → IsTyped schema r → columns (key_places schema r.table) (declared_row schema r) ≡ r.key
  key_of_columns r typed =
      let has = has_key_columns schema rules r.table (omega (arith, typed.0.0.0.0, typed.0.0.0.1)) in
      let long : length (key_places schema r.table) ≡ length r.key = has.placed ∙ fit_length (key_columns schema r.table) r.key typed.0.0.1 in
      columns_at schema r (key_places schema r.table) (keyed schema r.table)
      ∙ values_at_own (key_places schema r.table) r.key (value_for (other_places schema r.table) r.cells) long has.apart

  -- those at the places of the root key have the values of the root row's key
  pub root_of_columns : (r : TableRow) → IsTyped schema r → columns (root_places schema r.table) (declared_row schema r) ≡ take (length (key_columns schema (root_of schema r.table))) r.key
  root_of_columns r typed =
      let count : ℕ = length (key_columns schema (root_of schema r.table)) in
      sym (take-map (column_of (declared_row schema r)) count (key_places schema r.table)) ∙ ap (take count) (key_of_columns r typed)

-- ---- the places of root keys

-- tables of a family have root keys of one length, also where they are no tables of the schema
pub root_places_long : (schema : List Table) → MeetsRules schema → (t : ℕ) → length (root_places schema t) ≡ length (key_columns schema (root_of schema t))
root_places_long schema rules t = elim (slice_get_cases schema (t - 1)).1 [
  | inl here ↦ (
      let has = has_key_columns schema rules t here.1 in
      let begins = root_key_of schema rules t here.1 in
      let sum : length (key_columns schema t) ≡ length (key_columns schema (root_of schema t)) + length begins.rest = ap (λ (l : List KeyPart). length l) begins.key ∙ length-append (key_columns schema (root_of schema t)) begins.rest in
      length-take-le (length (key_columns schema (root_of schema t))) (key_places schema t) (omega (arith, sum, has.placed)))
  | inr gone ↦ (
      let alone : parent_at schema (t - 1) ≡ None = ap (parent_in (take (t - 1) schema)) gone.1 in
      let own : root_of schema t ≡ t - 1 + 1 = ap (λ (ns : List ℕ). get_or ns 0 0) (path_root schema (t - 1) alone) in
      let place : root_of schema t - 1 ≡ t - 1 = omega (arith, own) in
      let none : key_columns schema (root_of schema t) ≡ [] = ap (λ (i : ℕ). key_parts (columns_in (slice_get schema i)) (key_in (slice_get schema i))) place ∙ ap (λ (o : Option Table). key_parts (columns_in o) (key_in o)) gone.1 in
      ap (λ (l : List KeyPart). length (take (length l) (key_places schema t))) none ∙ sym (ap (λ (l : List KeyPart). length l) none))
]
