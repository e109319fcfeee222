-- The rows of a leaf's tables, and whether they are in a range that bounds of the first key column narrow.
use Rattle.std.proofs.Common.{◌≡◌, ℕ, Bool, true, false, not, ◌&&◌, List, [], ◌∷◌, Option, Some, refl, ap, sym, subst, ◌∙◌}
use Rattle.std.specs.Cmp.{both_ways as same_tests}
use Rattle.std.specs.List.{fold, list_all}
use Rattle.std.specs.Ordering.{is_lt}
use Rattle.std.specs.declared.cmp.Ordering.{Ordering}
use Rattle.std.specs.declared.cmp.Ordering.TheVariants.{Less, Equal, Greater}
use Rattle.std.proofs.lemmas.Bool.{and_parts, and_from, false_from_ne_true}
use Rattle.std.proofs.Math.Bool.{and-true}
use Rattle.span_value.specs.declared.value.Value.{Value}
use Rattle.span_schema.specs.declared.table.Table.{Table}
use Rattle.span_schema.specs.declared.layout.KeyPart.{KeyPart}
use Rattle.span_schema.specs.Lineages.{MeetsRules}
use Rattle.span_schema.specs.Numbers.{root_of, key_columns, own_key_columns}
use Rattle.span_keycode.specs.declared.range.KeyRange.{KeyRange}
use Rattle.span_keycode.specs.Coding.{AreFit, Fits}
use Rattle.span_keycode.specs.Keys.{IsKey, key_code}
use Rattle.span_keycode.specs.Order.{byte_order}
use Rattle.span_keycode.specs.Parts.{family, is_between, is_within, part_between}
use Rattle.span_keycode.specs.Ranges.{compares, range_start, range_end}
use Rattle.span_keycode.proofs.FamilyRanges.{range_of_comparison}
use Rattle.span_keycode.proofs.PartLaws.{part_within, within_part}
use Rattle.span_mutate.specs.declared.row.TableRow.{TableRow}
use Rattle.span_mutate.specs.Typed.{IsTyped}
use Rattle.span_expr.specs.Operators.{column_of}
use Rattle.span_leaves.specs.Ranges.{KeyBound, is_of_type, bounded, range_by}
use Rattle.span_leaves.proofs.Bounding.{fits_type, is_in_bounds}
use Rattle.span_leaves.proofs.Cutting.{columns}
use Rattle.span_machine.specs.Meaning.{declared_row, row_within}
use Rattle.span_machine_laws.proofs.FamilyRows.{root_first, first_within}
use Rattle.span_machine_laws.proofs.FirstColumns.{first_place, IsOfFamily}
use Rattle.span_entries.proofs.DeclaredRows.{key_of_columns}

module _ (schema : List Table) (rules : MeetsRules schema) where
  -- ---- ranges that are narrowed by bounds of the first key column

  module _ (root : ℕ) (part : KeyPart) (cs : List KeyPart) (own : own_key_columns schema root ≡ part ∷ cs) where
    less_is : (o : Ordering) → o ≡ Less → is_lt o ≡ true
    less_is o is = ap is_lt is

    is_less : (o : Ordering) → is_lt o ≡ true → o ≡ Less
    is_less Less is = refl
    is_less Equal is = absurd (let e : false ≡ true = is in cc)
    is_less Greater is = absurd (let e : false ≡ true = is in cc)

    -- the key is within a bound's range just where its first value passes
    within_bound : (t : ℕ) (v : Value) (vs : List Value) → IsKey schema t (v ∷ vs) → root_of schema t ≡ root → (b : KeyBound) → is_of_type part.kind b.1 ≡ true
        → is_between (Some (range_start root part b.0 b.1)) (Some (range_end root part b.0 b.1)) (key_code schema t (v ∷ vs)) ≡ compares b.0 v b.1
    unfolding is_between
    within_bound t v vs key root_is b typed =
        let code : List ℕ = key_code schema t (v ∷ vs) in
        let low : List ℕ = range_start root part b.0 b.1 in
        let high : List ℕ = range_end root part b.0 b.1 in
        let law = range_of_comparison schema rules t v vs key root part cs root_is own b.1 (fits_type part.kind b.1 typed) b.0 in
        same_tests (not (is_lt (byte_order code low)) && is_lt (byte_order code high)) (compares b.0 v b.1)
        (λ inside. let both = and_parts (not (is_lt (byte_order code low))) (is_lt (byte_order code high)) inside in
        law.0 ((λ less. let bad : false ≡ true = sym (ap not (less_is (byte_order code low) less)) ∙ both.0 in cc), is_less (byte_order code high) both.1))
        (λ passes. let inside = law.1 passes in
        and_from (not (is_lt (byte_order code low))) (is_lt (byte_order code high))
        (ap not (false_from_ne_true (is_lt (byte_order code low)) (λ less. inside.0 (is_less (byte_order code low) less)))) (less_is (byte_order code high) inside.1))

    part_as_both : (lo hi : Option (List ℕ)) (r : KeyRange) (k : List ℕ) → is_within (part_between lo hi r) k ≡ (is_between lo hi k && is_within r k)
    part_as_both lo hi r k =
        same_tests (is_within (part_between lo hi r) k) (is_between lo hi k && is_within r k)
        (λ inside. let both = part_within lo hi r k inside in and_from (is_between lo hi k) (is_within r k) both.0 both.1)
        (λ both. let parts = and_parts (is_between lo hi k) (is_within r k) both in within_part lo hi r k parts.0 parts.1)

    within_bounds : (t : ℕ) (v : Value) (vs : List Value) → IsKey schema t (v ∷ vs) → root_of schema t ≡ root → (bs : List KeyBound) → list_all (λ (b : KeyBound). is_of_type part.kind b.1) bs ≡ true → (r : KeyRange)
        → is_within (fold (bounded root part) r bs) (key_code schema t (v ∷ vs)) ≡ (is_within r (key_code schema t (v ∷ vs)) && is_in_bounds bs v)
    within_bounds t v vs key root_is [] typed r = sym (and-true (is_within r (key_code schema t (v ∷ vs))))
    within_bounds t v vs key root_is (b ∷ bs) typed r =
        let both = and_parts (is_of_type part.kind b.1) (list_all (λ (b : KeyBound). is_of_type part.kind b.1) bs) typed in
        let code : List ℕ = key_code schema t (v ∷ vs) in
        within_bounds t v vs key root_is bs both.1 (bounded root part r b)
        ∙ ap (λ (x : Bool). x && is_in_bounds bs v) (part_as_both (Some (range_start root part b.0 b.1)) (Some (range_end root part b.0 b.1)) r code)
        ∙ ap (λ (x : Bool). (x && is_within r code) && is_in_bounds bs v) (within_bound t v vs key root_is b both.0)
        ∙ turned (compares b.0 v b.1) (is_within r code) (is_in_bounds bs v)
      where
        turned : (a b c : Bool) → ((a && b) && c) ≡ (b && (a && c))
        turned true true c = refl
        turned true false c = refl
        turned false true c = refl
        turned false false c = refl

    -- THE LAW OF CODED RANGES: a row is in a range that bounds narrow just where its first key column passes them
    pub row_in_bounds : (bs : List KeyBound) → list_all (λ (b : KeyBound). is_of_type part.kind b.1) bs ≡ true → (r : TableRow) → IsTyped schema r → (of : IsOfFamily schema root part r.table)
        → row_within schema (range_by root part bs) r ≡ is_in_bounds bs (column_of (declared_row schema r) (first_place schema r.table))
    row_in_bounds bs typed_bounds r typed of = by_key r.key refl (subst (λ (ps : List ℕ). columns ps (declared_row schema r) ≡ r.key) of.places_are (key_of_columns schema rules r typed))
      where
        by_key : (vs : List Value) → r.key ≡ vs → columns (first_place schema r.table ∷ of.places) (declared_row schema r) ≡ r.key → row_within schema (range_by root part bs) r ≡ is_in_bounds bs (column_of (declared_row schema r) (first_place schema r.table))
        by_key [] is values = absurd (let bad : column_of (declared_row schema r) (first_place schema r.table) ∷ columns of.places (declared_row schema r) ≡ [] = values ∙ is in cc)
        by_key (v ∷ vs) is values =
            let all : column_of (declared_row schema r) (first_place schema r.table) ∷ columns of.places (declared_row schema r) ≡ v ∷ vs = values ∙ is in
            let first : column_of (declared_row schema r) (first_place schema r.table) ≡ v = cc in
            let key : IsKey schema r.table (v ∷ vs) = subst (IsKey schema r.table) is typed.0.0 in
            let code : List ℕ = key_code schema r.table (v ∷ vs) in
            let front = root_first schema r.table (v ∷ vs) in
            let within : is_within (family root) code ≡ true =
            subst (λ (k : List ℕ). is_within (family root) k ≡ true) (sym (front.1 ∙ ap (λ (n : ℕ). n ∷ front.0) of.root_is)) (first_within root front.0) in
            ap (λ (us : List Value). is_within (range_by root part bs) (key_code schema r.table us)) is
            ∙ within_bounds r.table v vs key of.root_is bs typed_bounds (family root)
            ∙ ap (λ (x : Bool). x && is_in_bounds bs v) within
            ∙ ap (is_in_bounds bs) (sym first)

  -- the first key column fits its kind
  pub first_fits : (root : ℕ) (part : KeyPart) (r : TableRow) → IsTyped schema r → (of : IsOfFamily schema root part r.table) → Fits part.kind (column_of (declared_row schema r) (first_place schema r.table))
  first_fits root part r typed of = by_key r.key refl (subst (λ (ps : List ℕ). columns ps (declared_row schema r) ≡ r.key) of.places_are (key_of_columns schema rules r typed))
    where
      by_key : (vs : List Value) → r.key ≡ vs → columns (first_place schema r.table ∷ of.places) (declared_row schema r) ≡ r.key → Fits part.kind (column_of (declared_row schema r) (first_place schema r.table))
      by_key [] is values = absurd (let bad : column_of (declared_row schema r) (first_place schema r.table) ∷ columns of.places (declared_row schema r) ≡ [] = values ∙ is in cc)
      by_key (v ∷ vs) is values =
          let all : column_of (declared_row schema r) (first_place schema r.table) ∷ columns of.places (declared_row schema r) ≡ v ∷ vs = values ∙ is in
          let first : v ≡ column_of (declared_row schema r) (first_place schema r.table) = cc in
          let fit : AreFit (part ∷ of.parts) (v ∷ vs) = subst (λ (ps : List KeyPart). AreFit ps (v ∷ vs)) of.columns_are (subst (AreFit (key_columns schema r.table)) is typed.0.0.1) in
          subst (Fits part.kind) first fit.0
