-- A row whose values were put at their places is the row as it is declared, as far as the mask has its places.
use Rattle.std.proofs.Common.{◌≡◌, ◌≢◌, ℕ, zero, suc, ◌<◌, ◌==◌, List, [], ◌∷◌, Bool, true, false, Option, Some, None, refl, sym, ◌∙◌, ap, subst, arith, length, get_or, set, replicate, if◌then◌else◌, inl, inr}
use Rattle.std.specs.List.{AllByRecursion}
use Rattle.std.specs.Option.{unwrap_or, option_or}
use Rattle.std.proofs.lemmas.Bool.{ne_eqb, eq-eqb, cases_eq}
use Rattle.std.proofs.lemmas.Bool.Decides.{nat_tests}
use Rattle.std.proofs.lemmas.List.{ext_get_or, get_or-set_same, get_or-set_other, length-set, length-replicate, get_or-replicate}
use Rattle.std.proofs.lemmas.List.FromFn.{get_or-map-range_with_len}
use Rattle.span_value.specs.declared.value.Value.{Value}
use Rattle.span_value.specs.declared.value.Value.TheVariants.{Null}
use Rattle.span_schema.specs.declared.table.Table.{Table}
use Rattle.span_schema.specs.Lineages.{MeetsRules}
use Rattle.span_schema.specs.Numbers.{key_places, other_places}
use Rattle.span_mutate.specs.declared.row.TableRow.{TableRow}
use Rattle.span_mutate.specs.Typed.{IsTyped}
use Rattle.span_leaves.specs.Leaves.{width_of}
use Rattle.span_leaves.specs.Masks.{masked}
use Rattle.span_entries.specs.Meaning.{value_for, value_at, declared_row}
use Rattle.span_entries.proofs.OtherPlaces.{others_apart}
use Rattle.span_rowreader.specs.Placed.{is_wanted, put, placed}
use Rattle.span_entries.proofs.KeyPlaces.{ArePlacesApart, has_key_columns}
use Rattle.span_entries.proofs.DeclaredRows.{row_width}

-- ---- what is at a place

put_length : (ms : List Bool) (p : ℕ) (v : Value) (row : List Value) → length (put ms p v row) ≡ length row
put_length ms p v row = by_test (is_wanted ms p)
  where
    by_test : (b : Bool) → length (if b then set row p v else row) ≡ length row
    by_test true = length-set row p v
    by_test false = refl

pub placed_length : (ms : List Bool) (ps : List ℕ) (vs row : List Value) → length (placed ms ps vs row) ≡ length row
placed_length ms [] vs row = refl
placed_length ms (p ∷ ps) [] row = refl
placed_length ms (p ∷ ps) (v ∷ vs) row = placed_length ms ps vs (put ms p v row) ∙ put_length ms p v row

-- the value for a place, or else that of the row
abbrev value_or : List ℕ → List Value → ℕ → Value → Value
value_or ps vs place other = unwrap_or (value_for ps vs place) other

put_here : (ms : List Bool) (p : ℕ) (v : Value) (row : List Value) → p < length row → get_or (put ms p v row) p Null ≡ (if is_wanted ms p then v else get_or row p Null)
put_here ms p v row within = by_test (is_wanted ms p)
  where
    by_test : (b : Bool) → get_or (if b then set row p v else row) p Null ≡ (if b then v else get_or row p Null)
    by_test true = get_or-set_same row p v Null within
    by_test false = refl

put_elsewhere : (ms : List Bool) (p q : ℕ) (v : Value) (row : List Value) → q ≢ p → get_or (put ms p v row) q Null ≡ get_or row q Null
put_elsewhere ms p q v row other = by_test (is_wanted ms p)
  where
    by_test : (b : Bool) → get_or (if b then set row p v else row) q Null ≡ get_or row q Null
    by_test true = get_or-set_other row p q v Null other
    by_test false = refl

-- no value is for a place that is not among these
none_for : (ps : List ℕ) (vs : List Value) (p : ℕ) → AllByRecursion (λ (q : ℕ). (p == q) ≡ false) ps → value_for ps vs p ≡ None
none_for [] vs p apart = refl
none_for (q ∷ ps) [] p apart = refl
none_for (q ∷ ps) (v ∷ vs) p apart =
    let other : (q == p) ≡ false = turned q p apart.0 in
    ap (λ (b : Bool). if b then Some v else value_for ps vs p) other ∙ none_for ps vs p apart.1
  where
    turned : (q p : ℕ) → (p == q) ≡ false → (q == p) ≡ false
    turned q p e = grind (arith, nat_tests)

-- the value at a place, where the row has another
abbrev seen : List Bool → List ℕ → List Value → ℕ → Value → Value
seen ms ps vs q other = if is_wanted ms q then value_or ps vs q other else other

pub placed_at : (ms : List Bool) (ps : List ℕ) (vs row : List Value) (q : ℕ) → ArePlacesApart ps → q < length row
    → get_or (placed ms ps vs row) q Null ≡ (if is_wanted ms q then value_or ps vs q (get_or row q Null) else get_or row q Null)
placed_at ms [] vs row q apart within = by_test (is_wanted ms q)
  where
    by_test : (b : Bool) → get_or row q Null ≡ (if b then get_or row q Null else get_or row q Null)
    by_test true = refl
    by_test false = refl
placed_at ms (p ∷ ps) [] row q apart within = by_test (is_wanted ms q)
  where
    by_test : (b : Bool) → get_or row q Null ≡ (if b then get_or row q Null else get_or row q Null)
    by_test true = refl
    by_test false = refl
placed_at ms (p ∷ ps) (v ∷ vs) row q apart within =
    let again = placed_at ms ps vs (put ms p v row) q apart.1 (omega (arith, within, put_length ms p v row)) in
    elim (cases_eq p q) [ inl same ↦ again ∙ here same | inr other ↦ again ∙ elsewhere other ]
  where
    here : p ≡ q → seen ms ps vs q (get_or (put ms p v row) q Null) ≡ (if is_wanted ms q then value_or (p ∷ ps) (v ∷ vs) q (get_or row q Null) else get_or row q Null)
    here same =
        let P : ℕ → Type 0 = λ x. AllByRecursion (λ (y : ℕ). (x == y) ≡ false) ps in
        let free : value_for ps vs q ≡ None = none_for ps vs q (subst P same apart.0) in
        let long : p < length row = omega (arith, same, within) in
        let at : get_or (put ms p v row) q Null ≡ (if is_wanted ms q then v else get_or row q Null) =
        subst (λ (x : ℕ). get_or (put ms p v row) x Null ≡ (if is_wanted ms x then v else get_or row x Null)) same (put_here ms p v row long) in
        let mine : value_or (p ∷ ps) (v ∷ vs) q (get_or row q Null) ≡ v = ap (λ (b : Bool). unwrap_or (if b then Some v else value_for ps vs q) (get_or row q Null)) (eq-eqb p q same) in
        by_test (is_wanted ms q) (get_or (put ms p v row) q Null) (value_for ps vs q) (value_or (p ∷ ps) (v ∷ vs) q (get_or row q Null)) free at mine
      where
        by_test : (b : Bool) (x : Value) (o : Option Value) (z : Value) → o ≡ None → x ≡ (if b then v else get_or row q Null) → z ≡ v
            → (if b then unwrap_or o x else x) ≡ (if b then z else get_or row q Null)
        by_test true x o z free at mine = ap (λ (y : Option Value). unwrap_or y x) free ∙ at ∙ sym mine
        by_test false x o z free at mine = at

    elsewhere : p ≢ q → seen ms ps vs q (get_or (put ms p v row) q Null) ≡ (if is_wanted ms q then value_or (p ∷ ps) (v ∷ vs) q (get_or row q Null) else get_or row q Null)
    elsewhere other =
        let at : get_or (put ms p v row) q Null ≡ get_or row q Null = put_elsewhere ms p q v row (λ e. other (sym e)) in
        ap (λ (x : Value). if is_wanted ms q then value_or ps vs q x else x) at
        ∙ ap (λ (o : Option Value). if is_wanted ms q then unwrap_or o (get_or row q Null) else get_or row q Null) (sym (ap (λ (b : Bool). if b then Some v else value_for ps vs q) (ne_eqb p q other)))

pub masked_at : (ms : List Bool) (vs : List Value) (q : ℕ) → q < length vs → get_or (masked ms vs) q Null ≡ (if is_wanted ms q then get_or vs q Null else Null)
masked_at ms [] q within = absurd (let less : q < 0 = within in omega arith)
masked_at [] (v ∷ vs) zero within = refl
masked_at [] (v ∷ vs) (suc q) within = masked_at [] vs q (omega arith)
masked_at (true ∷ ms) (v ∷ vs) zero within = refl
masked_at (true ∷ ms) (v ∷ vs) (suc q) within = masked_at ms vs q (omega arith)
masked_at (false ∷ ms) (v ∷ vs) zero within = refl
masked_at (false ∷ ms) (v ∷ vs) (suc q) within = masked_at ms vs q (omega arith)

pub masked_length : (ms : List Bool) (vs : List Value) → length (masked ms vs) ≡ length vs
masked_length ms [] = refl
masked_length [] (v ∷ vs) = ap suc (masked_length [] vs)
masked_length (true ∷ ms) (v ∷ vs) = ap suc (masked_length ms vs)
masked_length (false ∷ ms) (v ∷ vs) = ap suc (masked_length ms vs)

-- ---- the row

one_value : (b : Bool) (o p : Option Value) → (if b then unwrap_or o (if b then unwrap_or p Null else Null) else (if b then unwrap_or p Null else Null)) ≡ (if b then unwrap_or (option_or o p) Null else Null)
one_value true None p = refl
one_value true (Some v) p = refl
one_value false o p = refl

abbrev blank : List Table → ℕ → List Value
blank schema n = replicate (width_of schema n) Null

abbrev cells_placed : List Table → List Bool → TableRow → List Value
cells_placed schema ms r = placed ms (other_places schema r.table) r.cells (blank schema r.table)

module _ (schema : List Table) (rules : MeetsRules schema) where
  -- the cells at their places, and then the values of the key
  pub row_placed : (n : ℕ) (ms : List Bool) (r : TableRow) → IsTyped schema r → r.table ≡ n
      → placed ms (key_places schema n) r.key (placed ms (other_places schema n) r.cells (replicate (width_of schema n) Null)) ≡ masked ms (declared_row schema r)
  row_placed n ms r typed is = subst (λ (t : ℕ). placed ms (key_places schema t) r.key (placed ms (other_places schema t) r.cells (replicate (width_of schema t) Null)) ≡ masked ms (declared_row schema r)) is by_own
    where
      blank_long : length (blank schema r.table) ≡ width_of schema r.table
      blank_long = length-replicate (width_of schema r.table) Null

      cells_long : length (cells_placed schema ms r) ≡ width_of schema r.table
      cells_long = placed_length ms (other_places schema r.table) r.cells (blank schema r.table) ∙ blank_long

      key_long : length (placed ms (key_places schema r.table) r.key (cells_placed schema ms r)) ≡ width_of schema r.table
      key_long = placed_length ms (key_places schema r.table) r.key (cells_placed schema ms r) ∙ cells_long

      row_long : length (masked ms (declared_row schema r)) ≡ width_of schema r.table
      row_long = masked_length ms (declared_row schema r) ∙ row_width schema r

      at_place : (q : ℕ) → q < width_of schema r.table → get_or (placed ms (key_places schema r.table) r.key (cells_placed schema ms r)) q Null ≡ get_or (masked ms (declared_row schema r)) q Null
      at_place q within =
          let has = has_key_columns schema rules r.table (omega (arith, typed.0.0.0.0, typed.0.0.0.1)) in
          let key = placed_at ms (key_places schema r.table) r.key (cells_placed schema ms r) q has.apart (omega (arith, cells_long, within)) in
          let other = placed_at ms (other_places schema r.table) r.cells (blank schema r.table) q (others_apart schema r.table) (omega (arith, blank_long, within)) in
          let null : get_or (blank schema r.table) q Null ≡ Null = get_or-replicate (width_of schema r.table) q Null Null within in
          let cell : get_or (cells_placed schema ms r) q Null ≡ (if is_wanted ms q then value_or (other_places schema r.table) r.cells q Null else Null) =
          other ∙ ap (λ (x : Value). if is_wanted ms q then value_or (other_places schema r.table) r.cells q x else x) null in
          let declared : get_or (declared_row schema r) q Null ≡ value_at schema r q = get_or-map-range_with_len (value_at schema r) 0 (width_of schema r.table) q q Null within (omega arith) in
          key ∙ ap (λ (x : Value). if is_wanted ms q then value_or (key_places schema r.table) r.key q x else x) cell
          ∙ one_value (is_wanted ms q) (value_for (key_places schema r.table) r.key q) (value_for (other_places schema r.table) r.cells q)
          ∙ sym (masked_at ms (declared_row schema r) q (omega (arith, row_width schema r, within)) ∙ ap (λ (x : Value). if is_wanted ms q then x else Null) declared)

      by_own : placed ms (key_places schema r.table) r.key (cells_placed schema ms r) ≡ masked ms (declared_row schema r)
      by_own = ext_get_or Null (placed ms (key_places schema r.table) r.key (cells_placed schema ms r)) (masked ms (declared_row schema r)) (key_long ∙ sym row_long) (λ q h. at_place q (omega (arith, h, key_long)))
