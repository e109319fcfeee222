-- Values put at their places among the columns that a mask has are those of the whole row, picked.
use Rattle.std.proofs.Common.{◌≡◌, ℕ, zero, suc, ◌<◌, ◌≤◌, List, [], ◌∷◌, Bool, true, false, refl, sym, ◌∙◌, ap, arith, length, set, replicate, map, if◌then◌else◌}
use Rattle.std.proofs.lemmas.List.{length-replicate}
use Rattle.span_value.specs.declared.value.Value.{Value}
use Rattle.span_value.specs.declared.value.Value.TheVariants.{Null}
use Rattle.span_schema.specs.declared.table.Table.{Table}
use Rattle.span_schema.specs.Lineages.{MeetsRules}
use Rattle.span_schema.specs.Numbers.{key_places, other_places}
use Rattle.span_mutate.specs.declared.row.TableRow.{TableRow}
use Rattle.span_mutate.specs.Typed.{IsTyped}
use Rattle.span_expr.specs.Places.{rank}
use Rattle.span_leaves.specs.Leaves.{width_of}
use Rattle.span_columns.specs.Picks.{picked, picked_width}
use Rattle.span_leaves.proofs.Picked.{picked-masked}
use Rattle.span_entries.specs.Meaning.{declared_row}
use Rattle.span_rowreader.specs.Placed.{is_wanted, put, placed}
use Rattle.span_rowreader.specs.Readers.{target}
use Rattle.span_rowreader.proofs.PlacedRows.{row_placed, placed_length}

-- TRUE for each place that the mask has
abbrev pub all_of : List Bool → List Bool
all_of ms = replicate (picked_width ms) true

has_all : (n k : ℕ) → k < n → is_wanted (replicate n true) k ≡ true
has_all zero k less = absurd (omega arith)
has_all (suc n) zero less = refl
has_all (suc n) (suc k) less = has_all n k (omega arith)

has_no_more : (n k : ℕ) → n ≤ k → is_wanted (replicate n true) k ≡ false
has_no_more zero k less = refl
has_no_more (suc n) zero less = absurd (omega arith)
has_no_more (suc n) (suc k) less = has_no_more n k (omega arith)

-- a mask has no more places than its length
pub picked_width_within : (ms : List Bool) → picked_width ms ≤ length ms
picked_width_within [] = omega arith
picked_width_within (true ∷ ms) = let rest = picked_width_within ms in omega arith
picked_width_within (false ∷ ms) = let rest = picked_width_within ms in omega arith

rank_within : (ms : List Bool) (p : ℕ) → is_wanted ms p ≡ true → rank ms p < picked_width ms
rank_within [] p is = cc
rank_within (true ∷ ms) zero is = omega arith
rank_within (false ∷ ms) zero is = cc
rank_within (true ∷ ms) (suc p) is = let rest = rank_within ms p is in omega arith
rank_within (false ∷ ms) (suc p) is = rank_within ms p is

-- a value at a place that the mask has is picked at its rank
picked_set : (ms : List Bool) (p : ℕ) (v : Value) (row : List Value) → length ms ≤ length row → is_wanted ms p ≡ true → picked ms (set row p v) ≡ set (picked ms row) (rank ms p) v
picked_set [] p v row fits is = cc
picked_set (m ∷ ms) p v [] fits is = absurd (omega arith)
picked_set (true ∷ ms) zero v (x ∷ row) fits is = refl
picked_set (false ∷ ms) zero v (x ∷ row) fits is = cc
picked_set (true ∷ ms) (suc p) v (x ∷ row) fits is = ap (λ (l : List Value). x ∷ l) (picked_set ms p v row (omega arith) is)
picked_set (false ∷ ms) (suc p) v (x ∷ row) fits is = picked_set ms p v row (omega arith) is

-- nothing is picked where the mask has no place
pub none_picked : (ms : List Bool) (row : List Value) → picked_width ms ≡ 0 → picked ms row ≡ []
none_picked [] row none = refl
none_picked (true ∷ ms) row none = absurd (omega (arith, none))
none_picked (false ∷ ms) [] none = refl
none_picked (false ∷ ms) (v ∷ row) none = none_picked ms row none

picked_put : (ms : List Bool) (p : ℕ) (v : Value) (row : List Value) → length ms ≤ length row → picked ms (put ms p v row) ≡ put (all_of ms) (target ms p) v (picked ms row)
picked_put ms p v row fits = by_test (is_wanted ms p) refl
  where
    by_test : (b : Bool) → is_wanted ms p ≡ b → picked ms (if b then set row p v else row) ≡ put (all_of ms) (if b then rank ms p else length ms) v (picked ms row)
    by_test true is =
        picked_set ms p v row fits is
        ∙ sym (ap (λ (b : Bool). if b then set (picked ms row) (rank ms p) v else picked ms row) (has_all (picked_width ms) (rank ms p) (rank_within ms p is)))
    by_test false is =
        sym (ap (λ (b : Bool). if b then set (picked ms row) (length ms) v else picked ms row) (has_no_more (picked_width ms) (length ms) (picked_width_within ms)))

put_fits : (ms : List Bool) (p : ℕ) (v : Value) (row : List Value) → length ms ≤ length row → length ms ≤ length (put ms p v row)
put_fits ms p v row fits = omega (arith, fits, placed_length ms (p ∷ []) (v ∷ []) row)

picked_placed : (ms : List Bool) (ps : List ℕ) (vs row : List Value) → length ms ≤ length row → picked ms (placed ms ps vs row) ≡ placed (all_of ms) (map (target ms) ps) vs (picked ms row)
picked_placed ms [] vs row fits = refl
picked_placed ms (p ∷ ps) [] row fits = refl
picked_placed ms (p ∷ ps) (v ∷ vs) row fits =
    picked_placed ms ps vs (put ms p v row) (put_fits ms p v row fits) ∙ ap (placed (all_of ms) (map (target ms) ps) vs) (picked_put ms p v row fits)

picked_blank : (ms : List Bool) (n : ℕ) → length ms ≤ n → picked ms (replicate n Null) ≡ replicate (picked_width ms) Null
picked_blank [] n fits = refl
picked_blank (m ∷ ms) zero fits = absurd (omega arith)
picked_blank (true ∷ ms) (suc n) fits = ap (λ (l : List Value). Null ∷ l) (picked_blank ms n (omega arith))
picked_blank (false ∷ ms) (suc n) fits = picked_blank ms n (omega arith)

module _ (schema : List Table) (rules : MeetsRules schema) where
  -- the cells at their places among the columns that the mask has, and then the values of the key
  pub row_picked : (n : ℕ) (ms : List Bool) (r : TableRow) → length ms ≤ width_of schema n → IsTyped schema r → r.table ≡ n
      → placed (all_of ms) (map (target ms) (key_places schema n)) r.key (placed (all_of ms) (map (target ms) (other_places schema n)) r.cells (replicate (picked_width ms) Null)) ≡ picked ms (declared_row schema r)
  row_picked n ms r fits typed is =
      let blank : List Value = replicate (width_of schema n) Null in
      let wide : length blank ≡ width_of schema n = length-replicate (width_of schema n) Null in
      let cells : List Value = placed ms (other_places schema n) r.cells blank in
      let first : length ms ≤ length blank = omega (arith, fits, wide) in
      let second : length ms ≤ length cells = omega (arith, first, placed_length ms (other_places schema n) r.cells blank) in
      ap (λ (l : List Value). placed (all_of ms) (map (target ms) (key_places schema n)) r.key (placed (all_of ms) (map (target ms) (other_places schema n)) r.cells l)) (sym (picked_blank ms (width_of schema n) fits))
      ∙ ap (placed (all_of ms) (map (target ms) (key_places schema n)) r.key) (sym (picked_placed ms (other_places schema n) r.cells blank first))
      ∙ sym (picked_placed ms (key_places schema n) r.key cells second)
      ∙ ap (picked ms) (row_placed schema rules n ms r typed is)
      ∙ picked-masked ms (declared_row schema r)
