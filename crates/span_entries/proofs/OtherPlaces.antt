-- The places of the columns outside a key.
use Rattle.std.proofs.Common.{◌≡◌, ℕ, suc, ◌+◌, ◌<◌, ◌==◌, List, [], ◌∷◌, Bool, true, false, refl, ap, arith, length, if◌then◌else◌}
use Rattle.std.specs.List.{AllByRecursion}
use Rattle.std.proofs.lemmas.Bool.{ne_eqb}
use Rattle.span_schema.specs.declared.table.Table.{Table}
use Rattle.span_schema.specs.declared.table.Column.{Column}
use Rattle.span_schema.specs.declared.table.KeyColumn.{KeyColumn}
use Rattle.span_schema.specs.Tables.{kind_of, is_key_name}
use Rattle.span_schema.specs.Layouts as layout
use Rattle.span_schema.specs.Numbers.{columns_of, key_in, table_at, other_places, other_kinds}
use Rattle.span_entries.proofs.KeyPlaces.{ArePlacesApart}

same_count : (key : List KeyColumn) (i : ℕ) (cs : List Column) → length (layout.other_kinds key cs) ≡ length (layout.other_places key i cs)
same_count key i [] = refl
same_count key i (c ∷ cs) = by_test (is_key_name key c.name) (same_count key (i + 1) cs)
  where
    by_test : (b : Bool) → length (layout.other_kinds key cs) ≡ length (layout.other_places key (i + 1) cs)
        → length (if b then layout.other_kinds key cs else kind_of c.kind ∷ layout.other_kinds key cs) ≡ length (if b then layout.other_places key (i + 1) cs else i ∷ layout.other_places key (i + 1) cs)
    by_test true e = e
    by_test false e = ap suc e

-- each other column has a place
pub others_placed : (schema : List Table) (n : ℕ) → length (other_kinds schema n) ≡ length (other_places schema n)
others_placed schema n = same_count (key_in (table_at schema n)) 0 (columns_of schema n)

later : (key : List KeyColumn) (m i : ℕ) (cs : List Column) → m < i → AllByRecursion (λ (q : ℕ). (m == q) ≡ false) (layout.other_places key i cs)
later key m i [] less = tt {0}
later key m i (c ∷ cs) less = by_test (is_key_name key c.name) (later key m (i + 1) cs (omega arith))
  where
    by_test : (b : Bool) → AllByRecursion (λ (q : ℕ). (m == q) ≡ false) (layout.other_places key (i + 1) cs)
        → AllByRecursion (λ (q : ℕ). (m == q) ≡ false) (if b then layout.other_places key (i + 1) cs else i ∷ layout.other_places key (i + 1) cs)
    by_test true rest = rest
    by_test false rest = (ne_eqb m i (λ e. omega (arith, e, less)), rest)

apart_from : (key : List KeyColumn) (i : ℕ) (cs : List Column) → ArePlacesApart (layout.other_places key i cs)
apart_from key i [] = tt {0}
apart_from key i (c ∷ cs) = by_test (is_key_name key c.name) (apart_from key (i + 1) cs)
  where
    by_test : (b : Bool) → ArePlacesApart (layout.other_places key (i + 1) cs) → ArePlacesApart (if b then layout.other_places key (i + 1) cs else i ∷ layout.other_places key (i + 1) cs)
    by_test true rest = rest
    by_test false rest = (later key i (i + 1) cs (omega arith), rest)

pub others_apart : (schema : List Table) (n : ℕ) → ArePlacesApart (other_places schema n)
others_apart schema n = apart_from (key_in (table_at schema n)) 0 (columns_of schema n)
