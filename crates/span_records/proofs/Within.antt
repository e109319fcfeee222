-- The places of columns are those of columns.
use Rattle.std.proofs.Common.{◌≡◌, ℕ, zero, suc, ◌<◌, ◌≤◌, ◌==◌, true, false, List, [], ◌∷◌, Option, Some, None, refl, map, length, get_or, arith}
use Rattle.std.specs.List.{position_or_len, filter_map, cons_option}
use Rattle.std.proofs.lemmas.List.Sums.{fails_before_first}
use Rattle.std.proofs.lemmas.Grind.{common_steps}
use Rattle.span_schema.specs.declared.table.Table.{Table}
use Rattle.span_schema.specs.declared.table.Column.{Column}
use Rattle.span_schema.specs.declared.table.KeyColumn.{KeyColumn}
use Rattle.span_schema.specs.Tables.{column_place}
use Rattle.span_schema.specs.Numbers.{columns_of, key_in, table_at, key_places}
use Rattle.span_schema.proofs.Names.{place_within}
use Rattle.span_records.specs.Columns.{AreNamed, AreBelow}
use Rattle.span_records.specs.Layouts.{AreWithin, LacksKey}

none_within : (columns : List Column) → AreWithin columns []
none_within columns i lt = absurd (omega arith)

first_within : (columns : List Column) (place : ℕ) (places : List ℕ) → place < length columns → AreWithin columns places → AreWithin columns (place ∷ places)
first_within columns place places lt h zero within = lt
first_within columns place places lt h (suc i) within = h i (omega arith)

placed_within : (columns : List Column) (names : List (List ℕ)) (places : List ℕ) → map (column_place columns) names ≡ map Some places → AreWithin columns places
placed_within columns [] [] is = none_within columns
placed_within columns [] (place ∷ places) is = cc is
placed_within columns (name ∷ names) [] is = cc is
placed_within columns (name ∷ names) (place ∷ places) is =
    first_within columns place places (place_within columns name place (cc is)) (placed_within columns names places (cc is))

pub named_within : (columns : List Column) (names : List (List ℕ)) (places : List ℕ) → AreNamed columns names places → AreWithin columns places
named_within columns names places h = placed_within columns names places h.0

pub below_within : (columns : List Column) (places : List ℕ) → AreBelow (length columns) places → AreWithin columns places
below_within columns places h i lt = let long = h.0 in let is = h.1 i (omega arith) in omega arith

optional_within : (columns : List Column) (place : Option ℕ) (places : List ℕ) → ((p : ℕ) → place ≡ Some p → p < length columns) → AreWithin columns places
    → AreWithin columns (cons_option place places)
optional_within columns None places lt h = h
optional_within columns (Some place) places lt h = first_within columns place places (lt place refl) h

key_placed_within : (columns : List Column) (key : List KeyColumn) → AreWithin columns (filter_map (λ (k : KeyColumn). column_place columns k.name) key)
key_placed_within columns [] = none_within columns
key_placed_within columns (k ∷ key) =
    optional_within columns (column_place columns k.name) (filter_map (λ (k : KeyColumn). column_place columns k.name) key) (place_within columns k.name) (key_placed_within columns key)

pub key_within : (tables : List Table) (n : ℕ) → AreWithin (columns_of tables n) (key_places tables n)
key_within tables n = key_placed_within (columns_of tables n) (key_in (table_at tables n))

-- each of these places is found among them
pub lacks_nothing : (key : List ℕ) → LacksKey key key → ⊥
lacks_nothing key h =
    let all : length key ≤ position_or_len (λ p. p == get_or key h.0 0) key = let none = h.2 in grind (arith, common_steps) in
    let fails : (get_or key h.0 0 == get_or key h.0 0) ≡ false = fails_before_first (λ p. p == get_or key h.0 0) key h.0 0 (let within = h.1 in omega arith) in
    let passes : (get_or key h.0 0 == get_or key h.0 0) ≡ true = grind arith in
    cc (fails, passes)
