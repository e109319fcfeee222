-- The first rows by some columns: one more row.
use Rattle.std.proofs.Common.{◌≡◌, ◌∙◌, refl, sym, ap, ℕ, ◌+◌, ◌<◌, Bool, true, false, cond, not, List, [], ◌∷◌, ◌++◌, map, length, get_or, take}
use Rattle.std.specs.Prelude.{slice_index_or}
use Rattle.std.specs.List.{list_any}
use Rattle.std.proofs.lemmas.List.{get_or_default, map-append}
use Rattle.indexmap.specs.IndexSet.{insert_key}
use Rattle.span_query.specs.Rows.{Row}
use Rattle.span_query.specs.Groups.{are_equal, columns_at, distinct}
use Rattle.span_rows.specs.Columns.{distinct_at}
use Rattle.span_rows.specs.RowPlaces.{rows_at}
use Rattle.span_rows.proofs.Firsts.{distinct-inserted}
use Rattle.span_rows.proofs.Gathering.{taken_more}
use Rattle.span_groups.proofs.MergedGroups.{distinct_at-both}

module _ (columns : List ℕ) (rows : List Row) (i : ℕ) (row : Row) (within : i < length rows) (is : row ≡ get_or rows i row) where
  -- the values that were seen, with those of the row
  pub seen_more : (seen new : List Row) → seen ≡ distinct_at columns (take i rows) → new ≡ insert_key are_equal seen (columns_at columns row) → new ≡ distinct_at columns (take (i + 1) rows)
  seen_more seen new before inserted =
      distinct-inserted seen new (map (columns_at columns) (take i rows)) (columns_at columns row) before inserted
      ∙ ap distinct (sym (map-append (columns_at columns) (take i rows) (row ∷ [])))
      ∙ ap (distinct_at columns) (taken_more rows i row within is)

  -- the row's place is added
  pub first_more : (places : List ℕ) → distinct_at columns (rows_at rows places) ≡ distinct_at columns (take i rows)
      → distinct_at columns (rows_at rows (places ++ i ∷ [])) ≡ distinct_at columns (take (i + 1) rows)
  first_more places same =
      ap (distinct_at columns) (map-append (λ (place : ℕ). slice_index_or rows place []) places (i ∷ []))
      ∙ ap (λ (r : Row). distinct_at columns (rows_at rows places ++ r ∷ [])) (sym (is ∙ get_or_default rows i row [] within))
      ∙ distinct_at-both columns (rows_at rows places) (take i rows) (row ∷ []) (row ∷ []) same refl
      ∙ ap (distinct_at columns) (taken_more rows i row within is)

  -- its values were seen before
  pub none_more : (seen new : List Row) → seen ≡ distinct_at columns (take i rows) → new ≡ insert_key are_equal seen (columns_at columns row) → list_any (are_equal (columns_at columns row)) seen ≡ true
      → distinct_at columns (take i rows) ≡ distinct_at columns (take (i + 1) rows)
  none_more seen new before inserted known =
      sym before
      ∙ sym (ap (λ b. cond b seen (seen ++ columns_at columns row ∷ [])) known)
      ∙ sym inserted
      ∙ seen_more seen new before inserted

pub is_known : (b : Bool) → false ≡ not b → b ≡ true
is_known true e = refl
is_known false e = absurd cc
