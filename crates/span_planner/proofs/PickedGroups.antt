-- Groups and a select list of picked rows are those of the rows, with what they read moved to its ranks.
use Rattle.std.proofs.Common.{◌≡◌, ℕ, Bool, true, false, cond, List, [], ◌∷◌, ◌++◌, map, length, Option, Some, None, refl, ap, ◌∙◌}
use Rattle.std.specs.Prelude.{pos}
use Rattle.std.specs.List.{AllByRecursion, list_all}
use Rattle.std.specs.Option.{option_map}
use Rattle.std.proofs.lemmas.Bool.{and_parts}
use Rattle.std.proofs.lemmas.List.{length-map}
use Rattle.span_value.specs.declared.value.Value.{Value}
use Rattle.span_value.proofs.Lists.{all_weaker, all_whole}
use Rattle.span_expr.specs.declared.expr.Expr.{Expr}
use Rattle.span_expr.specs.Operators.{number, column_of}
use Rattle.span_expr.specs.Meaning.{val}
use Rattle.span_expr.specs.Places.{moved, rank}
use Rattle.span_query.specs.declared.query.Aggregate.{Aggregate}
use Rattle.span_query.specs.declared.query.Aggregate.TheVariants.{CountRows, Of}
use Rattle.span_query.specs.declared.query.Grouping.{Grouping}
use Rattle.span_query.specs.Rows.{Row, OrFault, Rows, ◌>>=◌, value_of, singleton, each, values, project_rows, filter_where}
use Rattle.span_query.specs.Groups.{are_equal, distinct, columns_at, group_keys, rows_with, operands, without_nulls, of_values, aggregate, group_row, groups, group_rows}
use Rattle.span_query.proofs.Results.{concat_map-same}
use Rattle.span_leaves.proofs.Pushing.{AreOfWidth}
use Rattle.span_leaves.proofs.Narrowing.{wide_filter}
use Rattle.span_columns.specs.Reads.{has_place, reads_within, aggregate_reads, selection_reads}
use Rattle.span_planner.proofs.Masked.{concat_map-unmasked}
use Rattle.span_columns.specs.Picks.{picked}
use Rattle.span_columns.specs.Narrow.{moved_aggregate, moved_grouping, moved_outputs}
use Rattle.span_leaves.proofs.Picked.{Agrees, val-picked}

module _ (all ms : List Bool) (agree : Agrees all ms) where
  -- ---- the select list at rows of a FROM

  values-picked : (es : List Expr) → list_all (reads_within all) es ≡ true → (row : Row) → length row ≡ length ms → values (map (moved (rank all)) es) (picked ms row) ≡ values es row
  values-picked es reads row wide =
      concat_map-unmasked (moved (rank all)) (λ e. option_map singleton (value_of (val row e))) (λ e. option_map singleton (value_of (val (picked ms row) e))) es (each_of es reads) where
        each_of : (es : List Expr) → list_all (reads_within all) es ≡ true
            → AllByRecursion (λ e. option_map singleton (value_of (val (picked ms row) (moved (rank all) e))) ≡ option_map singleton (value_of (val row e))) es
        each_of [] reads = tt {0}
        each_of (e ∷ es) reads =
            let parts : (reads_within all e ≡ true) × (list_all (reads_within all) es ≡ true) = and_parts (reads_within all e) (list_all (reads_within all) es) reads in
            (ap (λ o. option_map singleton (value_of o)) (val-picked all ms agree row e wide parts.0), each_of es parts.1)

  project_rows-picked : (es : List Expr) → list_all (reads_within all) es ≡ true → (rows : List Row) → AreOfWidth (length ms) rows
      → project_rows (map (moved (rank all)) es) (map (picked ms) rows) ≡ project_rows es rows
  project_rows-picked es reads rows wide =
      concat_map-unmasked (picked ms) (λ row. option_map singleton (values es row)) (λ row. option_map singleton (values (map (moved (rank all)) es) row)) rows
      (all_weaker (λ (row : Row). length row ≡ length ms) (λ row. option_map singleton (values (map (moved (rank all)) es) (picked ms row)) ≡ option_map singleton (values es row))
      (λ row is. ap (option_map singleton) (values-picked es reads row is)) rows wide)

  -- ---- keys

  columns_at-picked : (ps : List ℕ) → list_all (has_place all) ps ≡ true → (row : Row) → length row ≡ length ms → columns_at (map (rank all) ps) (picked ms row) ≡ columns_at ps row
  columns_at-picked [] reads row wide = refl
  columns_at-picked (p ∷ ps) reads row wide =
      let parts : (has_place all p ≡ true) × (list_all (has_place all) ps ≡ true) = and_parts (has_place all p) (list_all (has_place all) ps) reads in
      ap (λ (v : Value). v ∷ columns_at (map (rank all) ps) (picked ms row)) (agree row wide p parts.0) ∙ ap (λ (vs : Row). column_of row p ∷ vs) (columns_at-picked ps parts.1 row wide)

  keys_of-picked : (ps : List ℕ) → list_all (has_place all) ps ≡ true → (rows : List Row) → AreOfWidth (length ms) rows
      → map (columns_at (map (rank all) ps)) (map (picked ms) rows) ≡ map (columns_at ps) rows
  keys_of-picked ps reads [] wide = refl
  keys_of-picked ps reads (row ∷ rows) wide =
      ap (λ (key : Row). key ∷ map (columns_at (map (rank all) ps)) (map (picked ms) rows)) (columns_at-picked ps reads row wide.0)
      ∙ ap (λ (keys : List Row). columns_at ps row ∷ keys) (keys_of-picked ps reads rows wide.1)

  group_keys-picked : (ps : List ℕ) → list_all (has_place all) ps ≡ true → (rows : List Row) → AreOfWidth (length ms) rows → group_keys (map (rank all) ps) (map (picked ms) rows) ≡ group_keys ps rows
  group_keys-picked [] reads rows wide = refl
  group_keys-picked (p ∷ ps) reads rows wide = ap distinct (keys_of-picked (p ∷ ps) reads rows wide)

  rows_with-picked : (ps : List ℕ) → list_all (has_place all) ps ≡ true → (key : Row) (rows : List Row) → AreOfWidth (length ms) rows
      → rows_with (map (rank all) ps) key (map (picked ms) rows) ≡ map (picked ms) (rows_with ps key rows)
  rows_with-picked ps reads key [] wide = refl
  rows_with-picked ps reads key (row ∷ rows) wide =
      let moved_ps : List ℕ = map (rank all) ps in
      ap (λ (own : Row). cond (are_equal key own) (picked ms row ∷ rows_with moved_ps key (map (picked ms) rows)) (rows_with moved_ps key (map (picked ms) rows))) (columns_at-picked ps reads row wide.0)
      ∙ of_test (are_equal key (columns_at ps row)) (rows_with-picked ps reads key rows wide.1) where
        of_test : (b : Bool) → rows_with (map (rank all) ps) key (map (picked ms) rows) ≡ map (picked ms) (rows_with ps key rows)
            → cond b (picked ms row ∷ rows_with (map (rank all) ps) key (map (picked ms) rows)) (rows_with (map (rank all) ps) key (map (picked ms) rows)) ≡ map (picked ms) (cond b (row ∷ rows_with ps key rows) (rows_with ps key rows))
        of_test true rest = ap (λ (l : List Row). picked ms row ∷ l) rest
        of_test false rest = rest

  -- ---- aggregates

  operands-picked : (e : Expr) → reads_within all e ≡ true → (rows : List Row) → AreOfWidth (length ms) rows → operands (moved (rank all) e) (map (picked ms) rows) ≡ operands e rows
  operands-picked e reads rows wide =
      concat_map-unmasked (picked ms) (λ row. option_map singleton (value_of (val row e))) (λ row. option_map singleton (value_of (val row (moved (rank all) e)))) rows
      (all_weaker (λ (row : Row). length row ≡ length ms) (λ row. option_map singleton (value_of (val (picked ms row) (moved (rank all) e))) ≡ option_map singleton (value_of (val row e)))
      (λ row is. ap (λ o. option_map singleton (value_of o)) (val-picked all ms agree row e is reads)) rows wide)

  aggregate-picked : (a : Aggregate) → aggregate_reads (has_place all) a ≡ true → (rows : List Row) → AreOfWidth (length ms) rows → aggregate (map (picked ms) rows) (moved_aggregate (rank all) a) ≡ aggregate rows a
  aggregate-picked CountRows reads rows wide = ap (λ (n : ℕ). value_of (number (pos n))) (length-map rows (picked ms))
  aggregate-picked (Of f e) reads rows wide = ap (λ (o : OrFault (List Value)). o >>= (λ vs. value_of (of_values f (without_nulls vs)))) (operands-picked e reads rows wide)

  aggregates-picked : (items : List Aggregate) → list_all (aggregate_reads (has_place all)) items ≡ true → (rows : List Row) → AreOfWidth (length ms) rows
      → each (aggregate (map (picked ms) rows)) (map (moved_aggregate (rank all)) items) ≡ each (aggregate rows) items
  aggregates-picked items reads rows wide =
      concat_map-unmasked (moved_aggregate (rank all)) (λ a. option_map singleton (aggregate rows a)) (λ a. option_map singleton (aggregate (map (picked ms) rows) a)) items (each_of items reads) where
        each_of : (items : List Aggregate) → list_all (aggregate_reads (has_place all)) items ≡ true
            → AllByRecursion (λ a. option_map singleton (aggregate (map (picked ms) rows) (moved_aggregate (rank all) a)) ≡ option_map singleton (aggregate rows a)) items
        each_of [] reads = tt {0}
        each_of (a ∷ items) reads =
            let parts : (aggregate_reads (has_place all) a ≡ true) × (list_all (aggregate_reads (has_place all)) items ≡ true) = and_parts (aggregate_reads (has_place all) a) (list_all (aggregate_reads (has_place all)) items) reads in
            (ap (option_map singleton) (aggregate-picked a parts.0 rows wide), each_of items parts.1)

  group_row-picked : (g : Grouping) → list_all (has_place all) g.keys ≡ true → list_all (aggregate_reads (has_place all)) g.aggregates ≡ true → (rows : List Row) → AreOfWidth (length ms) rows
      → (key : Row) → group_row (moved_grouping (rank all) g) (map (picked ms) rows) key ≡ group_row g rows key
  group_row-picked g keys aggregates rows wide key =
      ap (λ (own : List Row). each (aggregate own) (map (moved_aggregate (rank all)) g.aggregates) >>= (λ vs. Some (key ++ vs))) (rows_with-picked g.keys keys key rows wide)
      ∙ ap (λ (o : OrFault Row). o >>= (λ vs. Some (key ++ vs)))
      (aggregates-picked g.aggregates aggregates (rows_with g.keys key rows) (wide_filter (length ms) (λ (row : Row). are_equal key (columns_at g.keys row)) rows wide))

  groups-picked : (g : Grouping) → list_all (has_place all) g.keys ≡ true → list_all (aggregate_reads (has_place all)) g.aggregates ≡ true → (rows : List Row) → AreOfWidth (length ms) rows
      → groups (moved_grouping (rank all) g) (map (picked ms) rows) ≡ groups g rows
  groups-picked g keys aggregates rows wide =
      ap (each (group_row (moved_grouping (rank all) g) (map (picked ms) rows))) (group_keys-picked g.keys keys rows wide)
      ∙ concat_map-same (λ key. option_map singleton (group_row (moved_grouping (rank all) g) (map (picked ms) rows) key)) (λ key. option_map singleton (group_row g rows key)) (group_keys g.keys rows)
      (all_whole (λ key. option_map singleton (group_row (moved_grouping (rank all) g) (map (picked ms) rows) key) ≡ option_map singleton (group_row g rows key))
      (λ key. ap (option_map singleton) (group_row-picked g keys aggregates rows wide key)) (group_keys g.keys rows))

  -- the groups, or the rows, and then the select list
  pub selection-picked : (grouping : Option Grouping) (outputs : List Expr) → selection_reads (has_place all) grouping outputs ≡ true → (rows : List Row) → AreOfWidth (length ms) rows
      → (group_rows (option_map (moved_grouping (rank all)) grouping) (map (picked ms) rows) >>= project_rows (moved_outputs (rank all) grouping outputs)) ≡ (group_rows grouping rows >>= project_rows outputs)
  selection-picked None outputs reads rows wide = project_rows-picked outputs reads rows wide
  selection-picked (Some g) outputs reads rows wide =
      let parts : (list_all (has_place all) g.keys ≡ true) × (list_all (aggregate_reads (has_place all)) g.aggregates ≡ true) = and_parts (list_all (has_place all) g.keys) (list_all (aggregate_reads (has_place all)) g.aggregates) reads in
      ap (λ (o : Rows). (o >>= filter_where g.having) >>= project_rows outputs) (groups-picked g parts.0 parts.1 rows wide)
