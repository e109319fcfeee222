-- What a leaf gives on a range is what it gives on pieces that tile the range, one after another.
use Rattle.std.proofs.Common.{◌≡◌, ℕ, ◌+◌, ◌<◌, Bool, true, false, cond, ◌||◌, List, [], ◌∷◌, ◌++◌, map, length, Some, refl, ap, sym, subst, ◌∙◌}
use Rattle.std.specs.Prelude.{filter}
use Rattle.std.specs.List.{AllByRecursion}
use Rattle.std.specs.Ordering.{is_lt}
use Rattle.std.proofs.lemmas.List.{map-append}
use Rattle.std.proofs.lemmas.List.Elements.{filter_agree}
use Rattle.span_value.specs.declared.value.Value.{Value}
use Rattle.span_value.proofs.Lists.{all_map, all_take}
use Rattle.span_schema.specs.declared.table.Table.{Table}
use Rattle.span_schema.specs.Lineages.{MeetsRules}
use Rattle.span_schema.specs.Numbers.{root_of, key_columns, key_places}
use Rattle.span_keycode.specs.declared.range.KeyRange.{KeyRange}
use Rattle.span_keycode.specs.Keys.{key_code}
use Rattle.span_keycode.specs.Order.{byte_order}
use Rattle.span_keycode.specs.Parts.{is_within, tiles}
use Rattle.span_keycode.proofs.Befores.{before_upto}
use Rattle.span_keycode.proofs.PartLaws.{IsSplit, rest_after, tiles_none, tiles_split, within_parts}
use Rattle.span_mutate.specs.declared.row.TableRow.{TableRow}
use Rattle.span_mutate.specs.Database.{rows_of}
use Rattle.span_mutate.specs.Directories.{IsDatabase}
use Rattle.span_mutate.specs.Typed.{IsTyped, AreTyped}
use Rattle.span_query.specs.Rows.{Row, Rows, ◌>>=◌, append_results, concat_map, filter_where}
use Rattle.span_shard.specs.Rows.{code_of}
use Rattle.span_query.proofs.Results.{filter_where-nil}
use Rattle.span_columns.specs.declared.leaf.Leaf.{Leaf}
use Rattle.span_columns.specs.declared.leaf.LeafJoin.{LeafJoin}
use Rattle.span_leaves.specs.Leaves.{width_of, root_places}
use Rattle.span_columns.specs.Picks.{pick_rows}
use Rattle.span_leaves.specs.Results.{join_tables, leaf_rows}
use Rattle.span_leaves.proofs.Picked.{pick_rows-append}
use Rattle.span_leaves.proofs.Cutting.{CutTable, whole_rows, first_rows, second_rows, IsOnSide, AreCut, columns, leaf-cut}
use Rattle.span_planner.proofs.Planned.{AreRooted, IsPlanned}
use Rattle.span_machine.specs.Meaning.{declared_row, row_within, rows_within, tables_within, leaf_within}
use Rattle.span_machine_laws.proofs.Ends.{below_as_root}
use Rattle.span_entries.proofs.KeyPlaces.{keyed}
use Rattle.span_entries.proofs.DeclaredRows.{row_width, root_of_columns, root_places_long}
use Rattle.span_machine_laws.proofs.Pieces.{IsEnd, AreEnds}
use Rattle.span_machine_laws.proofs.TableOrder.{IsOfTable, of_table, table_rises, parts_joined}

-- ---- lists

all_kept : {A : Type 0} (P : A → Type 0) (p : A → Bool) (xs : List A) → AllByRecursion P xs → AllByRecursion (λ (x : A). P x × (p x ≡ true)) (filter p xs)
all_kept P p [] all = tt {0}
all_kept {A = A} P p (x ∷ xs) all = of_test (p x) refl (all_kept P p xs all.1)
  where
    of_test : (b : Bool) → p x ≡ b → AllByRecursion (λ (x : A). P x × (p x ≡ true)) (filter p xs) → AllByRecursion (λ (x : A). P x × (p x ≡ true)) (cond b (x ∷ filter p xs) (filter p xs))
    of_test true is rest = ((all.0, is), rest)
    of_test false is rest = rest

none_kept : {A : Type 0} (p : A → Bool) → ((x : A) → p x ≡ false) → (xs : List A) → filter p xs ≡ []
none_kept p none [] = refl
none_kept {A = A} p none (x ∷ xs) = ap (λ (b : Bool). cond b (x ∷ filter p xs) (filter p xs)) (none x) ∙ none_kept p none xs

-- ---- a leaf whose tables have no rows

no_joins : (joins : List LeafJoin) (tables : List (List Row)) → join_tables joins tables [] ≡ Some []
no_joins [] tables = refl
no_joins (j ∷ joins) [] = refl
no_joins (j ∷ joins) (right ∷ tables) = no_joins joins tables

nothing_where : (leaf : Leaf) → filter_where leaf.filter [] ≡ Some []
nothing_where leaf = filter_where-nil leaf.filter

no_rows : (leaf : Leaf) (tables : List (List Row)) → leaf_rows leaf ([] ∷ tables) ≡ Some []
no_rows leaf tables = ap (λ (o : Rows). o >>= filter_where leaf.filter) (no_joins leaf.joins tables) ∙ nothing_where leaf

-- ---- a range cut in two

module _ (schema : List Table) (rules : MeetsRules schema) (db : List TableRow) (is_db : IsDatabase schema db) (typed : AreTyped schema db) where
  module _ (range piece : KeyRange) (split : IsSplit range piece) (end : IsEnd schema piece.high) where
    abbrev later : KeyRange
    later = rest_after piece range

    -- whether a root key is before the end of the first piece
    abbrev is_before : ℕ → List Value → Bool
    is_before root vs = is_lt (byte_order (key_code schema root vs) piece.high)

    before_by_row : (r : TableRow) → IsTyped schema r → is_before (root_of schema r.table) (columns (root_places schema r.table) (declared_row schema r)) ≡ is_lt (byte_order (code_of schema r) piece.high)
    before_by_row r row_typed =
        ap (is_before (root_of schema r.table)) (root_of_columns schema rules r row_typed) ∙ sym (below_as_root schema rules r row_typed piece.high end)

    abbrev IsSide : Bool → ℕ → TableRow → Type 0
    IsSide b t r = IsOfTable schema t r × (is_lt (byte_order (code_of schema r) piece.high) ≡ b)

    side_of_row : (b : Bool) (t : ℕ) (r : TableRow) → IsSide b t r → IsOnSide (is_before (root_of schema t)) b (root_places schema t) (width_of schema t) (declared_row schema r)
    side_of_row b t r is = (
      row_width schema r ∙ ap (width_of schema) is.0.1,
      subst (λ (n : ℕ). is_before (root_of schema n) (columns (root_places schema n) (declared_row schema r)) ≡ b) is.0.1 (before_by_row r is.0.0 ∙ is.1),
    )

    first_side : (t : ℕ) → AllByRecursion (IsOnSide (is_before (root_of schema t)) true (root_places schema t) (width_of schema t)) (rows_within schema db t piece)
    first_side t =
        all_map (λ (r : TableRow). IsOfTable schema t r × (row_within schema piece r ≡ true)) (IsOnSide (is_before (root_of schema t)) true (root_places schema t) (width_of schema t)) (declared_row schema)
        (λ r is. side_of_row true t r (is.0, (within_parts piece (code_of schema r) is.1).1))
        (filter (row_within schema piece) (rows_of t db)) (all_kept (IsOfTable schema t) (row_within schema piece) (rows_of t db) (of_table schema t db typed))

    second_side : (t : ℕ) → AllByRecursion (IsOnSide (is_before (root_of schema t)) false (root_places schema t) (width_of schema t)) (rows_within schema db t later)
    second_side t =
        all_map (λ (r : TableRow). IsOfTable schema t r × (row_within schema later r ≡ true)) (IsOnSide (is_before (root_of schema t)) false (root_places schema t) (width_of schema t)) (declared_row schema)
        (λ r is. side_of_row false t r (is.0, (within_parts later (code_of schema r) is.1).0))
        (filter (row_within schema later) (rows_of t db)) (all_kept (IsOfTable schema t) (row_within schema later) (rows_of t db) (of_table schema t db typed))

    -- a table's rows in the range are those in the first piece, and then those after it
    table_split : (t : ℕ) → rows_within schema db t range ≡ rows_within schema db t piece ++ rows_within schema db t later
    table_split t =
        ap (map (declared_row schema)) (
        filter_agree (row_within schema range) (λ (r : TableRow). row_within schema piece r || row_within schema later r) (λ r. split.within (code_of schema r)) (rows_of t db)
        ∙ parts_joined schema (row_within schema piece) (row_within schema later) (λ r is. split.apart (code_of schema r) is)
        (λ x y p q. before_upto (code_of schema x) (code_of schema y) (split.before (code_of schema x) (code_of schema y) p q)) (rows_of t db) (table_rises schema rules db is_db typed t))
        ∙ map-append (declared_row schema) (filter (row_within schema piece) (rows_of t db)) (filter (row_within schema later) (rows_of t db))

    abbrev cut_of : ℕ → CutTable
    cut_of t = record { places = root_places schema t; first = rows_within schema db t piece; second = rows_within schema db t later }

    whole_cuts : (ts : List ℕ) → tables_within schema db ts range ≡ map whole_rows (map cut_of ts)
    whole_cuts [] = refl
    whole_cuts (t ∷ ts) =
        ap (λ (rows : List Row). rows ∷ tables_within schema db ts range) (table_split t) ∙ ap (λ (l : List (List Row)). (rows_within schema db t piece ++ rows_within schema db t later) ∷ l) (whole_cuts ts)

    first_cuts : (ts : List ℕ) → map first_rows (map cut_of ts) ≡ tables_within schema db ts piece
    first_cuts [] = refl
    first_cuts (t ∷ ts) = ap (λ (l : List (List Row)). rows_within schema db t piece ∷ l) (first_cuts ts)

    second_cuts : (ts : List ℕ) → map second_rows (map cut_of ts) ≡ tables_within schema db ts later
    second_cuts [] = refl
    second_cuts (t ∷ ts) = ap (λ (l : List (List Row)). rows_within schema db t later ∷ l) (second_cuts ts)

    tables_cut : (first at : ℕ) (joins : List LeafJoin) (ts : List ℕ) → AreRooted schema first at joins ts → AreCut (is_before (root_of schema first)) (root_places schema first) at joins (map cut_of ts)
    tables_cut first at [] ts rooted = tt {0}
    tables_cut first at (j ∷ joins) [] rooted = absurd rooted
    tables_cut first at (j ∷ joins) (t ∷ ts) rooted = (
      rooted.1,
      root_places_long schema rules first ∙ ap (λ (n : ℕ). length (key_columns schema n)) rooted.0 ∙ sym (root_places_long schema rules t),
      side_as true first j t rooted.0 rooted.2 (rows_within schema db t piece) (first_side t),
      side_as false first j t rooted.0 rooted.2 (rows_within schema db t later) (second_side t),
      tables_cut first (at + j.width) joins ts rooted.3,
    )
      where
        side_as : (b : Bool) (first : ℕ) (j : LeafJoin) (t : ℕ) → root_of schema first ≡ root_of schema t → j.width ≡ width_of schema t → (rows : List Row)
            → AllByRecursion (IsOnSide (is_before (root_of schema t)) b (root_places schema t) (width_of schema t)) rows → AllByRecursion (IsOnSide (is_before (root_of schema first)) b (root_places schema t) j.width) rows
        side_as b first j t same width rows all =
            subst (λ (n : ℕ). AllByRecursion (IsOnSide (is_before (root_of schema first)) b (root_places schema t) n) rows) (sym width)
            (subst (λ (n : ℕ). AllByRecursion (IsOnSide (is_before n) b (root_places schema t) (width_of schema t)) rows) (sym same) all)

    rows_split : (leaf : Leaf) → IsPlanned schema leaf
        → leaf_rows leaf (tables_within schema db leaf.tables range) ≡ append_results (leaf_rows leaf (tables_within schema db leaf.tables piece)) (leaf_rows leaf (tables_within schema db leaf.tables later))
    rows_split leaf is =
        let tables : List ℕ = is.first ∷ is.rest in
        ap (λ (ts : List ℕ). leaf_rows leaf (tables_within schema db ts range)) is.tables
        ∙ ap (leaf_rows leaf) (whole_cuts tables)
        ∙ leaf-cut (is_before (root_of schema is.first)) (root_places schema is.first) (width_of schema is.first)
        (all_take (λ (p : ℕ). p < width_of schema is.first) (length (key_columns schema (root_of schema is.first))) (key_places schema is.first) (keyed schema is.first))
        leaf (cut_of is.first) (map cut_of is.rest) (first_side is.first) (second_side is.first) (tables_cut is.first (width_of schema is.first) leaf.joins is.rest is.rooted)
        ∙ ap (λ (l : List (List Row)). append_results (leaf_rows leaf l) (leaf_rows leaf (map second_rows (map cut_of tables)))) (first_cuts tables)
        ∙ ap (λ (l : List (List Row)). append_results (leaf_rows leaf (tables_within schema db tables piece)) (leaf_rows leaf l)) (second_cuts tables)
        ∙ sym (ap (λ (ts : List ℕ). append_results (leaf_rows leaf (tables_within schema db ts piece)) (leaf_rows leaf (tables_within schema db ts later))) is.tables)

    -- THE CUT OF A RANGE: what a leaf gives on it is what it gives on the first piece, and then what it gives on the rest
    leaf_split : (leaf : Leaf) → IsPlanned schema leaf → leaf_within schema db leaf range ≡ append_results (leaf_within schema db leaf piece) (leaf_within schema db leaf later)
    leaf_split leaf is =
        ap (pick_rows leaf.kept) (rows_split leaf is) ∙ pick_rows-append leaf.kept (leaf_rows leaf (tables_within schema db leaf.tables piece)) (leaf_rows leaf (tables_within schema db leaf.tables later))

  -- ---- pieces that tile a range

  -- a leaf gives nothing on a range without keys
  leaf_of_none : (leaf : Leaf) → IsPlanned schema leaf → (range : KeyRange) → ((k : List ℕ) → is_within range k ≡ false) → leaf_within schema db leaf range ≡ Some []
  leaf_of_none leaf is range none = ap (pick_rows leaf.kept) (
      ap (λ (ts : List ℕ). leaf_rows leaf (tables_within schema db ts range)) is.tables
      ∙ ap (λ (rows : List TableRow). leaf_rows leaf (map (declared_row schema) rows ∷ tables_within schema db is.rest range)) (none_kept (row_within schema range) (λ r. none (code_of schema r)) (rows_of is.first db))
      ∙ no_rows leaf (tables_within schema db is.rest range))

  tiled_within : (leaf : Leaf) → IsPlanned schema leaf → (cs : List KeyRange) (range : KeyRange) → tiles range cs ≡ true → AllByRecursion (AreEnds schema) cs → leaf_within schema db leaf range ≡ concat_map (leaf_within schema db leaf) cs
  tiled_within leaf is [] range tiled ends = leaf_of_none leaf is range (λ k. tiles_none range k tiled)
  tiled_within leaf is (c ∷ cs) range tiled ends =
      let parts = tiles_split range c cs tiled in
      leaf_split range c parts.0 ends.0.1 leaf is ∙ ap (append_results (leaf_within schema db leaf c)) (tiled_within leaf is cs (rest_after c range) parts.1 ends.1)

  -- THE LAW OF TILES: on a range a leaf gives what it gives on the pieces that tile it, one after another
  pub leaf_tiled : (leaf : Leaf) → IsPlanned schema leaf → (range : KeyRange) (cs : List KeyRange) → tiles range cs ≡ true → AllByRecursion (AreEnds schema) cs → AreEnds schema range
      → leaf_within schema db leaf range ≡ concat_map (leaf_within schema db leaf) cs
  leaf_tiled leaf is range cs tiled ends range_ends = tiled_within leaf is cs range tiled ends
