-- The law of a plan whose leaves give rows of the columns that the query above them reads.
use Rattle.std.proofs.Common.{◌≡◌, ◌∙◌, ℕ, zero, suc, ◌+◌, Bool, true, List, [], ◌∷◌, ◌++◌, map, take, drop, length, Option, Some, None, refl, ap, sym, subst, add-one, arith}
use Rattle.std.specs.Prelude.{slice_get, ◌<◌}
use Rattle.std.specs.List.{AllByRecursion}
use Rattle.std.specs.Option.{unwrap_or}
use Rattle.std.proofs.lemmas.List.{take-append-drop}
use Rattle.span_schema.specs.declared.table.Table.{Table}
use Rattle.span_schema.specs.Numbers.{key_places}
use Rattle.span_expr.specs.declared.expr.Expr.{Expr}
use Rattle.span_query.specs.declared.query.BoundQuery.{BoundQuery}
use Rattle.span_query.specs.Rows.{Row, Rows, ◌>>=◌, filter_where}
use Rattle.span_query.specs.Meaning.{given, join_rows, meaning_over}
use Rattle.span_columns.specs.declared.leaf.Leaf.{Leaf}
use Rattle.span_columns.specs.declared.leaf.LeafJoin.{LeafJoin}
use Rattle.span_leaves.specs.Leaves.{table_of, width_of}
use Rattle.span_planner.specs.Plans.{planned}
use Rattle.span_columns.specs.Narrow.{narrowed}
use Rattle.span_columns.specs.Picks.{pick_rows}
use Rattle.span_columns.specs.Reads.{leaf_widths, masks_of, is_within, join_masks}
use Rattle.span_leaves.specs.Results.{as_join, join_tables, leaf_rows}
use Rattle.span_planner.specs.Sizes.{is_sized}
use Rattle.span_planner.proofs.Blocks.{AgreesAt}
use Rattle.span_planner.proofs.Known.{leaves_known}
use Rattle.span_planner.proofs.Masked.{wide_filter_where, wide_join_rows}
use Rattle.span_planner.proofs.PickedAbove.{above_picked}
use Rattle.span_leaves.proofs.Narrowing.{IsWide}
use Rattle.span_leaves.proofs.Parts.{part_length}
use Rattle.span_planner.proofs.Planned.{AreRooted, IsPlanned}
use Rattle.span_leaves.proofs.Pushing.{AreOfWidth}
use Rattle.span_planner.proofs.Queries.{query_above}
use Rattle.span_planner.proofs.ReadAbove.{MasksAt, top_within}

-- ---- leaves, by numbers

-- an item of a list, by the number of those before it
item_at : {A : Type 0} (xs : List A) (n : ℕ) (other x : A) (rest : List A) → drop n xs ≡ x ∷ rest → unwrap_or (slice_get xs n) other ≡ x
item_at [] zero other x rest is = absurd (let e : [] ≡ x ∷ rest = is in cc)
item_at [] (suc n) other x rest is = absurd (let e : [] ≡ x ∷ rest = is in cc)
item_at (y ∷ xs) zero other x rest is = let e : y ∷ xs ≡ x ∷ rest = is in cc
item_at (y ∷ xs) (suc n) other x rest is = item_at xs n other x rest is

rest_at : {A : Type 0} (xs : List A) (n : ℕ) (x : A) (rest : List A) → drop n xs ≡ x ∷ rest → drop (suc n) xs ≡ rest
rest_at [] zero x rest is = absurd (let e : [] ≡ x ∷ rest = is in cc)
rest_at [] (suc n) x rest is = absurd (let e : [] ≡ x ∷ rest = is in cc)
rest_at (y ∷ xs) zero x rest is = let e : y ∷ xs ≡ x ∷ rest = is in cc
rest_at (y ∷ xs) (suc n) x rest is = rest_at xs n x rest is

masks_at : (all : List Leaf) (before : ℕ) (ls : List Leaf) → drop before (map (λ (l : Leaf). l.kept) all) ≡ map (λ (l : Leaf). l.kept) ls → MasksAt (masks_of all) before ls
masks_at all before [] is = tt {0}
masks_at all before (l ∷ ls) is =
    let masks : List (List Bool) = map (λ (l : Leaf). l.kept) all in (
      ap (masks_of all) (add-one before) ∙ item_at masks before [] l.kept (map (λ (l : Leaf). l.kept) ls) is,
      masks_at all (before + 1) ls (ap (λ (n : ℕ). drop n masks) (add-one before) ∙ rest_at masks before l.kept (map (λ (l : Leaf). l.kept) ls) is),
    )

-- the query above the leaves of a plan reads within their masks
pub plan_within : (schema : List Table) (tables : List ℕ) (q : BoundQuery) → is_sized schema tables q ≡ true → is_within (masks_of (planned schema tables q).leaves) ((planned schema tables q).top 0) ≡ true
plan_within schema tables q sized = top_within (masks_of (planned schema tables q).leaves) schema tables q sized 0 (masks_at (planned schema tables q).leaves 0 (planned schema tables q).leaves refl)

-- ---- the rows of a leaf have its columns

module _ (schema : List Table) (w : ℕ → List Row) (wide_tables : (t : ℕ) → AreOfWidth (width_of schema t) (w t)) where
  wide_joins : (first at : ℕ) (joins : List LeafJoin) (ts : List ℕ) → AreRooted schema first at joins ts → (rows : List Row) → AreOfWidth at rows → IsWide (at + leaf_widths joins) (join_tables joins (map w ts) rows)
  wide_joins first at [] [] rooted rows wide = let e : at ≡ at + 0 = omega arith in subst (λ (n : ℕ). AreOfWidth n rows) e wide
  wide_joins first at [] (t ∷ ts) rooted rows wide = absurd rooted
  wide_joins first at (j ∷ joins) [] rooted rows wide = absurd rooted
  wide_joins first at (j ∷ joins) (t ∷ ts) rooted rows wide =
      of_joined (λ next is. wide_joins first (at + j.width) joins ts rooted.3 next is) (join_rows (as_join j) rows (w t))
      (wide_join_rows (as_join j) at rows (w t) wide (subst (λ (n : ℕ). AreOfWidth n (w t)) (sym rooted.2) (wide_tables t))) where
        of_joined : ((next : List Row) → AreOfWidth (at + j.width) next → IsWide ((at + j.width) + leaf_widths joins) (join_tables joins (map w ts) next))
            → (o : Rows) → IsWide (at + j.width) o → IsWide (at + (j.width + leaf_widths joins)) (o >>= join_tables joins (map w ts))
        of_joined rest None is = tt {0}
        of_joined rest (Some next) is =
            let e : (at + j.width) + leaf_widths joins ≡ at + (j.width + leaf_widths joins) = omega arith in subst (λ (n : ℕ). IsWide n (join_tables joins (map w ts) next)) e (rest next is)

  wide_filtered : (n : ℕ) (filter : Option Expr) (o : Rows) → IsWide n o → IsWide n (o >>= filter_where filter)
  wide_filtered n filter None wide = tt {0}
  wide_filtered n filter (Some rows) wide = wide_filter_where n filter rows wide

  pub wide_leaf : (leaf : Leaf) → IsPlanned schema leaf → IsWide (length leaf.kept) (leaf_rows leaf (map w leaf.tables))
  wide_leaf leaf is =
      subst (λ (n : ℕ). IsWide n (leaf_rows leaf (map w leaf.tables))) (sym (part_length leaf.kept leaf.reads is.part ∙ is.reads_len))
      (subst (λ (ts : List ℕ). IsWide (width_of schema is.first + leaf_widths leaf.joins) (leaf_rows leaf (map w ts))) (sym is.tables)
      (wide_filtered (width_of schema is.first + leaf_widths leaf.joins) leaf.filter (join_tables leaf.joins (map w is.rest) (w is.first))
      (wide_joins is.first (width_of schema is.first) leaf.joins is.rest is.rooted (w is.first) (wide_tables is.first))))

  -- ---- plans

  module _ (tables : List ℕ) (f0 : ℕ → Rows) (table_given : (n : ℕ) → f0 n ≡ Some (w (table_of tables n))) (keyed : (t : ℕ) → AllByRecursion (λ (p : ℕ). p < width_of schema t) (key_places schema t)) where
    -- each leaf gives what it gives on whole tables
    abbrev GivesWhole : (Leaf → Rows) → Leaf → Type 0
    GivesWhole give l = give l ≡ leaf_rows l (map w l.tables)

    agree : (give : Leaf → Rows) (all : List Leaf) (before : ℕ) (ls : List Leaf) → drop before (map give all) ≡ map give ls → AllByRecursion (GivesWhole give) ls → AgreesAt w before ls (given (map give all))
    agree give all before [] is whole = tt {0}
    agree give all before (l ∷ ls) is whole = (
      ap (given (map give all)) (add-one before) ∙ item_at (map give all) before (Some []) (give l) (map give ls) is ∙ whole.0,
      agree give all (before + 1) ls (ap (λ (n : ℕ). drop n (map give all)) (add-one before) ∙ rest_at (map give all) before (give l) (map give ls) is) whole.1,
    )

    wide_all : (give : Leaf → Rows) (ls : List Leaf) → AllByRecursion (IsPlanned schema) ls → AllByRecursion (GivesWhole give) ls → AllByRecursion (λ (l : Leaf). IsWide (length l.kept) (give l)) ls
    wide_all give [] known whole = tt {0}
    wide_all give (l ∷ ls) known whole = (subst (IsWide (length l.kept)) (sym whole.0) (wide_leaf l known.0), wide_all give ls known.1 whole.1)

    -- THE LAW OF A PLAN WITH PICKED ROWS: above its leaves, each of which gives the rows that it gives on whole tables, of the columns alone that
    -- leave it, the narrowed query means what the query means on whole tables.
    pub query_above_picked : (q : BoundQuery) → is_sized schema tables q ≡ true → (give : Leaf → Rows) → AllByRecursion (GivesWhole give) (planned schema tables q).leaves
        → meaning_over (given (map (λ (l : Leaf). pick_rows l.kept (give l)) (planned schema tables q).leaves)) (narrowed (masks_of (planned schema tables q).leaves) ((planned schema tables q).top 0)) ≡ meaning_over f0 q
    query_above_picked q sized give whole =
        let leaves : List Leaf = (planned schema tables q).leaves in
        above_picked leaves give (wide_all give leaves (leaves_known schema tables keyed q sized) whole) ((planned schema tables q).top 0) (plan_within schema tables q sized)
        ∙ query_above schema tables w f0 (given (map give leaves)) table_given wide_tables q sized 0 (agree give leaves 0 leaves refl whole)

-- ---- the masks of tables below a leaf

-- the tables have the columns that the joins and the masks say
abbrev pub AreMaskable : List LeafJoin → List (List Bool) → List (List Row) → Type 0
AreMaskable [] mss tables = Unit {0}
AreMaskable (j ∷ joins) mss [] = Unit {0}
AreMaskable (j ∷ joins) [] (right ∷ tables) = ⊥
AreMaskable (j ∷ joins) (ms ∷ mss) (right ∷ tables) = (j.width ≡ length ms) × AreOfWidth (length ms) right × AreMaskable joins mss tables

-- the masks one after another
abbrev pub joined_masks : List LeafJoin → List (List Bool) → List Bool
joined_masks [] mss = []
joined_masks (j ∷ joins) [] = []
joined_masks (j ∷ joins) (ms ∷ mss) = ms ++ joined_masks joins mss

pub rest_len : (n : ℕ) (xs : List Bool) (m : ℕ) → length xs ≡ n + m → length (drop n xs) ≡ m
rest_len zero xs m len = omega arith
rest_len (suc n) [] m len = absurd (omega arith)
rest_len (suc n) (x ∷ xs) m len = rest_len n xs m (omega arith)

-- the parts of a mask are the mask
pub masks_joined : (joins : List LeafJoin) (ms : List Bool) → length ms ≡ leaf_widths joins → ms ≡ joined_masks joins (join_masks joins ms)
masks_joined [] [] len = refl
masks_joined [] (m ∷ ms) len = absurd (omega arith)
masks_joined (j ∷ joins) ms len = sym (take-append-drop j.width ms) ∙ ap (λ (l : List Bool). take j.width ms ++ l) (masks_joined joins (drop j.width ms) (rest_len j.width ms (leaf_widths joins) len))
