-- A leaf on its range gives what it gives on whole tables.
use Rattle.std.proofs.Common.{◌≡◌, ℕ, suc, ◌+◌, ◌<◌, Bool, true, false, cond, List, [], ◌∷◌, map, take, length, get_or, refl, ap, sym, subst, ◌∙◌, arith, inl, inr, ◌⊎◌}
use Rattle.std.specs.Prelude.{filter}
use Rattle.std.specs.List.{AllByRecursion, list_all}
use Rattle.std.proofs.lemmas.Bool.{and_parts}
use Rattle.span_value.specs.declared.value.Value.{Value}
use Rattle.span_value.proofs.Lists.{all_weaker}
use Rattle.span_schema.specs.declared.table.Table.{Table}
use Rattle.span_schema.specs.declared.layout.KeyPart.{KeyPart}
use Rattle.span_schema.specs.Lineages.{MeetsRules}
use Rattle.span_schema.specs.Numbers.{root_of}
use Rattle.span_keycode.specs.declared.range.KeyRange.{KeyRange}
use Rattle.span_keycode.specs.Parts.{family}
use Rattle.span_mutate.specs.declared.row.TableRow.{TableRow}
use Rattle.span_mutate.specs.Database.{rows_of}
use Rattle.span_mutate.specs.Typed.{IsTyped, AreTyped}
use Rattle.span_schema.specs.Fitting.{Fits}
use Rattle.span_expr.specs.declared.expr.Expr.{Expr}
use Rattle.span_expr.specs.Operators.{column_of}
use Rattle.span_query.specs.Rows.{Row}
use Rattle.span_columns.specs.declared.leaf.Leaf.{Leaf}
use Rattle.span_columns.specs.declared.leaf.LeafJoin.{LeafJoin}
use Rattle.span_leaves.specs.Conditions.{equates, equates_all}
use Rattle.span_leaves.specs.Leaves.{width_of, root_places}
use Rattle.span_leaves.specs.Ranges.{KeyBound, is_of_type, range_by}
use Rattle.span_leaves.specs.Results.{leaf_rows, AreTotalJoins, IsLost}
use Rattle.span_leaves.proofs.Bounding.{is_in_bounds}
use Rattle.span_leaves.proofs.Narrowed.{AreEquated, AreWideTables, filter_tables, passes_at, leaf_narrowed}
use Rattle.span_planner.proofs.Planned.{AreRooted, IsNarrowed, IsPlanned}
use Rattle.span_machine.specs.Meaning.{declared_row, whole_table, row_within, rows_within, tables_within}
use Rattle.span_machine_laws.proofs.FirstColumns.{first_place, IsOfFamily, HasFirst, first_of_family, root_places_first}
use Rattle.span_machine_laws.proofs.TableOrder.{IsOfTable, of_table, all_in_family}
use Rattle.span_entries.proofs.DeclaredRows.{row_width}
use Rattle.span_machine_laws.proofs.LeafRows.{row_in_bounds, first_fits}

-- ---- lists

-- what is kept of the rows that are made is made of what is kept, where both tests agree
filter_made : {A B : Type 0} (make : A → B) (p : A → Bool) (q : B → Bool) (xs : List A) → AllByRecursion (λ (x : A). p x ≡ q (make x)) xs → map make (filter p xs) ≡ filter q (map make xs)
filter_made make p q [] same = refl
filter_made {A = A} {B = B} make p q (x ∷ xs) same = of_test (q (make x)) same.0 (filter_made make p q xs same.1)
  where
    of_test : (b : Bool) → p x ≡ b → map make (filter p xs) ≡ filter q (map make xs) → map make (filter p (x ∷ xs)) ≡ cond b (make x ∷ filter q (map make xs)) (filter q (map make xs))
    of_test true is rest = ap (λ (b : Bool). map make (cond b (x ∷ filter p xs) (filter p xs))) is ∙ ap (λ (l : List B). make x ∷ l) rest
    of_test false is rest = ap (λ (b : Bool). map make (cond b (x ∷ filter p xs) (filter p xs))) is ∙ rest

all_made : {A B : Type 0} (P : B → Type 0) (make : A → B) (xs : List A) → AllByRecursion (λ (x : A). P (make x)) xs → AllByRecursion P (map make xs)
all_made P make [] all = tt {0}
all_made P make (x ∷ xs) all = (all.0, all_made P make xs all.1)

-- ---- the rows of a table

module _ (schema : List Table) (db : List TableRow) (are_typed : AreTyped schema db) where
  abbrev whole : ℕ → List Row
  whole t = whole_table schema db t

  table_rows_made : (P : Row → Type 0) (t : ℕ) → ((r : TableRow) → IsTyped schema r → r.table ≡ t → P (declared_row schema r)) → AllByRecursion P (whole t)
  table_rows_made P t make =
      all_made P (declared_row schema) (rows_of t db) (all_weaker (IsOfTable schema t) (λ (r : TableRow). P (declared_row schema r)) (λ r is. make r is.0 is.1) (rows_of t db) (of_table schema t db are_typed))

  -- its rows have its columns
  pub table_width : (t : ℕ) → AllByRecursion (λ (row : Row). length row ≡ width_of schema t) (whole t)
  table_width t = table_rows_made (λ (row : Row). length row ≡ width_of schema t) t (λ r typed table. row_width schema r ∙ ap (width_of schema) table)

  tables_wide : (passes : Value → Bool) (first at : ℕ) (joins : List LeafJoin) (ts : List ℕ) → AreRooted schema first at joins ts → AreWideTables passes joins (map whole ts)
  tables_wide passes first at [] [] rooted = tt {0}
  tables_wide passes first at [] (t ∷ ts) rooted = absurd rooted
  tables_wide passes first at (j ∷ joins) [] rooted = absurd rooted
  tables_wide passes first at (j ∷ joins) (t ∷ ts) rooted =
      (subst (λ (n : ℕ). AllByRecursion (λ (row : Row). length row ≡ n) (whole t)) (sym rooted.2) (table_width t), tables_wide passes first (at + j.width) joins ts rooted.3)

  as_many : (first at : ℕ) (joins : List LeafJoin) (ts : List ℕ) → AreRooted schema first at joins ts → length joins ≡ length (map whole ts)
  as_many first at [] [] rooted = refl
  as_many first at [] (t ∷ ts) rooted = absurd rooted
  as_many first at (j ∷ joins) [] rooted = absurd rooted
  as_many first at (j ∷ joins) (t ∷ ts) rooted = ap suc (as_many first (at + j.width) joins ts rooted.3)

  -- ---- a leaf on the range of its family

  family_whole : (root t : ℕ) → root_of schema t ≡ root → rows_within schema db t (family root) ≡ whole t
  family_whole root t is = ap (λ (n : ℕ). rows_within schema db t (family n)) (sym is) ∙ ap (map (declared_row schema)) (all_in_family schema t db)

  families_whole : (first at : ℕ) (joins : List LeafJoin) (ts : List ℕ) → AreRooted schema first at joins ts → tables_within schema db ts (family (root_of schema first)) ≡ map whole ts
  families_whole first at [] [] rooted = refl
  families_whole first at [] (t ∷ ts) rooted = absurd rooted
  families_whole first at (j ∷ joins) [] rooted = absurd rooted
  families_whole first at (j ∷ joins) (t ∷ ts) rooted =
      ap (λ (rows : List Row). rows ∷ tables_within schema db ts (family (root_of schema first))) (family_whole (root_of schema first) t (sym rooted.0))
      ∙ ap (λ (l : List (List Row)). whole t ∷ l) (families_whole first (at + j.width) joins ts rooted.3)

  -- ---- a leaf on a range that is narrowed

  module _ (rules : MeetsRules schema) (root : ℕ) (part : KeyPart) (has : HasFirst schema root part) (bs : List KeyBound) (typed : list_all (λ (b : KeyBound). is_of_type part.kind b.1) bs ≡ true) where
    abbrev passes : Value → Bool
    passes v = is_in_bounds bs v

    table_narrowed : (t : ℕ) → root_of schema t ≡ root → rows_within schema db t (range_by root part bs) ≡ filter (passes_at passes (first_place schema t)) (whole t)
    table_narrowed t is =
        filter_made (declared_row schema) (row_within schema (range_by root part bs)) (passes_at passes (first_place schema t)) (rows_of t db)
        (all_weaker (IsOfTable schema t) (λ (r : TableRow). row_within schema (range_by root part bs) r ≡ passes_at passes (first_place schema t) (declared_row schema r)) in_bounds (rows_of t db) (of_table schema t db are_typed))
      where
        in_bounds : (r : TableRow) → IsOfTable schema t r → row_within schema (range_by root part bs) r ≡ passes_at passes (first_place schema t) (declared_row schema r)
        in_bounds r of =
            row_in_bounds schema rules root part has.parts has.own bs typed r of.0 (has.each r.table (ap (root_of schema) of.1 ∙ is))
            ∙ ap (λ (n : ℕ). passes_at passes (first_place schema n) (declared_row schema r)) of.1

    tables_narrowed : (first at : ℕ) → root_of schema first ≡ root → (joins : List LeafJoin) (ts : List ℕ) → AreRooted schema first at joins ts
        → tables_within schema db ts (range_by root part bs) ≡ filter_tables passes (map (first_place schema) ts) (map whole ts)
    tables_narrowed first at is [] [] rooted = refl
    tables_narrowed first at is [] (t ∷ ts) rooted = absurd rooted
    tables_narrowed first at is (j ∷ joins) [] rooted = absurd rooted
    tables_narrowed first at is (j ∷ joins) (t ∷ ts) rooted =
        ap (λ (rows : List Row). rows ∷ tables_within schema db ts (range_by root part bs)) (table_narrowed t (sym rooted.0 ∙ is))
        ∙ ap (λ (l : List (List Row)). filter (passes_at passes (first_place schema t)) (whole t) ∷ l) (tables_narrowed first (at + j.width) is joins ts rooted.3)

    first_equated : (on : Expr) (at p q : ℕ) (ps qs ps' qs' : List ℕ) → ps ≡ p ∷ ps' → qs ≡ q ∷ qs' → equates_all on ps at qs ≡ true → equates p (at + q) on ≡ true
    first_equated on at p q ps qs ps' qs' is_p is_q all =
        (and_parts (equates p (at + q) on) (equates_all on ps' at qs') (sym (ap (λ (l : List ℕ). equates_all on l at qs) is_p ∙ ap (equates_all on (p ∷ ps') at) is_q) ∙ all)).0

    tables_equated : (first at : ℕ) → root_of schema first ≡ root → (joins : List LeafJoin) (ts : List ℕ) → AreRooted schema first at joins ts → AreEquated passes (first_place schema first) at joins (map (first_place schema) ts)
    tables_equated first at is [] [] rooted = tt {0}
    tables_equated first at is [] (t ∷ ts) rooted = absurd rooted
    tables_equated first at is (j ∷ joins) [] rooted = absurd rooted
    tables_equated first at is (j ∷ joins) (t ∷ ts) rooted =
        let own : root_of schema t ≡ root = sym rooted.0 ∙ is in (
          first_equated j.on at (first_place schema first) (first_place schema t) (root_places schema first) (root_places schema t) (take (length has.parts) (has.each first is).places) (take (length has.parts) (has.each t own).places)
              (root_places_first schema root part has first is) (root_places_first schema root part has t own) rooted.1,
          tables_equated first (at + j.width) is joins ts rooted.3,
        )

    narrowed_whole : (leaf : Leaf) (first : ℕ) (rest : List ℕ) → root_of schema first ≡ root → AreRooted schema first (width_of schema first) leaf.joins rest → AreTotalJoins leaf.joins
        → ((x : Row) → first_place schema first < length x → Fits part.kind (column_of x (first_place schema first)) → passes (column_of x (first_place schema first)) ≡ false → IsLost leaf.filter x)
        → leaf_rows leaf (tables_within schema db (first ∷ rest) (range_by root part bs)) ≡ leaf_rows leaf (map whole (first ∷ rest))
    narrowed_whole leaf first rest is rooted total lost =
        let of = has.each first is in
        ap (λ (rows : List Row). leaf_rows leaf (rows ∷ tables_within schema db rest (range_by root part bs))) (table_narrowed first is)
        ∙ ap (λ (l : List (List Row)). leaf_rows leaf (filter (passes_at passes (first_place schema first)) (whole first) ∷ l)) (tables_narrowed first (width_of schema first) is leaf.joins rest rooted)
        ∙ leaf_narrowed passes leaf (first_place schema first) (width_of schema first) of.within (map (first_place schema) rest) (tables_equated first (width_of schema first) is leaf.joins rest rooted) total
        (whole first) (map whole rest) (as_many first (width_of schema first) leaf.joins rest rooted) (table_width first) (tables_wide passes first (width_of schema first) leaf.joins rest rooted)
        (table_rows_made (λ (x : Row). passes_at passes (first_place schema first) x ≡ false → IsLost leaf.filter x) first out)
      where
        out : (r : TableRow) → IsTyped schema r → r.table ≡ first → passes_at passes (first_place schema first) (declared_row schema r) ≡ false → IsLost leaf.filter (declared_row schema r)
        out r row_typed table none =
            let of : IsOfFamily schema root part r.table = has.each r.table (ap (root_of schema) table ∙ is) in
            let long : first_place schema first < length (declared_row schema r) =
            subst (λ (n : ℕ). first_place schema n < length (declared_row schema r)) table (omega (arith, of.within, row_width schema r)) in
            let fits : Fits part.kind (column_of (declared_row schema r) (first_place schema first)) =
            subst (λ (n : ℕ). Fits part.kind (column_of (declared_row schema r) (first_place schema n))) table (first_fits schema rules root part r row_typed of) in
            lost (declared_row schema r) long fits none

-- THE LAW OF A WHOLE LEAF: on its range a leaf gives what it gives on whole tables.
pub leaf_whole : (schema : List Table) → MeetsRules schema → (db : List TableRow) → AreTyped schema db → (leaf : Leaf) → IsPlanned schema leaf
    → leaf_rows leaf (tables_within schema db leaf.tables leaf.range) ≡ leaf_rows leaf (map (whole_table schema db) leaf.tables)
leaf_whole schema rules db typed leaf is =
    ap (λ (ts : List ℕ). leaf_rows leaf (tables_within schema db ts leaf.range)) is.tables
    ∙ on_range is.narrowed
    ∙ sym (ap (λ (ts : List ℕ). leaf_rows leaf (map (whole_table schema db) ts)) is.tables)
  where
    on_family : leaf.range ≡ family (root_of schema is.first) → leaf_rows leaf (tables_within schema db (is.first ∷ is.rest) leaf.range) ≡ leaf_rows leaf (map (whole_table schema db) (is.first ∷ is.rest))
    on_family range =
        ap (λ (r : KeyRange). leaf_rows leaf (tables_within schema db (is.first ∷ is.rest) r)) range
        ∙ ap (λ (rows : List Row). leaf_rows leaf (rows ∷ tables_within schema db is.rest (family (root_of schema is.first)))) (family_whole schema db typed (root_of schema is.first) is.first refl)
        ∙ ap (λ (l : List (List Row)). leaf_rows leaf (whole_table schema db is.first ∷ l)) (families_whole schema db typed is.first (width_of schema is.first) leaf.joins is.rest is.rooted)

    on_bounds : IsNarrowed schema is.first leaf → leaf_rows leaf (tables_within schema db (is.first ∷ is.rest) leaf.range) ≡ leaf_rows leaf (map (whole_table schema db) (is.first ∷ is.rest))
    on_bounds n =
        let place : first_place schema is.first ≡ n.place = ap (λ (l : List ℕ). get_or l 0 0) n.columns_at in
        let has : HasFirst schema (root_of schema is.first) n.part = first_of_family schema rules is.first n.part n.parts n.columns in
        ap (λ (r : KeyRange). leaf_rows leaf (tables_within schema db (is.first ∷ is.rest) r)) n.range
        ∙ narrowed_whole schema db typed rules (root_of schema is.first) n.part has n.bounds n.typed leaf is.first is.rest refl is.rooted n.total
        (subst (λ (p : ℕ). (x : Row) → p < length x → Fits n.part.kind (column_of x p) → is_in_bounds n.bounds (column_of x p) ≡ false → IsLost leaf.filter x) (sym place) n.lost)

    on_range : (leaf.range ≡ family (root_of schema is.first)) ⊎ IsNarrowed schema is.first leaf → leaf_rows leaf (tables_within schema db (is.first ∷ is.rest) leaf.range) ≡ leaf_rows leaf (map (whole_table schema db) (is.first ∷ is.rest))
    on_range (inl range) = on_family range
    on_range (inr n) = on_bounds n
