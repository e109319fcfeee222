-- What is known of the leaves of a plan: their tables are joined by their root keys, and rows out of a narrowed range are lost.
use Rattle.std.proofs.Common.{◌≡◌, ◌∙◌, ℕ, ◌+◌, ◌<◌, ◌≤◌, ◌==◌, suc, zero, Bool, true, false, ◌&&◌, List, [], ◌∷◌, ◌++◌, map, take, drop, length, Option, Some, None, refl, ap, sym, subst, arith, ◌⊎◌, inl, inr}
use Rattle.std.specs.Prelude.{filter, flat_map, replicate, if◌then◌else◌}
use Rattle.std.specs.List.{AllByRecursion, list_all}
use Rattle.std.proofs.lemmas.Bool.Decides.{nat_tests}
use Rattle.std.proofs.lemmas.Bool.{and_parts}
use Rattle.std.proofs.lemmas.List.FromFn.{length-map-range_with_len}
use Rattle.std.proofs.lemmas.List.{length-replicate, length-take-le, drop-map}
use Rattle.span_value.specs.declared.value.Value.TheVariants.{Null}
use Rattle.span_schema.specs.declared.table.Table.{Table}
use Rattle.span_schema.specs.declared.layout.KeyPart.{KeyPart}
use Rattle.span_schema.specs.Fitting.{Fits}
use Rattle.span_schema.specs.Numbers.{root_of, key_columns, key_places}
use Rattle.span_keycode.specs.declared.range.KeyRange.{KeyRange}
use Rattle.span_keycode.specs.Parts.{family}
use Rattle.span_expr.specs.declared.expr.Expr.{Expr}
use Rattle.span_expr.specs.Operators.{column_of}
use Rattle.span_expr.specs.Meaning.{is_total}
use Rattle.span_expr.specs.Conjuncts.{conjuncts, all_true}
use Rattle.span_expr.specs.Places.{is_in}
use Rattle.span_expr.proofs.Conjuncts.{is_refused-conjuncts, is_refused-all_true}
use Rattle.span_expr.proofs.Places.{column_of-append}
use Rattle.span_query.specs.declared.query.BoundQuery.{BoundQuery}
use Rattle.span_query.specs.declared.query.Block.{Block}
use Rattle.span_query.specs.declared.query.Item.{Item}
use Rattle.span_query.specs.declared.query.Item.TheVariants as item
use Rattle.span_query.specs.declared.query.Join.{Join}
use Rattle.span_query.specs.Rows.{Row}
use Rattle.span_query.proofs.Layers.{map_item, map_join, map_block}
use Rattle.span_columns.specs.declared.leaf.LeafJoin.{LeafJoin}
use Rattle.span_columns.specs.declared.leaf.Leaf.{Leaf}
use Rattle.span_leaves.specs.Conditions.{equates_all, have_total_ons, where_conjuncts, pushable, conjuncts_on}
use Rattle.span_leaves.specs.Ranges.{KeyBound, is_of_type, bounds, bounds_by, range_by, narrowed, leaf_range}
use Rattle.span_leaves.specs.Leaves.{table_of, width_of, root_places, is_joined_table, leaf_len, leaf_join, join_table, widths, reads_of, kept_of, first_leaf, table_leaf, unless_left}
use Rattle.span_leaves.specs.Results.{AreTotalJoins, IsRefusedBy, IsLost}
use Rattle.span_planner.specs.Plans.{Planned, join_leaves, rest_leaves, leaves_from, block_leaves, planned}
use Rattle.span_columns.specs.Reads.{is_read, is_part, leaf_widths}
use Rattle.span_planner.specs.Sizes.{Shape, item_shape, is_sized_join, is_sized_block, shape, is_sized}
use Rattle.span_leaves.proofs.Pushing.{is_left_out, column_of-after}
use Rattle.span_leaves.proofs.Narrowing.{are_on, own, left_out_among, left_out-own}
use Rattle.span_leaves.proofs.Parts.{part_own, kept_part}
use Rattle.span_leaves.proofs.Bounding.{is_in_bounds, left_out_of_bounds}

-- ---- what is known of a leaf

-- each joined table is of the family of the first, has its columns, and is joined by the root key
abbrev pub AreRooted : List Table → ℕ → ℕ → List LeafJoin → List ℕ → Type 0
AreRooted schema first at [] [] = Unit {0}
AreRooted schema first at [] (t ∷ ts) = ⊥
AreRooted schema first at (j ∷ joins) [] = ⊥
AreRooted schema first at (j ∷ joins) (t ∷ ts) =
    (root_of schema first ≡ root_of schema t) × (equates_all j.on (root_places schema first) at (root_places schema t) ≡ true) × (j.width ≡ width_of schema t)
    × AreRooted schema first (at + j.width) joins ts

-- the range is narrowed by bounds of the first key column, and a row of the first table that is out of one is lost
pub record IsNarrowed (schema : List Table) (first : ℕ) (leaf : Leaf) : Type 0 where
  pub part : KeyPart
  pub parts : List KeyPart
  pub columns : key_columns schema first ≡ part ∷ parts
  pub place : ℕ
  pub places : List ℕ
  pub columns_at : key_places schema first ≡ place ∷ places
  pub bounds : List KeyBound
  pub typed : list_all (λ (b : KeyBound). is_of_type part.kind b.1) bounds ≡ true
  pub range : leaf.range ≡ range_by (root_of schema first) part bounds
  pub total : AreTotalJoins leaf.joins
  pub lost : (x : Row) → place < length x → Fits part.kind (column_of x place) → is_in_bounds bounds (column_of x place) ≡ false → IsLost leaf.filter x

pub record IsPlanned (schema : List Table) (leaf : Leaf) : Type 0 where
  pub first : ℕ
  pub rest : List ℕ
  pub tables : leaf.tables ≡ first ∷ rest
  pub rooted : AreRooted schema first (width_of schema first) leaf.joins rest
  pub narrowed : (leaf.range ≡ family (root_of schema first)) ⊎ IsNarrowed schema first leaf
  pub reads_len : length leaf.reads ≡ width_of schema first + leaf_widths leaf.joins
  pub part : is_part leaf.kept leaf.reads ≡ true

-- ---- which columns are read

pub part_len : {A : Type 0} (xs : List A) (at width : ℕ) → at + width ≤ length xs → length (take width (drop at xs)) ≡ width
part_len xs zero width fits = length-take-le width xs (omega arith)
part_len [] (suc at) width fits = absurd (omega arith)
part_len (x ∷ xs) (suc at) width fits = part_len xs at width (omega arith)

pub leaf_widths_of : {Q : Type 0} (js : List (Join Q)) → leaf_widths (map leaf_join js) ≡ widths js
leaf_widths_of [] = refl
leaf_widths_of (j ∷ js) = ap (λ (n : ℕ). j.width + n) (leaf_widths_of js)

-- the columns of the first items, and those of the others
pub widths_split : {Q : Type 0} (n : ℕ) (js : List (Join Q)) → widths (take n js) + widths (drop n js) ≡ widths js
widths_split zero js = omega arith
widths_split (suc n) [] = refl
widths_split (suc n) (j ∷ js) = let rest : widths (take n js) + widths (drop n js) ≡ widths js = widths_split n js in omega arith

pub reads_of_len : {Q : Type 0} (width : ℕ) (b : Block Q) → length (reads_of width b) ≡ width + widths b.joins
reads_of_len width b = length-map-range_with_len (is_read b) 0 (width + widths b.joins)

pub first_reads_len : {Q : Type 0} (width n : ℕ) (b : Block Q) → length (take (width + widths (take n b.joins)) (reads_of width b)) ≡ width + leaf_widths (map leaf_join (take n b.joins))
first_reads_len width n b =
    let split : widths (take n b.joins) + widths (drop n b.joins) ≡ widths b.joins = widths_split n b.joins in
    let all : length (reads_of width b) ≡ width + widths b.joins = reads_of_len width b in
    length-take-le (width + widths (take n b.joins)) (reads_of width b) (omega arith) ∙ ap (λ (m : ℕ). width + m) (sym (leaf_widths_of (take n b.joins)))

pub first_part : {Q : Type 0} (width n : ℕ) (b : Block Q) → is_part (kept_of b n (width + widths (take n b.joins))) (take (width + widths (take n b.joins)) (reads_of width b)) ≡ true
first_part width n b =
    let split : widths (take n b.joins) + widths (drop n b.joins) ≡ widths b.joins = widths_split n b.joins in kept_part width n (width + widths (take n b.joins)) b (omega arith)

-- ---- ranges

no_bounds : (root : ℕ) (parts : List KeyPart) (places : List ℕ) (at : ℕ) → narrowed root parts places at [] ≡ family root
no_bounds root [] places at = refl
no_bounds root (part ∷ parts) [] at = refl
no_bounds root (part ∷ parts) (place ∷ places) at = refl

pub typed_bounds : (p : KeyBound → Bool) (bs : List KeyBound) → list_all p (filter p bs) ≡ true
typed_bounds p [] = refl
typed_bounds p (b ∷ bs) = of_test (p b) refl (typed_bounds p bs) where
  of_test : (t : Bool) → p b ≡ t → list_all p (filter p bs) ≡ true → list_all p (if t then b ∷ filter p bs else filter p bs) ≡ true
  of_test true is rest = ap (λ (c : Bool). c && list_all p (filter p bs)) is ∙ rest
  of_test false is rest = rest

-- a filter made of conditions of which one is refused is
refused_all_true : (es : List Expr) (row : Row) → is_left_out es row ≡ true → IsRefusedBy (all_true es) row
refused_all_true es row is = of_filter (all_true es) refl where
  nothing : (es : List Expr) → all_true es ≡ None → is_left_out es row ≡ false
  nothing [] e = refl
  nothing (x ∷ []) e = cc
  nothing (x ∷ y ∷ more) e = cc

  of_filter : (o : Option Expr) → all_true es ≡ o → IsRefusedBy o row
  of_filter None e = let bad : true ≡ false = sym is ∙ nothing es e in cc
  of_filter (Some f) e = is_refused-all_true row es f e ∙ is

module _ (schema : List Table) (tables : List ℕ) where
  -- ---- the leaf of a table alone

  -- whatever begins with a row that is out of a bound is refused
  table_lost : (k : KeyPart) (at width place : ℕ) (es : List Expr) → place < width → (x : Row) → place < length x → Fits k.kind (column_of x place) → is_in_bounds (bounds_by k.kind (at + place) es) (column_of x place) ≡ false
      → IsLost (all_true (own at (conjuncts_on at (at + width) es))) x
  table_lost k at width place es short x within fits out rest =
      let front : Row = replicate at Null in
      let front_len : length front ≡ at = length-replicate at Null in
      let row : Row = front ++ (x ++ rest) in
      let at_place : column_of row (at + place) ≡ column_of x place =
      (let e : at + place ≡ length front + place = omega arith in ap (column_of row) e ∙ column_of-after front (x ++ rest) place ∙ column_of-append x rest place within) in
      let passes : is_in at (at + width) (at + place) ≡ true = inside at width place short in
      let left : is_left_out (conjuncts_on at (at + width) es) row ≡ true =
      left_out_of_bounds k.kind row (at + place) at (at + width) (subst (Fits k.kind) (sym at_place) fits) passes es (ap (is_in_bounds (bounds_by k.kind (at + place) es)) at_place ∙ out) in
      refused_all_true (own at (conjuncts_on at (at + width) es)) (x ++ rest) (left_out-own at width (conjuncts_on at (at + width) es) (are_on at (at + width) es) front (x ++ rest) front_len ∙ left) where
        inside : (at width place : ℕ) → place < width → is_in at (at + width) (at + place) ≡ true
        inside at width place h = grind (arith, nat_tests)

  module _ (keyed : (t : ℕ) → AllByRecursion (λ (p : ℕ). p < width_of schema t) (key_places schema t)) where
    first_place : (t place : ℕ) (places : List ℕ) → key_places schema t ≡ place ∷ places → place < width_of schema t
    first_place t place places is = (subst (AllByRecursion (λ (p : ℕ). p < width_of schema t)) is (keyed t)).0

    table_narrowed : (t : ℕ) (rs : List Bool) (at width : ℕ) (es : List Expr) → width ≡ width_of schema t → (parts : List KeyPart) (places : List ℕ) → key_columns schema t ≡ parts → key_places schema t ≡ places
        → ((table_leaf schema t rs at width es).range ≡ family (root_of schema t)) ⊎ IsNarrowed schema t (table_leaf schema t rs at width es)
    table_narrowed t rs at width es same [] places cs ps = inl (ap (λ (parts : List KeyPart). narrowed (root_of schema t) parts (key_places schema t) at es) cs)
    table_narrowed t rs at width es same (part ∷ parts) [] cs ps = inl (ap (λ (parts : List KeyPart). narrowed (root_of schema t) parts (key_places schema t) at es) cs ∙ ap (λ (places : List ℕ). narrowed (root_of schema t) (part ∷ parts) places at es) ps)
    table_narrowed t rs at width es same (part ∷ parts) (place ∷ places) cs ps =
        let below : place < width_of schema t = first_place t place places ps in
        let short : place < width = omega arith in
        inr (record {
          part = part;
          parts = parts;
          columns = cs;
          place = place;
          places = places;
          columns_at = ps;
          bounds = bounds_by part.kind (at + place) es;
          typed = typed_bounds (λ (b : KeyBound). is_of_type part.kind b.1) (flat_map (bounds (at + place)) es);
          range = ap (λ (parts : List KeyPart). narrowed (root_of schema t) parts (key_places schema t) at es) cs ∙ ap (λ (places : List ℕ). narrowed (root_of schema t) (part ∷ parts) places at es) ps;
          total = tt {0};
          lost = λ x within fits out. table_lost part at width place es short x within fits out;
        })

    table_planned : (t : ℕ) (rs : List Bool) (at width : ℕ) (es : List Expr) → at + width ≤ length rs → width ≡ width_of schema t → IsPlanned schema (table_leaf schema t rs at width es)
    table_planned t rs at width es fits same = record {
      first = t;
      rest = [];
      tables = refl;
      rooted = tt {0};
      narrowed = table_narrowed t rs at width es same (key_columns schema t) (key_places schema t) refl refl;
      reads_len = (let len : length (take width (drop at rs)) ≡ width = part_len rs at width fits in omega arith);
      part = part_own (take width (drop at rs));
    }

    -- ---- the first leaf

    first_lost : (k : KeyPart) (width place : ℕ) (w : Expr) → place < width → (x : Row) → place < length x → Fits k.kind (column_of x place) → is_in_bounds (bounds_by k.kind (0 + place) (conjuncts w)) (column_of x place) ≡ false
        → (rest : Row) → is_left_out (conjuncts_on 0 width (conjuncts w)) (x ++ rest) ≡ true
    first_lost k width place w short x within fits out rest =
        let at_place : column_of (x ++ rest) place ≡ column_of x place = column_of-append x rest place within in
        let none : 0 + place ≡ place = omega arith in
        let passes : is_in 0 width place ≡ true = inside in
        left_out_of_bounds k.kind (x ++ rest) place 0 width (subst (Fits k.kind) (sym at_place) fits) passes (conjuncts w)
        (ap (is_in_bounds (bounds_by k.kind place (conjuncts w))) at_place ∙ ap (λ (n : ℕ). is_in_bounds (bounds_by k.kind n (conjuncts w)) (column_of x place)) (sym none) ∙ out) where
          inside : is_in 0 width place ≡ true
          inside = grind (arith, nat_tests)

    module _ (b : Block Planned) (t len : ℕ) where
      abbrev leaf_width : ℕ
      leaf_width = width_of schema t + widths (take len b.joins)

      either_lost : (whole : Bool) (k : KeyPart) (place : ℕ) (w : Expr) → place < leaf_width → (x : Row) → place < length x → Fits k.kind (column_of x place) → is_in_bounds (bounds_by k.kind (0 + place) (conjuncts w)) (column_of x place) ≡ false
          → IsLost (if whole then Some w else all_true (conjuncts_on 0 leaf_width (conjuncts w))) x
      either_lost true k place w short x within fits out rest = is_refused-conjuncts (x ++ rest) w ∙ left_out_among 0 leaf_width (conjuncts w) (x ++ rest) (first_lost k leaf_width place w short x within fits out rest)
      either_lost false k place w short x within fits out rest = refused_all_true (conjuncts_on 0 leaf_width (conjuncts w)) (x ++ rest) (first_lost k leaf_width place w short x within fits out rest)

      total_joins : (js : List (Join Planned)) → have_total_ons js ≡ true → (n : ℕ) → AreTotalJoins (map leaf_join (take n js))
      total_joins js total zero = tt {0}
      total_joins [] total (suc n) = tt {0}
      total_joins (j ∷ js) total (suc n) = let parts = and_parts (is_total j.on) (have_total_ons js) total in (parts.0, total_joins js parts.1 n)

      abbrev first_range : List Expr → KeyRange
      first_range es = leaf_range schema t 0 es

      -- where the conjuncts of WHERE leave out rows
      first_narrowed : (whole : Bool) (w : Expr) → b.filter ≡ Some w → have_total_ons b.joins ≡ true → (leaf : Leaf) → leaf.range ≡ first_range (conjuncts w) → leaf.joins ≡ map leaf_join (take len b.joins)
          → leaf.filter ≡ (if whole then Some w else all_true (conjuncts_on 0 leaf_width (conjuncts w)))
          → (parts : List KeyPart) (places : List ℕ) → key_columns schema t ≡ parts → key_places schema t ≡ places → (leaf.range ≡ family (root_of schema t)) ⊎ IsNarrowed schema t leaf
      first_narrowed whole w is total leaf range joins filter [] places cs ps = inl (range ∙ ap (λ (parts : List KeyPart). narrowed (root_of schema t) parts (key_places schema t) 0 (conjuncts w)) cs)
      first_narrowed whole w is total leaf range joins filter (part ∷ parts) [] cs ps =
          inl (range ∙ ap (λ (parts : List KeyPart). narrowed (root_of schema t) parts (key_places schema t) 0 (conjuncts w)) cs ∙ ap (λ (places : List ℕ). narrowed (root_of schema t) (part ∷ parts) places 0 (conjuncts w)) ps)
      first_narrowed whole w is total leaf range joins filter (part ∷ parts) (place ∷ places) cs ps =
          let below : place < width_of schema t = first_place t place places ps in
          let short : place < leaf_width = omega arith in
          inr (record {
            part = part;
            parts = parts;
            columns = cs;
            place = place;
            places = places;
            columns_at = ps;
            bounds = bounds_by part.kind (0 + place) (conjuncts w);
            typed = typed_bounds (λ (b : KeyBound). is_of_type part.kind b.1) (flat_map (bounds (0 + place)) (conjuncts w));
            range = range ∙ ap (λ (parts : List KeyPart). narrowed (root_of schema t) parts (key_places schema t) 0 (conjuncts w)) cs ∙ ap (λ (places : List ℕ). narrowed (root_of schema t) (part ∷ parts) places 0 (conjuncts w)) ps;
            total = subst AreTotalJoins (sym joins) (total_joins b.joins total len);
            lost = λ x within fits out rest. subst (λ (f : Option Expr). IsRefusedBy f (x ++ rest)) (sym filter) (either_lost whole part place w short x within fits out rest);
          })

      first_leaf_narrowed : (f : Option Expr) → b.filter ≡ f → (total : Bool) → have_total_ons b.joins ≡ total → ((first_leaf schema tables b t len).range ≡ family (root_of schema t)) ⊎ IsNarrowed schema t (first_leaf schema tables b t len)
      first_leaf_narrowed f is false total =
          inl (ap (λ (x : Bool). first_range (if x then where_conjuncts b.filter else [])) total ∙ no_bounds (root_of schema t) (key_columns schema t) (key_places schema t) 0)
      first_leaf_narrowed None is true total =
          inl (ap (λ (x : Bool). first_range (if x then where_conjuncts b.filter else [])) total ∙ ap (λ (x : Option Expr). first_range (where_conjuncts x)) is ∙ no_bounds (root_of schema t) (key_columns schema t) (key_places schema t) 0)
      first_leaf_narrowed (Some w) is true total =
          let es : pushable b ≡ conjuncts w = ap (λ (x : Bool). if x then where_conjuncts b.filter else []) total ∙ ap where_conjuncts is in
          first_narrowed (len == length b.joins) w is total (first_leaf schema tables b t len) (ap first_range es) refl
          (ap (λ (x : Option Expr). if len == length b.joins then x else all_true (conjuncts_on 0 leaf_width (pushable b))) is
          ∙ ap (λ (xs : List Expr). if len == length b.joins then Some w else all_true (conjuncts_on 0 leaf_width xs)) es)
          (key_columns schema t) (key_places schema t) refl refl

    -- ---- the leaves of a block, and of a query

    module _ {T : Type 0} (query : T → BoundQuery) where
      abbrev plan_t : T → Planned
      plan_t t = planned schema tables (query t)

      abbrev shape_t : T → Shape
      shape_t t = shape schema tables (query t)

      -- the leaves of a derived table are known where its sizes are right
      abbrev pub KnowsLeaves : T → Type 0
      KnowsLeaves t = is_sized schema tables (query t) ≡ true → AllByRecursion (IsPlanned schema) (plan_t t).leaves

      abbrev planned_joins : List (Join T) → List (Join Planned)
      planned_joins js = map (map_join plan_t) js

      abbrev are_sized : List (Join T) → Bool
      are_sized js = list_all (is_sized_join schema tables) (map (map_join shape_t) js)

      -- the first joins, up to the leaf's number, are of tables of the leaf
      abbrev RootedSo : ℕ → ℕ → ℕ → List (Join T) → Type 0
      RootedSo first at n js = AreRooted schema first at (map leaf_join (take n (planned_joins js))) (map (join_table tables) (take n (planned_joins js)))

      one_rooted : (first at : ℕ) (is_left : Bool) (n width : ℕ) (on : Expr) (js : List (Join T)) (k : ℕ) → (width == width_of schema (table_of tables n)) ≡ true → RootedSo first (at + width) k js
          → (b : Bool) → is_joined_table schema first at on (table_of tables n) ≡ b → RootedSo first at (if b then suc k else 0) (record { is_left = is_left; item = item.Table n; width = width; on = on } ∷ js)
      one_rooted first at is_left n width on js k same rest false is = tt {0}
      one_rooted first at is_left n width on js k same rest true is =
          let parts = and_parts (root_of schema first == root_of schema (table_of tables n)) (equates_all on (root_places schema first) at (root_places schema (table_of tables n))) is in
          ((let e : (root_of schema first == root_of schema (table_of tables n)) ≡ true = parts.0 in grind (arith, nat_tests)), parts.1, grind (arith, nat_tests), rest)

      item_rooted : (first at : ℕ) (is_left : Bool) (i : Item T) (width : ℕ) (on : Expr) (js : List (Join T)) → (width == (item_shape schema tables (map_item shape_t i)).width) ≡ true
          → RootedSo first (at + width) (leaf_len schema tables first (at + width) (planned_joins js)) js
          → let all : List (Join T) = record { is_left = is_left; item = i; width = width; on = on } ∷ js in RootedSo first at (leaf_len schema tables first at (planned_joins all)) all
      item_rooted first at is_left (item.Table n) width on js same rest = one_rooted first at is_left n width on js (leaf_len schema tables first (at + width) (planned_joins js)) same rest (is_joined_table schema first at on (table_of tables n)) refl
      item_rooted first at is_left (item.Derived t) width on js same rest = tt {0}

      leaf_rooted : (first at : ℕ) (js : List (Join T)) → are_sized js ≡ true → RootedSo first at (leaf_len schema tables first at (planned_joins js)) js
      leaf_rooted first at [] sized = tt {0}
      leaf_rooted first at (j ∷ js) sized =
          let parts = and_parts (is_sized_join schema tables (map_join shape_t j)) (are_sized js) sized in
          let here = and_parts (j.width == (item_shape schema tables (map_item shape_t j.item)).width) ((item_shape schema tables (map_item shape_t j.item)).is_sized) parts.0 in
          item_rooted first at j.is_left j.item j.width j.on js here.0 (leaf_rooted first (at + j.width) js parts.1)

      -- what is known of derived tables
      abbrev pub KnowsItem : Item T → Type 0
      KnowsItem (item.Table n) = Unit {0}
      KnowsItem (item.Derived t) = KnowsLeaves t

      abbrev pub KnowsJoin : Join T → Type 0
      KnowsJoin j = KnowsItem j.item

      all_append : {A : Type 0} (P : A → Type 0) (xs ys : List A) → AllByRecursion P xs → AllByRecursion P ys → AllByRecursion P (xs ++ ys)
      all_append P [] ys a b = b
      all_append P (x ∷ xs) ys a b = (a.0, all_append P xs ys a.1 b)

      all_drop : {A : Type 0} (P : A → Type 0) (n : ℕ) (xs : List A) → AllByRecursion P xs → AllByRecursion P (drop n xs)
      all_drop P zero xs all = all
      all_drop P (suc n) [] all = tt {0}
      all_drop P (suc n) (x ∷ xs) all = all_drop P n xs all.1

      sized_drop : (n : ℕ) (js : List (Join T)) → are_sized js ≡ true → are_sized (drop n js) ≡ true
      sized_drop zero js sized = sized
      sized_drop (suc n) [] sized = sized
      sized_drop (suc n) (j ∷ js) sized = sized_drop n js (and_parts (is_sized_join schema tables (map_join shape_t j)) (are_sized js) sized).1

      item_leaves : (rs : List Bool) (at : ℕ) (es : List Expr) (is_left : Bool) (width : ℕ) (i : Item T) → at + width ≤ length rs → KnowsItem i → (width == (item_shape schema tables (map_item shape_t i)).width) ≡ true → (item_shape schema tables (map_item shape_t i)).is_sized ≡ true
          → AllByRecursion (IsPlanned schema) (join_leaves schema tables rs at es is_left width (map_item plan_t i))
      item_leaves rs at es is_left width (item.Table n) fits knows same sized = (table_planned (table_of tables n) rs at width (unless_left is_left es) fits (grind (arith, nat_tests)), tt {0})
      item_leaves rs at es is_left width (item.Derived t) fits knows same sized = knows sized

      rest_planned : (rs : List Bool) (es : List Expr) (at : ℕ) (js : List (Join T)) → at + widths (planned_joins js) ≤ length rs → AllByRecursion KnowsJoin js → are_sized js ≡ true → AllByRecursion (IsPlanned schema) (rest_leaves schema tables rs es at (planned_joins js))
      rest_planned rs es at [] fits knows sized = tt {0}
      rest_planned rs es at (j ∷ js) fits knows sized =
          let parts = and_parts (is_sized_join schema tables (map_join shape_t j)) (are_sized js) sized in
          let here = and_parts (j.width == (item_shape schema tables (map_item shape_t j.item)).width) ((item_shape schema tables (map_item shape_t j.item)).is_sized) parts.0 in
          all_append (IsPlanned schema) (join_leaves schema tables rs at es j.is_left j.width (map_item plan_t j.item)) (rest_leaves schema tables rs es (at + j.width) (planned_joins js))
          (item_leaves rs at es j.is_left j.width j.item (omega arith) knows.0 here.0 here.1) (rest_planned rs es (at + j.width) js (omega arith) knows.1 parts.1)

      first_planned : (b : Block T) (n : ℕ) → are_sized b.joins ≡ true → let t : ℕ = table_of tables n in let len : ℕ = leaf_len schema tables t (width_of schema t) (planned_joins b.joins) in IsPlanned schema (first_leaf schema tables (map_block plan_t b) t len)
      first_planned b n sized =
          let t : ℕ = table_of tables n in
          let len : ℕ = leaf_len schema tables t (width_of schema t) (planned_joins b.joins) in
          record {
            first = t;
            rest = map (join_table tables) (take len (planned_joins b.joins));
            tables = refl;
            rooted = leaf_rooted t (width_of schema t) b.joins sized;
            narrowed = first_leaf_narrowed (map_block plan_t b) t len b.filter refl (have_total_ons (planned_joins b.joins)) refl;
            reads_len = first_reads_len (width_of schema t) len (map_block plan_t b);
            part = first_part (width_of schema t) len (map_block plan_t b);
          }

      from_planned : (b : Block T) (i : Item T) → KnowsItem i → (item_shape schema tables (map_item shape_t i)).is_sized ≡ true → AllByRecursion KnowsJoin b.joins → are_sized b.joins ≡ true → AllByRecursion (IsPlanned schema) (leaves_from schema tables (map_block plan_t b) (map_item plan_t i))
      from_planned b (item.Table n) knows first_sized knows_rest sized =
          let t : ℕ = table_of tables n in
          let len : ℕ = leaf_len schema tables t (width_of schema t) (planned_joins b.joins) in
          let rs : List Bool = reads_of (width_of schema t) (map_block plan_t b) in
          let all : length rs ≡ width_of schema t + widths (planned_joins b.joins) = reads_of_len (width_of schema t) (map_block plan_t b) in
          let split : widths (take len (planned_joins b.joins)) + widths (planned_joins (drop len b.joins)) ≡ widths (planned_joins b.joins) =
          ap (λ (js : List (Join Planned)). widths (take len (planned_joins b.joins)) + widths js) (sym (drop-map (map_join plan_t) len b.joins)) ∙ widths_split len (planned_joins b.joins) in (
            first_planned b n sized,
            subst (λ (js : List (Join Planned)). AllByRecursion (IsPlanned schema) (rest_leaves schema tables rs (pushable (map_block plan_t b)) (width_of schema t + widths (take len (planned_joins b.joins))) js)) (sym (drop-map (map_join plan_t) len b.joins))
                (rest_planned rs (pushable (map_block plan_t b)) (width_of schema t + widths (take len (planned_joins b.joins))) (drop len b.joins) (omega arith) (all_drop KnowsJoin len b.joins knows_rest) (sized_drop len b.joins sized)),
          )
      from_planned b (item.Derived t) knows first_sized knows_rest sized =
          all_append (IsPlanned schema) (plan_t t).leaves (rest_leaves schema tables (reads_of (plan_t t).width (map_block plan_t b)) (pushable (map_block plan_t b)) (plan_t t).width (planned_joins b.joins)) (knows first_sized)
          (rest_planned (reads_of (plan_t t).width (map_block plan_t b)) (pushable (map_block plan_t b)) (plan_t t).width b.joins (let all : length (reads_of (plan_t t).width (map_block plan_t b)) ≡ (plan_t t).width + widths (planned_joins b.joins) = reads_of_len (plan_t t).width (map_block plan_t b) in omega arith) knows_rest sized)

      pub record KnowsBlock (b : Block T) : Type 0 where
        pub first : KnowsItem b.from
        pub rest : AllByRecursion KnowsJoin b.joins

      block_planned : (b : Block T) → KnowsBlock b → is_sized_block schema tables (map_block shape_t b) ≡ true → AllByRecursion (IsPlanned schema) (block_leaves schema tables (map_block plan_t b))
      block_planned b knows sized =
          let parts = and_parts ((item_shape schema tables (map_item shape_t b.from)).is_sized) (are_sized b.joins) sized in
          from_planned b b.from knows.first parts.0 knows.rest parts.1

      pub blocks_planned : (bs : List (Block T)) → AllByRecursion KnowsBlock bs → list_all (is_sized_block schema tables) (map (map_block shape_t) bs) ≡ true → AllByRecursion (IsPlanned schema) (flat_map (block_leaves schema tables) (map (map_block plan_t) bs))
      blocks_planned [] knows sized = tt {0}
      blocks_planned (b ∷ bs) knows sized =
          let parts = and_parts (is_sized_block schema tables (map_block shape_t b)) (list_all (is_sized_block schema tables) (map (map_block shape_t) bs)) sized in
          all_append (IsPlanned schema) (block_leaves schema tables (map_block plan_t b)) (flat_map (block_leaves schema tables) (map (map_block plan_t) bs)) (block_planned b knows.0 parts.0) (blocks_planned bs knows.1 parts.1)
