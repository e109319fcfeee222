-- A block above its leaves gives what the block gives on whole tables, where each derived table does so.
use Rattle.std.proofs.Common.{◌≡◌, ℕ, ◌+◌, ◌==◌, suc, zero, Bool, true, false, List, [], ◌∷◌, ◌++◌, map, take, drop, length, Option, Some, None, refl, ap, sym, ◌∙◌, subst, arith}
use Rattle.std.specs.Prelude.{filter as filter_list, if◌then◌else◌}
use Rattle.std.specs.List.{AllByRecursion, fold}
use Rattle.std.proofs.lemmas.Bool.Decides.{nat_tests}
use Rattle.std.proofs.lemmas.Bool.{and_parts}
use Rattle.span_schema.specs.declared.table.Table.{Table}
use Rattle.span_expr.specs.declared.expr.Expr.{Expr}
use Rattle.span_expr.specs.Meaning.{is_total}
use Rattle.span_expr.specs.Conjuncts.{conjuncts, all_true}
use Rattle.span_query.specs.declared.query.BoundQuery.{BoundQuery}
use Rattle.span_query.specs.declared.query.Block.{Block}
use Rattle.span_query.specs.declared.query.Item.{Item}
use Rattle.span_query.specs.declared.query.Item.TheVariants as item
use Rattle.span_query.specs.declared.query.Join.{Join}
use Rattle.span_query.specs.Rows.{Row, Rows, ◌>>=◌, filter_where, project_rows}
use Rattle.span_query.specs.Groups.{group_rows}
use Rattle.span_query.specs.Meaning.{item_rows, join_rows, join_next, from, distinct_if, block_rows, meaning_over}
use Rattle.span_query.proofs.Layers.{map_item, map_join, map_block}
use Rattle.span_query.proofs.Results.{bind-assoc, bind-Some}
use Rattle.span_columns.specs.declared.leaf.LeafJoin.{LeafJoin}
use Rattle.span_columns.specs.declared.leaf.Leaf.{Leaf}
use Rattle.span_leaves.specs.Conditions.{have_total_ons, where_conjuncts, conjuncts_on}
use Rattle.span_leaves.specs.Leaves.{table_of, width_of, is_joined, leaf_len, leaf_join, join_table, widths, reads_of, first_leaf, unless_left}
use Rattle.span_planner.specs.Plans.{Planned, join_leaves, rest_leaves, leaves_from, block_leaves, count_leaves, top_join, top_joins, top_from, top_block}
use Rattle.span_leaves.specs.Results.{as_join, join_tables, leaf_rows}
use Rattle.span_leaves.proofs.Joins.{Joined, run_join, run_joins, run_where, AreGiven, AreTotal, AllGiven}
use Rattle.span_leaves.proofs.Pushing.{is_kept, AreOfWidth, filter_where-all_true, left_out_below, all_of_given}
use Rattle.span_leaves.proofs.Narrowing.{own, are_on, all_total, refused_by, narrowing, Further, narrow_item, narrow, joined_of, IsWide, AreWide, wide_join, wide_filter, narrowed_below}
use Rattle.std.proofs.lemmas.List.{map-append, take-map, drop-map, take-append-drop}
use Rattle.std.proofs.lemmas.Simd.{map-map}
use Rattle.std.proofs.Math.Seq.{drop-length}
use Rattle.span_value.proofs.Lists.{all_weaker, all_drop}
use Rattle.span_leaves.proofs.Narrowed.{bind-same}

-- ---- a FROM as joins one after another

abbrev pub joined_item : (ℕ → Rows) → Join Rows → Joined
joined_item tables j = record { join = leaf_join j; rows = item_rows tables j.item }

pub fold-joins : (tables : ℕ → Rows) (joins : List (Join Rows)) (o : Rows) → fold (join_next tables) o joins ≡ (o >>= run_joins (map (joined_item tables) joins))
fold-joins tables [] o = sym (bind-Some o)
fold-joins tables (j ∷ joins) o = fold-joins tables joins (join_next tables o j) ∙ bind-assoc o (run_join (joined_item tables j)) (run_joins (map (joined_item tables) joins))

-- FROM and then WHERE
abbrev pub from_where : (ℕ → Rows) → Block Rows → Rows
from_where tables b = from tables b.from b.joins >>= filter_where b.filter

-- ---- which leaf gives which result

module _ (w : ℕ → List Row) where
  -- the leaves give the results after the given number of others
  abbrev pub AgreesAt : ℕ → List Leaf → (ℕ → Rows) → Type 0
  AgreesAt before [] f = Unit {0}
  AgreesAt before (l ∷ leaves) f = (f (before + 1) ≡ leaf_rows l (map w l.tables)) × AgreesAt (before + 1) leaves f

  pub agrees_front : (before : ℕ) (xs ys : List Leaf) (f : ℕ → Rows) → AgreesAt before (xs ++ ys) f → AgreesAt before xs f
  agrees_front before [] ys f agrees = tt {0}
  agrees_front before (l ∷ xs) ys f agrees = (agrees.0, agrees_front (before + 1) xs ys f agrees.1)

  pub agrees_rest : (before : ℕ) (xs ys : List Leaf) (f : ℕ → Rows) → AgreesAt before (xs ++ ys) f → AgreesAt (before + length xs) ys f
  agrees_rest before [] ys f agrees = let e : before ≡ before + 0 = omega arith in subst (λ (n : ℕ). AgreesAt n ys f) e agrees
  agrees_rest before (l ∷ xs) ys f agrees =
      let e : (before + 1) + length xs ≡ before + suc (length xs) = omega arith in
      subst (λ (n : ℕ). AgreesAt n ys f) e (agrees_rest (before + 1) xs ys f agrees.1)

-- ---- one block

-- what is known of its derived tables: how each is planned, and what it means
module _ (schema : List Table) (tables : List ℕ) (w : ℕ → List Row) (f0 f : ℕ → Rows) (Q : Type 0) (plan_q : Q → Planned) (mean : Q → Rows) where
  abbrev pub IsTableGiven : Type 0
  IsTableGiven = (n : ℕ) → f0 n ≡ Some (w (table_of tables n))

  -- above its leaves the derived table means what it means
  abbrev pub Keeps : Q → Type 0
  Keeps q = (before : ℕ) → AgreesAt w before (plan_q q).leaves f → meaning_over f ((plan_q q).top before) ≡ mean q

  abbrev pub KeepsItem : Item Q → Type 0
  KeepsItem (item.Table n) = Unit {0}
  KeepsItem (item.Derived q) = Keeps q

  abbrev pub KeepsJoin : Join Q → Type 0
  KeepsJoin j = KeepsItem j.item

  abbrev is_table : Item Q → Bool
  is_table (item.Table n) = true
  is_table (item.Derived q) = false

  abbrev pub further : Join Q → Further
  further j = (joined_item f0 (map_join mean j), is_table j.item)

  abbrev planned_join : Join Q → Join Planned
  planned_join j = map_join plan_q j

  -- an item above the leaves
  abbrev above : Join BoundQuery → Joined
  above j = joined_item f (map_join (meaning_over f) j)

  one_above : (given : IsTableGiven) (rs : List Bool) (es : List Expr) (at before : ℕ) (is_left : Bool) (i : Item Q) (width : ℕ) (on : Expr) → KeepsItem i
      → AgreesAt w before (join_leaves schema tables rs at es is_left width (map_item plan_q i)) f
      → above (top_join before (record { is_left = is_left; item = map_item plan_q i; width = width; on = on })) ≡ narrow_item es at (joined_item f0 (record { is_left = is_left; item = map_item mean i; width = width; on = on })) (is_table i)
  one_above given rs es at before is_left (item.Table n) width on keeps agrees =
      ap (λ (o : Rows). record { join = record { is_left = is_left; width = width; on = on }; rows = o })
      (agrees.0 ∙ ap (λ (o : Rows). o >>= filter_where (all_true (narrowing es at (record { is_left = is_left; width = width; on = on })))) (sym (given n)))
  one_above given rs es at before is_left (item.Derived q) width on keeps agrees =
      ap (λ (o : Rows). record { join = record { is_left = is_left; width = width; on = on }; rows = o }) (keeps before agrees)

  counted : (rs : List Bool) (es : List Expr) (at : ℕ) (is_left : Bool) (width : ℕ) (i : Item Planned) → length (join_leaves schema tables rs at es is_left width i) ≡ count_leaves i
  counted rs es at is_left width (item.Table n) = refl
  counted rs es at is_left width (item.Derived p) = refl

  -- the items after the first leaf, above the leaves, are the narrowed ones
  rest_above : IsTableGiven → (rs : List Bool) (es : List Expr) (at before : ℕ) (joins : List (Join Q)) → AllByRecursion KeepsJoin joins
      → AgreesAt w before (rest_leaves schema tables rs es at (map planned_join joins)) f
      → map above (top_joins before (map planned_join joins)) ≡ narrow es at (map further joins)
  rest_above given rs es at before [] keeps agrees = refl
  rest_above given rs es at before (j ∷ joins) keeps agrees =
      let leaves : List Leaf = join_leaves schema tables rs at es j.is_left j.width (map_item plan_q j.item) in
      let rest : List Leaf = rest_leaves schema tables rs es (at + j.width) (map planned_join joins) in
      let after : AgreesAt w (before + count_leaves (map_item plan_q j.item)) rest f =
      subst (λ (n : ℕ). AgreesAt w (before + n) rest f) (counted rs es at j.is_left j.width (map_item plan_q j.item)) (agrees_rest w before leaves rest f agrees) in
      ap (λ (x : Joined). x ∷ map above (top_joins (before + count_leaves (map_item plan_q j.item)) (map planned_join joins)))
      (one_above given rs es at before j.is_left j.item j.width j.on keeps.0 (agrees_front w before leaves rest f agrees))
      ∙ ap (λ (xs : List Joined). narrow_item es at (further j).0 (further j).1 ∷ xs) (rest_above given rs es (at + j.width) (before + count_leaves (map_item plan_q j.item)) joins keeps.1 after)

  narrow-none : (at : ℕ) (items : List Further) → narrow [] at items ≡ joined_of items
  narrow-none at [] = refl
  narrow-none at (i ∷ items) = ap (λ (x : Joined). x ∷ narrow [] (at + i.0.join.width) items) (one i.0 i.1) ∙ ap (λ (xs : List Joined). i.0 ∷ xs) (narrow-none (at + i.0.join.width) items) where
    none : (b : Bool) (low high : ℕ) → conjuncts_on low high (unless_left b []) ≡ []
    none true low high = refl
    none false low high = refl

    one : (x : Joined) (t : Bool) → narrow_item [] at x t ≡ x
    one x true =
        ap (λ (es : List Expr). record { join = x.join; rows = x.rows >>= filter_where (all_true (own at es)) }) (none x.join.is_left at (at + x.join.width))
        ∙ ap (λ (o : Rows). record { join = x.join; rows = o }) (bind-Some x.rows)
    one x false = refl

  -- ---- the first leaf

  abbrev len_of : ℕ → ℕ → List (Join Q) → ℕ
  len_of first at joins = leaf_len schema tables first at (map planned_join joins)

  abbrev leaf_tables : List (Join Planned) → List (List Row)
  leaf_tables joins = map w (map (join_table tables) joins)

  -- the tables of the first leaf, joined
  -- the tables of the given number of further items, joined, are those items
  abbrev JoinsSo : ℕ → List (Join Q) → Type 0
  JoinsSo n joins = (rows : List Row) → join_tables (map leaf_join (take n (map planned_join joins))) (leaf_tables (take n (map planned_join joins))) rows ≡ run_joins (joined_of (map further (take n joins))) rows

  one_joined : IsTableGiven → (is_left : Bool) (n width : ℕ) (on : Expr) (joins : List (Join Q)) (k : ℕ) → JoinsSo k joins
      → (b : Bool) → JoinsSo (if b then suc k else 0) (record { is_left = is_left; item = item.Table n; width = width; on = on } ∷ joins)
  one_joined given is_left n width on joins k rest false rows = refl
  one_joined given is_left n width on joins k rest true rows =
      let j : LeafJoin = record { is_left = is_left; width = width; on = on } in
      bind-same (join_rows (as_join j) rows (w (table_of tables n))) (join_tables (map leaf_join (take k (map planned_join joins))) (leaf_tables (take k (map planned_join joins)))) (run_joins (joined_of (map further (take k joins)))) rest
      ∙ ap (λ (o : Rows). (o >>= join_rows (as_join j) rows) >>= run_joins (joined_of (map further (take k joins)))) (sym (given n))

  item_joined : IsTableGiven → (first at : ℕ) (is_left : Bool) (i : Item Q) (width : ℕ) (on : Expr) (joins : List (Join Q)) → JoinsSo (len_of first (at + width) joins) joins
      → let js : List (Join Q) = record { is_left = is_left; item = i; width = width; on = on } ∷ joins in JoinsSo (len_of first at js) js
  item_joined given first at is_left (item.Table n) width on joins rest rows = one_joined given is_left n width on joins (len_of first (at + width) joins) rest (is_joined {Q = Planned} schema tables first at on (item.Table n)) rows
  item_joined given first at is_left (item.Derived q) width on joins rest rows = refl

  -- the tables of the first leaf, joined, are its items
  leaf_joins : IsTableGiven → (first at : ℕ) (joins : List (Join Q)) → JoinsSo (len_of first at joins) joins
  leaf_joins given first at [] rows = refl
  leaf_joins given first at (j ∷ joins) rows = item_joined given first at j.is_left j.item j.width j.on joins (leaf_joins given first (at + j.width) joins) rows

  -- the given number of further items are tables
  abbrev GivenSo : ℕ → List (Join Q) → Type 0
  GivenSo n joins = AreGiven (joined_of (map further (take n joins)))

  one_given : IsTableGiven → (is_left : Bool) (n width : ℕ) (on : Expr) (joins : List (Join Q)) (k : ℕ) → GivenSo k joins
      → (b : Bool) → GivenSo (if b then suc k else 0) (record { is_left = is_left; item = item.Table n; width = width; on = on } ∷ joins)
  one_given given is_left n width on joins k rest false = tt {0}
  one_given given is_left n width on joins k rest true = ((w (table_of tables n), given n), rest)

  item_given : IsTableGiven → (first at : ℕ) (is_left : Bool) (i : Item Q) (width : ℕ) (on : Expr) (joins : List (Join Q)) → GivenSo (len_of first (at + width) joins) joins
      → let js : List (Join Q) = record { is_left = is_left; item = i; width = width; on = on } ∷ joins in GivenSo (len_of first at js) js
  item_given given first at is_left (item.Table n) width on joins rest = one_given given is_left n width on joins (len_of first (at + width) joins) rest (is_joined {Q = Planned} schema tables first at on (item.Table n))
  item_given given first at is_left (item.Derived q) width on joins rest = tt {0}

  leaf_given : IsTableGiven → (first at : ℕ) (joins : List (Join Q)) → GivenSo (len_of first at joins) joins
  leaf_given given first at [] = tt {0}
  leaf_given given first at (j ∷ joins) = item_given given first at j.is_left j.item j.width j.on joins (leaf_given given first (at + j.width) joins)

  -- ---- widths and ONs of a part of the items

  all_total_ons : (joins : List (Join Q)) → have_total_ons (map planned_join joins) ≡ true → AreTotal (joined_of (map further joins))
  all_total_ons [] is = tt {0}
  all_total_ons (j ∷ joins) is = let parts = and_parts (is_total j.on) (have_total_ons (map planned_join joins)) is in (parts.0, all_total_ons joins parts.1)

  abbrev width_of_items : List (Join Q) → ℕ
  width_of_items joins = widths (map planned_join joins)

  -- joined tables give rows, which have the columns of all
  wide_joins : (joins : List (Join Q)) → AreGiven (joined_of (map further joins)) → AreTotal (joined_of (map further joins)) → AreWide (map further joins) → (at : ℕ) (rows : List Row) → AreOfWidth at rows
      → AllGiven (λ (r : Row). length r ≡ at + width_of_items joins) (run_joins (joined_of (map further joins)) rows)
  wide_joins [] given total wide at rows is = all_weaker (λ (r : Row). length r ≡ at) (λ (r : Row). length r ≡ at + 0) (λ r e. omega arith) rows is
  wide_joins (j ∷ joins) given total wide at rows is =
      let i : Joined = (further j).0 in
      let right_wide : AreOfWidth j.width given.0.0 = subst (IsWide j.width) given.0.1 wide.0 in
      let found = all_of_given (λ (r : Row). length r ≡ at + j.width) (join_rows (as_join i.join) rows given.0.0) (wide_join i.join total.0 at rows given.0.0 is right_wide) in
      let joined : run_join i rows ≡ Some found.0 = ap (λ (o : Rows). o >>= join_rows (as_join i.join) rows) given.0.1 ∙ found.1 in
      let sum : (at + j.width) + width_of_items joins ≡ at + (j.width + width_of_items joins) = omega arith in
      subst (λ (o : Rows). AllGiven (λ (r : Row). length r ≡ at + (j.width + width_of_items joins)) (o >>= run_joins (joined_of (map further joins)))) (sym joined)
      (subst (λ (n : ℕ). AllGiven (λ (r : Row). length r ≡ n) (run_joins (joined_of (map further joins)) found.0)) sum (wide_joins joins given.1 total.1 wide.1 (at + j.width) found.0 found.2))

  run_joins-split : (xs ys : List Joined) (rows : List Row) → run_joins (xs ++ ys) rows ≡ (run_joins xs rows >>= run_joins ys)
  run_joins-split [] ys rows = refl
  run_joins-split (x ∷ xs) ys rows =
      bind-same (run_join x rows) (run_joins (xs ++ ys)) (λ (next : List Row). run_joins xs next >>= run_joins ys) (run_joins-split xs ys)
      ∙ sym (bind-assoc (run_join x rows) (run_joins xs) (run_joins ys))

  -- the items of the first leaf, and those after them
  abbrev joined_items : List (Join Q) → List Joined
  joined_items joins = joined_of (map further joins)

  run-split : (n : ℕ) (joins : List (Join Q)) (rows : List Row) → run_joins (joined_items joins) rows ≡ (run_joins (joined_items (take n joins)) rows >>= run_joins (joined_items (drop n joins)))
  run-split n joins rows =
      ap (λ (js : List (Join Q)). run_joins (joined_items js) rows) (sym (take-append-drop n joins))
      ∙ ap (λ (fs : List Further). run_joins (joined_of fs) rows) (map-append further (take n joins) (drop n joins))
      ∙ ap (λ (xs : List Joined). run_joins xs rows) (map-append (λ (i : Further). i.0) (map further (take n joins)) (map further (drop n joins)))
      ∙ run_joins-split (joined_items (take n joins)) (joined_items (drop n joins)) rows

  -- ---- further items after rows of a width

  abbrev top_items : ℕ → List (Join Q) → List Joined
  top_items before joins = map above (top_joins before (map planned_join joins))

  -- the conjuncts that leave out rows before the joins
  abbrev pushed : Option Expr → List (Join Q) → List Expr
  pushed filter all = if have_total_ons (map planned_join all) then where_conjuncts filter else []

  -- after rows of a width
  rest_same : IsTableGiven → (rs : List Bool) (filter : Option Expr) (all rest : List (Join Q)) → (have_total_ons (map planned_join all) ≡ true → AreTotal (joined_items rest)) → AllByRecursion KeepsJoin rest → AreWide (map further rest)
      → (before at : ℕ) → AgreesAt w before (rest_leaves schema tables rs (pushed filter all) at (map planned_join rest)) f
      → (rows : List Row) → (have_total_ons (map planned_join all) ≡ true → AreOfWidth at rows)
      → run_where filter (top_items before rest) rows ≡ run_where filter (joined_items rest) rows
  rest_same given rs filter all rest total keeps wide before at agrees rows rows_wide =
      ap (λ (xs : List Joined). run_where filter xs rows) (rest_above given rs (pushed filter all) at before rest keeps agrees)
      ∙ of_cases filter (have_total_ons (map planned_join all)) total rows_wide where
        of_cases : (w' : Option Expr) (b : Bool) → (b ≡ true → AreTotal (joined_items rest)) → (b ≡ true → AreOfWidth at rows) → run_where w' (narrow (if b then where_conjuncts w' else []) at (map further rest)) rows ≡ run_where w' (joined_items rest) rows
        of_cases w' false total is = ap (λ (xs : List Joined). run_where w' xs rows) (narrow-none at (map further rest))
        of_cases None true total is = ap (λ (xs : List Joined). run_where None xs rows) (narrow-none at (map further rest))
        of_cases (Some e) true total is = narrowed_below e at (map further rest) (total refl) wide rows (is refl)

  -- the rows of which the conjuncts on them leave some out
  abbrev first_rows : Option Expr → List (Join Q) → ℕ → List Row → Rows
  first_rows filter all n rows = filter_where (all_true (conjuncts_on 0 n (pushed filter all))) rows

  after_first : IsTableGiven → (rs : List Bool) (filter : Option Expr) (all rest : List (Join Q)) → (have_total_ons (map planned_join all) ≡ true → AreTotal (joined_items rest)) → AllByRecursion KeepsJoin rest → AreWide (map further rest)
      → (before at : ℕ) → AgreesAt w before (rest_leaves schema tables rs (pushed filter all) at (map planned_join rest)) f
      → (rows : List Row) → (have_total_ons (map planned_join all) ≡ true → AreOfWidth at rows)
      → (first_rows filter all at rows >>= run_where filter (top_items before rest)) ≡ run_where filter (joined_items rest) rows
  after_first given rs filter all rest total keeps wide before at agrees rows rows_wide =
      of_cases filter (have_total_ons (map planned_join all)) refl total rows_wide (λ next next_wide. rest_same given rs filter all rest total keeps wide before at agrees next next_wide) where
        of_cases : (w' : Option Expr) (b : Bool) → have_total_ons (map planned_join all) ≡ b → (b ≡ true → AreTotal (joined_items rest)) → (b ≡ true → AreOfWidth at rows)
            → ((next : List Row) → (have_total_ons (map planned_join all) ≡ true → AreOfWidth at next) → run_where w' (top_items before rest) next ≡ run_where w' (joined_items rest) next)
            → (filter_where (all_true (conjuncts_on 0 at (if b then where_conjuncts w' else []))) rows >>= run_where w' (top_items before rest)) ≡ run_where w' (joined_items rest) rows
        of_cases w' false b_is total is same = same rows rows_wide
        of_cases None true b_is total is same = same rows rows_wide
        of_cases (Some e) true b_is total is same =
            let cs : List Expr = conjuncts_on 0 at (conjuncts e) in
            ap (λ (o : Rows). o >>= run_where (Some e) (top_items before rest)) (filter_where-all_true cs (all_total 0 at cs (are_on 0 at (conjuncts e))) rows)
            ∙ same (filter_list (is_kept cs) rows) (λ _. wide_filter at (is_kept cs) rows (is refl))
            ∙ left_out_below e (joined_items rest) (total refl) at cs (refused_by e 0 at) rows (is refl)

  -- ---- the block

  drop_length : {A : Type 0} (n : ℕ) (xs : List A) → (n == length xs) ≡ true → drop n xs ≡ []
  drop_length n xs is = let e : n ≡ length xs = grind (arith, nat_tests) in ap (λ (k : ℕ). drop k xs) e ∙ drop-length xs

  -- FROM and WHERE above the leaves, as joins after the first item
  from-above : (first : Item Rows) (joins : List (Join BoundQuery)) (filter : Option Expr)
      → (from f first (map (map_join (meaning_over f)) joins) >>= filter_where filter) ≡ (item_rows f first >>= run_where filter (map above joins))
  from-above first joins filter =
      ap (λ (o : Rows). o >>= filter_where filter) (fold-joins f (map (map_join (meaning_over f)) joins) (item_rows f first))
      ∙ ap (λ (xs : List Joined). (item_rows f first >>= run_joins xs) >>= filter_where filter) (map-map (joined_item f) (map_join (meaning_over f)) joins)
      ∙ bind-assoc (item_rows f first) (run_joins (map above joins)) (filter_where filter)

  from-whole : (first : Item Rows) (joins : List (Join Q)) (filter : Option Expr)
      → (from f0 first (map (map_join mean) joins) >>= filter_where filter) ≡ (item_rows f0 first >>= run_where filter (joined_items joins))
  from-whole first joins filter =
      ap (λ (o : Rows). o >>= filter_where filter) (fold-joins f0 (map (map_join mean) joins) (item_rows f0 first))
      ∙ ap (λ (xs : List Joined). (item_rows f0 first >>= run_joins xs) >>= filter_where filter) (map-map (joined_item f0) (map_join mean) joins ∙ sym (map-map (λ (i : Further). i.0) further joins))
      ∙ bind-assoc (item_rows f0 first) (run_joins (joined_items joins)) (filter_where filter)

  -- the rows of the first item have its columns
  abbrev pub IsSizedFirst : Item Q → Type 0
  IsSizedFirst (item.Table n) = AreOfWidth (width_of schema (table_of tables n)) (w (table_of tables n))
  IsSizedFirst (item.Derived q) = IsWide (plan_q q).width (mean q)

  -- every item of the block gives rows of its columns
  pub record IsSized (b : Block Q) : Type 0 where
    pub first : IsSizedFirst b.from
    pub rest : AreWide (map further b.joins)

  pub record KeepsBlock (b : Block Q) : Type 0 where
    pub first : KeepsItem b.from
    pub rest : AllByRecursion KeepsJoin b.joins

  -- ---- a FROM that begins with a table

  module _ (b : Block Q) (n : ℕ) where
    abbrev table : ℕ
    table = table_of tables n

    abbrev wide_first : ℕ
    wide_first = width_of schema table

    abbrev len : ℕ
    len = len_of table wide_first b.joins

    abbrev planned_joins : List (Join Planned)
    planned_joins = map planned_join b.joins

    abbrev leaf_width : ℕ
    leaf_width = wide_first + widths (take len planned_joins)

    -- the first table and the rest of its leaf, joined
    abbrev leaf_found : Rows
    leaf_found = run_joins (joined_items (take len b.joins)) (w table)

    abbrev leaf_filter : Bool → Option Expr
    leaf_filter whole = if whole then b.filter else all_true (conjuncts_on 0 leaf_width (pushed b.filter b.joins))

    abbrev top_filter : Bool → Option Expr
    top_filter whole = if whole then None else b.filter

    map_nil : (xs : List (Join Q)) → map planned_join xs ≡ [] → xs ≡ []
    map_nil [] e = refl
    map_nil (x ∷ xs) e = cc

    whole_leaf : (len == length planned_joins) ≡ true → (before : ℕ)
        → ((leaf_found >>= filter_where b.filter) >>= run_where None (map above (top_joins before (drop len planned_joins)))) ≡ (Some (w table) >>= run_where b.filter (joined_items b.joins))
    whole_leaf is before =
        let none_left : drop len planned_joins ≡ [] = drop_length len planned_joins is in
        let none : drop len b.joins ≡ [] = map_nil (drop len b.joins) (sym (drop-map planned_join len b.joins) ∙ none_left) in
        ap (λ (js : List (Join Planned)). (leaf_found >>= filter_where b.filter) >>= run_where None (map above (top_joins before js))) none_left
        ∙ bind-Some (leaf_found >>= filter_where b.filter)
        ∙ sym (ap (λ (o : Rows). o >>= filter_where b.filter) (run-split len b.joins (w table) ∙ ap (λ (js : List (Join Q)). leaf_found >>= run_joins (joined_items js)) none ∙ bind-Some leaf_found))

    drop_total : (k : ℕ) (js : List (Join Q)) → AreTotal (joined_items js) → AreTotal (joined_items (drop k js))
    drop_total zero js total = total
    drop_total (suc k) [] total = tt {0}
    drop_total (suc k) (j ∷ js) total = drop_total k js total.1

    drop_wide : (k : ℕ) (js : List (Join Q)) → AreWide (map further js) → AreWide (map further (drop k js))
    drop_wide zero js wide = wide
    drop_wide (suc k) [] wide = tt {0}
    drop_wide (suc k) (j ∷ js) wide = drop_wide k js wide.1

    take_total : (k : ℕ) (js : List (Join Q)) → AreTotal (joined_items js) → AreTotal (joined_items (take k js))
    take_total zero js total = tt {0}
    take_total (suc k) [] total = tt {0}
    take_total (suc k) (j ∷ js) total = (total.0, take_total k js total.1)

    take_wide : (k : ℕ) (js : List (Join Q)) → AreWide (map further js) → AreWide (map further (take k js))
    take_wide zero js wide = tt {0}
    take_wide (suc k) [] wide = tt {0}
    take_wide (suc k) (j ∷ js) wide = (wide.0, take_wide k js wide.1)

    -- the leaf's rows have the columns of its tables, where no ON can fault
    leaf_wide : IsTableGiven → IsSized b → AreOfWidth wide_first (w table) → have_total_ons planned_joins ≡ true → (rows : List Row) → leaf_found ≡ Some rows → AreOfWidth leaf_width rows
    leaf_wide given sized first_wide total rows is =
        let total_all = all_total_ons b.joins total in
        let found : AllGiven (λ (r : Row). length r ≡ wide_first + width_of_items (take len b.joins)) leaf_found =
        wide_joins (take len b.joins) (leaf_given given table wide_first b.joins) (take_total len b.joins total_all) (take_wide len b.joins sized.rest) wide_first (w table) first_wide in
        let width : wide_first + width_of_items (take len b.joins) ≡ leaf_width = ap (λ (js : List (Join Planned)). wide_first + widths js) (sym (take-map planned_join len b.joins)) in
        subst (λ (m : ℕ). AreOfWidth m rows) width (subst (AllGiven (λ (r : Row). length r ≡ wide_first + width_of_items (take len b.joins))) is found)

    -- what comes after the leaf, above it and on whole tables
    abbrev after_leaf : ℕ → List Row → Rows
    after_leaf before rows = first_rows b.filter b.joins leaf_width rows >>= run_where b.filter (top_items before (drop len b.joins))

    -- the columns of the FROM that the block reads
    abbrev first_reads : List Bool
    first_reads = reads_of wide_first (map_block plan_q b)

    part_found : IsTableGiven → KeepsBlock b → IsSized b → AreOfWidth wide_first (w table) → (before : ℕ) → AgreesAt w before (rest_leaves schema tables first_reads (pushed b.filter b.joins) leaf_width (drop len planned_joins)) f
        → (o : Rows) → leaf_found ≡ o → (o >>= after_leaf before) ≡ (o >>= run_where b.filter (joined_items (drop len b.joins)))
    part_found given keeps sized first_wide before agrees None is = refl
    part_found given keeps sized first_wide before agrees (Some rows) is =
        after_first given first_reads b.filter b.joins (drop len b.joins)
        (λ total. drop_total len b.joins (all_total_ons b.joins total)) (all_drop KeepsJoin len b.joins keeps.rest) (drop_wide len b.joins sized.rest) before leaf_width
        (subst (λ (js : List (Join Planned)). AgreesAt w before (rest_leaves schema tables first_reads (pushed b.filter b.joins) leaf_width js) f) (drop-map planned_join len b.joins) agrees)
        rows (λ total. leaf_wide given sized first_wide total rows is)

    part_leaf : IsTableGiven → KeepsBlock b → IsSized b → AreOfWidth wide_first (w table) → (before : ℕ) → AgreesAt w before (rest_leaves schema tables first_reads (pushed b.filter b.joins) leaf_width (drop len planned_joins)) f
        → ((leaf_found >>= filter_where (all_true (conjuncts_on 0 leaf_width (pushed b.filter b.joins)))) >>= run_where b.filter (map above (top_joins before (drop len planned_joins)))) ≡ (Some (w table) >>= run_where b.filter (joined_items b.joins))
    part_leaf given keeps sized first_wide before agrees =
        bind-assoc leaf_found (first_rows b.filter b.joins leaf_width) (run_where b.filter (map above (top_joins before (drop len planned_joins))))
        ∙ ap (λ (js : List (Join Planned)). leaf_found >>= (λ rows. first_rows b.filter b.joins leaf_width rows >>= run_where b.filter (map above (top_joins before js)))) (drop-map planned_join len b.joins)
        ∙ part_found given keeps sized first_wide before agrees leaf_found refl
        ∙ sym (ap (λ (o : Rows). o >>= filter_where b.filter) (run-split len b.joins (w table)) ∙ bind-assoc leaf_found (run_joins (joined_items (drop len b.joins))) (filter_where b.filter))

    -- by whether the leaf is the whole FROM
    either_leaf : IsTableGiven → KeepsBlock b → IsSized b → AreOfWidth wide_first (w table) → (before : ℕ) → AgreesAt w before (rest_leaves schema tables first_reads (pushed b.filter b.joins) leaf_width (drop len planned_joins)) f
        → (whole : Bool) → (len == length planned_joins) ≡ whole
        → ((leaf_found >>= filter_where (leaf_filter whole)) >>= run_where (top_filter whole) (map above (top_joins before (drop len planned_joins)))) ≡ (Some (w table) >>= run_where b.filter (joined_items b.joins))
    either_leaf given keeps sized first_wide before agrees true is = whole_leaf is before
    either_leaf given keeps sized first_wide before agrees false is = part_leaf given keeps sized first_wide before agrees

    table_above : IsTableGiven → KeepsBlock b → IsSized b → AreOfWidth wide_first (w table) → (before : ℕ) → AgreesAt w before (leaves_from schema tables (map_block plan_q b) (item.Table n)) f
        → (f (before + 1) >>= run_where (top_filter (len == length planned_joins)) (map above (top_joins (before + 1) (drop len planned_joins)))) ≡ (Some (w table) >>= run_where b.filter (joined_items b.joins))
    table_above given keeps sized first_wide before agrees =
        let leaf_is : leaf_rows (first_leaf schema tables (map_block plan_q b) table len) (map w ((first_leaf schema tables (map_block plan_q b) table len).tables)) ≡ (leaf_found >>= filter_where (leaf_filter (len == length planned_joins))) =
        ap (λ (o : Rows). o >>= filter_where (leaf_filter (len == length planned_joins))) (leaf_joins given table wide_first b.joins (w table)) in
        ap (λ (o : Rows). o >>= run_where (top_filter (len == length planned_joins)) (map above (top_joins (before + 1) (drop len planned_joins)))) (agrees.0 ∙ leaf_is)
        ∙ either_leaf given keeps sized first_wide (before + 1) agrees.1 (len == length planned_joins) refl

  -- ---- a FROM that begins with a derived table

  derived_above : IsTableGiven → (b : Block Q) (q : Q) → Keeps q → AllByRecursion KeepsJoin b.joins → IsWide (plan_q q).width (mean q) → AreWide (map further b.joins) → (before : ℕ)
      → AgreesAt w before (leaves_from schema tables (map_block plan_q b) (item.Derived (plan_q q))) f
      → (meaning_over f ((plan_q q).top before) >>= run_where b.filter (top_items (before + length (plan_q q).leaves) b.joins)) ≡ (mean q >>= run_where b.filter (joined_items b.joins))
  derived_above given b q keeps_first keeps first_wide wide before agrees =
      ap (λ (o : Rows). o >>= run_where b.filter (top_items (before + length (plan_q q).leaves) b.joins)) (keeps_first before (agrees_front w before (plan_q q).leaves (rest_leaves schema tables (reads_of (plan_q q).width (map_block plan_q b)) (pushed b.filter b.joins) (plan_q q).width (map planned_join b.joins)) f agrees))
      ∙ of_found (mean q) first_wide where
        of_found : (o : Rows) → IsWide (plan_q q).width o → (o >>= run_where b.filter (top_items (before + length (plan_q q).leaves) b.joins)) ≡ (o >>= run_where b.filter (joined_items b.joins))
        of_found None is = refl
        of_found (Some rows) is =
            rest_same given (reads_of (plan_q q).width (map_block plan_q b)) b.filter b.joins b.joins (all_total_ons b.joins) keeps wide (before + length (plan_q q).leaves) (plan_q q).width
            (agrees_rest w before (plan_q q).leaves (rest_leaves schema tables (reads_of (plan_q q).width (map_block plan_q b)) (pushed b.filter b.joins) (plan_q q).width (map planned_join b.joins)) f agrees) rows (λ _. is)

  -- ---- FROM and WHERE of any block

  from_above : IsTableGiven → (b : Block Q) → KeepsBlock b → IsSized b → (before : ℕ) → AgreesAt w before (block_leaves schema tables (map_block plan_q b)) f
      → from_where f (map_block (meaning_over f) (top_block schema tables before (map_block plan_q b))) ≡ from_where f0 (map_block mean b)
  from_above given b keeps sized before agrees = of_first b.from keeps.first sized.first agrees where
    of_first : (i : Item Q) → KeepsItem i → IsSizedFirst i → AgreesAt w before (leaves_from schema tables (map_block plan_q b) (map_item plan_q i)) f
        → from_where f (map_block (meaning_over f) (top_from schema tables before (map_block plan_q b) (map_item plan_q i))) ≡ (from f0 (map_item mean i) (map (map_join mean) b.joins) >>= filter_where b.filter)
    of_first (item.Table n) keeps_first first_wide agrees =
        from-above (item.Table (before + 1)) (top_joins (before + 1) (drop (len b n) (planned_joins b n))) (top_filter b n (len b n == length (planned_joins b n)))
        ∙ table_above b n given keeps sized first_wide before agrees
        ∙ sym (from-whole (item.Table n) b.joins b.filter ∙ ap (λ (o : Rows). o >>= run_where b.filter (joined_items b.joins)) (given n))
    of_first (item.Derived q) keeps_first first_wide agrees =
        from-above (item.Derived (meaning_over f ((plan_q q).top before))) (top_joins (before + length (plan_q q).leaves) (map planned_join b.joins)) b.filter
        ∙ derived_above given b q keeps_first keeps.rest first_wide sized.rest before agrees
        ∙ sym (from-whole (item.Derived (mean q)) b.joins b.filter)

  rest_is : (i : Item Planned) (b : Block Planned) (before : ℕ) (o : Rows) →
      let t : Block BoundQuery = top_from schema tables before b i in
      (o >>= group_rows t.grouping >>= project_rows t.outputs >>= (λ rows. Some (distinct_if t.is_distinct rows))) ≡ (o >>= group_rows b.grouping >>= project_rows b.outputs >>= (λ rows. Some (distinct_if b.is_distinct rows)))
  rest_is (item.Table n) b before o = refl
  rest_is (item.Derived p) b before o = refl

  -- THE LAW OF A BLOCK: above its leaves it gives what it gives on whole tables.
  pub block_above : IsTableGiven → (b : Block Q) → KeepsBlock b → IsSized b → (before : ℕ) → AgreesAt w before (block_leaves schema tables (map_block plan_q b)) f
      → block_rows f (map_block (meaning_over f) (top_block schema tables before (map_block plan_q b))) ≡ block_rows f0 (map_block mean b)
  block_above given b keeps sized before agrees =
      rest_is (map_item plan_q b.from) (map_block plan_q b) before (from_where f (map_block (meaning_over f) (top_block schema tables before (map_block plan_q b))))
      ∙ ap (λ (o : Rows). o >>= group_rows b.grouping >>= project_rows b.outputs >>= (λ rows. Some (distinct_if b.is_distinct rows))) (from_above given b keeps sized before agrees)
