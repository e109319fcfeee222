-- The ONs and the condition of a leaf of a plan read within the leaf's mask.
use Rattle.std.proofs.Common.{◌≡◌, ◌∙◌, ℕ, zero, suc, ◌+◌, ◌-◌, ◌==◌, ◌≤◌, Bool, true, false, not, cond, ◌&&◌, List, [], ◌∷◌, map, take, drop, length, Option, Some, None, refl, ap, sym, subst, arith}
use Rattle.std.specs.Prelude.{flat_map, if◌then◌else◌}
use Rattle.std.specs.List.{AllByRecursion, list_all}
use Rattle.std.proofs.lemmas.Bool.Decides.{nat_tests}
use Rattle.std.proofs.lemmas.Bool.{and_from, and_parts}
use Rattle.span_value.proofs.Lists.{all_append, all_drop}
use Rattle.span_schema.specs.declared.table.Table.{Table}
use Rattle.span_expr.specs.declared.expr.Expr.{Expr}
use Rattle.span_expr.specs.Conjuncts.{all_true}
use Rattle.span_expr.specs.Meaning.{is_total}
use Rattle.span_expr.specs.Places.{is_in, reads_only, moved}
use Rattle.span_expr.proofs.Conjuncts.{reads_only-conjuncts, reads_only-all_true}
use Rattle.span_expr.proofs.Places.{reads_only-moved, reads_only-wider}
use Rattle.span_query.specs.declared.query.BoundQuery.{BoundQuery}
use Rattle.span_query.specs.declared.query.BoundQuery.TheOpen.{BoundQuery-F}
use Rattle.span_query.specs.declared.query.BoundQuery.TheViews.{roll-BoundQuery}
use Rattle.span_query.specs.declared.query.BoundQuery.TheFolds.{map-BoundQuery, ind-BoundQuery, fold-roll-BoundQuery}
use Rattle.span_query.specs.declared.query.Block.{Block}
use Rattle.span_query.specs.declared.query.Item.{Item}
use Rattle.span_query.specs.declared.query.Item.TheVariants as item
use Rattle.span_query.specs.declared.query.Join.{Join}
use Rattle.span_query.proofs.Layers.{map_item, map_join, map_block, map_layer}
use Rattle.span_columns.specs.declared.leaf.Leaf.{Leaf}
use Rattle.span_leaves.specs.Conditions.{have_total_ons, where_conjuncts, pushable, conjuncts_on}
use Rattle.span_leaves.specs.Leaves.{table_of, width_of, widths, leaf_len, leaf_join, first_filter, reads_of, unless_left}
use Rattle.span_planner.specs.Plans.{Planned, join_leaves, rest_leaves, leaves_from, block_leaves, planned_query, planned}
use Rattle.span_columns.specs.Reads.{has_place, is_not, condition_reads, on_reads, selection_reads, leaf_on_reads, reads_own}
use Rattle.span_planner.proofs.Queries.{layer_twice}
use Rattle.span_leaves.proofs.Reading.{expr_by, covered}

-- ---- masks

has_place-drop : (at : ℕ) (rs : List Bool) (k : ℕ) → has_place (drop at rs) k ≡ has_place rs (at + k)
has_place-drop zero rs k = let e : k ≡ 0 + k = omega arith in ap (has_place rs) e
has_place-drop (suc at) [] k = refl
has_place-drop (suc at) (r ∷ rs) k = let e : suc (at + k) ≡ suc at + k = omega arith in has_place-drop at rs k ∙ ap (has_place (r ∷ rs)) e

has_place-take : (n : ℕ) (rs : List Bool) (k : ℕ) → has_place rs k ≡ true → has_place (take n rs) k ≡ true
has_place-take zero rs k has = refl
has_place-take (suc n) [] k has = refl
has_place-take (suc n) (r ∷ rs) zero has = has
has_place-take (suc n) (r ∷ rs) (suc k) has = has_place-take n rs k has

has_place-part : (at width : ℕ) (rs : List Bool) (k : ℕ) → has_place rs k ≡ true → is_in at (at + width) k ≡ true → has_place (take width (drop at rs)) (k - at) ≡ true
has_place-part at width rs k has inside =
    let above : at ≤ k = grind (arith, nat_tests) in
    let sum : at + (k - at) ≡ k = omega arith in
    has_place-take width (drop at rs) (k - at) (has_place-drop at rs (k - at) ∙ ap (has_place rs) sum ∙ has)

-- a place without which there would be something else to read passes the test
pub reads_place : (test : ℕ → Bool) (e : Expr) (k : ℕ) → reads_only test e ≡ true → reads_only (is_not k) e ≡ false → test k ≡ true
reads_place test e k reads out = of_test (test k) refl where
  other : test k ≡ false → (p : ℕ) → test p ≡ true → is_not k p ≡ true
  other none p passes = of_same (p == k) refl where
    of_same : (b : Bool) → (p == k) ≡ b → not b ≡ true
    of_same false is = refl
    of_same true is = (let e : p ≡ k = grind (arith, nat_tests) in let f : true ≡ false = sym passes ∙ ap test e ∙ none in cc)

  of_test : (b : Bool) → test k ≡ b → b ≡ true
  of_test true is = refl
  of_test false is = let all : reads_only (is_not k) e ≡ true = reads_only-wider test (is_not k) e (other is) reads in let f : true ≡ false = sym all ∙ out in cc

-- ---- conditions

pushable_reads : {Q : Type 0} (test : ℕ → Bool) (b : Block Q) → condition_reads test b.filter ≡ true → list_all (reads_only test) (pushable b) ≡ true
pushable_reads test b = of_cases (have_total_ons b.joins) b.filter where
  of_cases : (total : Bool) (w : Option Expr) → condition_reads test w ≡ true → list_all (reads_only test) (if total then where_conjuncts w else []) ≡ true
  of_cases false w is = refl
  of_cases true None is = refl
  of_cases true (Some e) is = sym (reads_only-conjuncts test e) ∙ is

all_true_reads : (test : ℕ → Bool) (es : List Expr) → list_all (reads_only test) es ≡ true → condition_reads test (all_true es) ≡ true
all_true_reads test es is = of_found (all_true es) refl where
  of_found : (o : Option Expr) → all_true es ≡ o → condition_reads test o ≡ true
  of_found None e = refl
  of_found (Some f) e = reads_only-all_true test es f e ∙ is

-- the conjuncts on a part of the columns, at the rows of the part
own_reads : (at width : ℕ) (rs : List Bool) (es : List Expr) → list_all (reads_only (has_place rs)) es ≡ true
    → list_all (reads_only (has_place (take width (drop at rs)))) (map (moved (λ place. place - at)) (conjuncts_on at (at + width) es)) ≡ true
own_reads at width rs [] is = refl
own_reads at width rs (e ∷ es) is =
    let parts = and_parts (reads_only (has_place rs) e) (list_all (reads_only (has_place rs)) es) is in of_test (is_total e && reads_only (is_in at (at + width)) e) refl parts.0 (own_reads at width rs es parts.1) where
      of_test : (b : Bool) → (is_total e && reads_only (is_in at (at + width)) e) ≡ b → reads_only (has_place rs) e ≡ true
          → list_all (reads_only (has_place (take width (drop at rs)))) (map (moved (λ place. place - at)) (conjuncts_on at (at + width) es)) ≡ true
          → list_all (reads_only (has_place (take width (drop at rs)))) (map (moved (λ place. place - at)) (cond b (e ∷ conjuncts_on at (at + width) es) (conjuncts_on at (at + width) es))) ≡ true
      of_test false test reads rest = rest
      of_test true test reads rest =
          let inside = (and_parts (is_total e) (reads_only (is_in at (at + width)) e) test).1 in
          let ms : List Bool = take width (drop at rs) in
          and_from (reads_only (has_place ms) (moved (λ place. place - at) e)) (list_all (reads_only (has_place ms)) (map (moved (λ place. place - at)) (conjuncts_on at (at + width) es)))
          (reads_only-moved (λ place. place - at) (has_place ms) e
          ∙ expr_by e (λ k. has_place ms (k - at)) (λ k out. has_place-part at width rs k (reads_place (has_place rs) e k reads out) (reads_place (is_in at (at + width)) e k inside out))) rest

-- the conjuncts on the first columns
first_reads : (width : ℕ) (rs : List Bool) (es : List Expr) → list_all (reads_only (has_place rs)) es ≡ true → list_all (reads_only (has_place (take width rs))) (conjuncts_on 0 width es) ≡ true
first_reads width rs [] is = refl
first_reads width rs (e ∷ es) is =
    let parts = and_parts (reads_only (has_place rs) e) (list_all (reads_only (has_place rs)) es) is in
    of_test (is_total e && reads_only (is_in 0 width) e) (reads_only-wider (has_place rs) (has_place (take width rs)) e (has_place-take width rs) parts.0) (first_reads width rs es parts.1) where
      of_test : (b : Bool) → reads_only (has_place (take width rs)) e ≡ true → list_all (reads_only (has_place (take width rs))) (conjuncts_on 0 width es) ≡ true
          → list_all (reads_only (has_place (take width rs))) (cond b (e ∷ conjuncts_on 0 width es) (conjuncts_on 0 width es)) ≡ true
      of_test true here rest = and_from (reads_only (has_place (take width rs)) e) (list_all (reads_only (has_place (take width rs))) (conjuncts_on 0 width es)) here rest
      of_test false here rest = rest

-- ---- leaves

abbrev pub ReadsOwn : Leaf → Type 0
ReadsOwn l = reads_own l ≡ true

module _ (schema : List Table) (tables : List ℕ) where
  joins_own : {Q : Type 0} (n width : ℕ) (rs : List Bool) (js : List (Join Q)) → list_all (on_reads (has_place rs)) js ≡ true → list_all (leaf_on_reads (has_place (take width rs))) (map leaf_join (take n js)) ≡ true
  joins_own zero width rs js is = refl
  joins_own (suc n) width rs [] is = refl
  joins_own (suc n) width rs (j ∷ js) is =
      let parts = and_parts (reads_only (has_place rs) j.on) (list_all (on_reads (has_place rs)) js) is in
      and_from (reads_only (has_place (take width rs)) j.on) (list_all (leaf_on_reads (has_place (take width rs))) (map leaf_join (take n js)))
      (reads_only-wider (has_place rs) (has_place (take width rs)) j.on (has_place-take width rs) parts.0) (joins_own n width rs js parts.1)

  filter_own : (b : Block Planned) (len width : ℕ) (rs : List Bool) → condition_reads (has_place rs) b.filter ≡ true → (whole : Bool)
      → condition_reads (has_place (take width rs)) (if whole then b.filter else all_true (conjuncts_on 0 width (pushable b))) ≡ true
  filter_own b len width rs is true = of_filter b.filter is where
    of_filter : (w : Option Expr) → condition_reads (has_place rs) w ≡ true → condition_reads (has_place (take width rs)) w ≡ true
    of_filter None is = refl
    of_filter (Some e) is = reads_only-wider (has_place rs) (has_place (take width rs)) e (has_place-take width rs) is
  filter_own b len width rs is false =
      all_true_reads (has_place (take width rs)) (conjuncts_on 0 width (pushable b)) (first_reads width rs (pushable b) (pushable_reads (has_place rs) b is))

  -- those of a query planned
  abbrev AreOwn : Planned → Type 0
  AreOwn p = AllByRecursion ReadsOwn p.leaves

  abbrev IsOwnItem : Item Planned → Type 0
  IsOwnItem (item.Table n) = Unit {0}
  IsOwnItem (item.Derived p) = AreOwn p

  abbrev IsOwnJoin : Join Planned → Type 0
  IsOwnJoin j = IsOwnItem j.item

  unless_reads : (test : ℕ → Bool) (is_left : Bool) (es : List Expr) → list_all (reads_only test) es ≡ true → list_all (reads_only test) (unless_left is_left es) ≡ true
  unless_reads test true es is = refl
  unless_reads test false es is = is

  join_own : (rs : List Bool) (at : ℕ) (es : List Expr) (is_left : Bool) (width : ℕ) (i : Item Planned) → list_all (reads_only (has_place rs)) es ≡ true → IsOwnItem i → AllByRecursion ReadsOwn (join_leaves schema tables rs at es is_left width i)
  join_own rs at es is_left width (item.Table n) reads is = (
    all_true_reads (has_place (take width (drop at rs))) (map (moved (λ place. place - at)) (conjuncts_on at (at + width) (unless_left is_left es)))
        (own_reads at width rs (unless_left is_left es) (unless_reads (has_place rs) is_left es reads)),
    tt {0},
  )
  join_own rs at es is_left width (item.Derived p) reads is = is

  rest_own : (rs : List Bool) (es : List Expr) (at : ℕ) (js : List (Join Planned)) → list_all (reads_only (has_place rs)) es ≡ true → AllByRecursion IsOwnJoin js → AllByRecursion ReadsOwn (rest_leaves schema tables rs es at js)
  rest_own rs es at [] reads are = tt {0}
  rest_own rs es at (j ∷ js) reads are =
      all_append ReadsOwn (join_leaves schema tables rs at es j.is_left j.width j.item) (rest_leaves schema tables rs es (at + j.width) js)
      (join_own rs at es j.is_left j.width j.item reads are.0) (rest_own rs es (at + j.width) js reads are.1)

  block_parts : (b : Block Planned) (width : ℕ) → (list_all (on_reads (has_place (reads_of width b))) b.joins ≡ true) × (condition_reads (has_place (reads_of width b)) b.filter ≡ true)
  block_parts b width =
      let test : ℕ → Bool = has_place (reads_of width b) in
      let outer = and_parts (list_all (on_reads test) b.joins && condition_reads test b.filter) (selection_reads test b.grouping b.outputs) (covered width b (reads_of width b) (λ k has. has)) in
      and_parts (list_all (on_reads test) b.joins) (condition_reads test b.filter) outer.0

  from_own : (b : Block Planned) (i : Item Planned) → IsOwnItem i → AllByRecursion IsOwnJoin b.joins → AllByRecursion ReadsOwn (leaves_from schema tables b i)
  from_own b (item.Table n) is are =
      let width : ℕ = width_of schema (table_of tables n) in
      let len : ℕ = leaf_len schema tables (table_of tables n) width b.joins in
      let all : ℕ = width + widths (take len b.joins) in
      let rs : List Bool = reads_of width b in
      let parts = block_parts b width in (
        and_from (list_all (leaf_on_reads (has_place (take all rs))) (map leaf_join (take len b.joins))) (condition_reads (has_place (take all rs)) (first_filter b len all (pushable b)))
            (joins_own len all rs b.joins parts.0) (filter_own b len all rs parts.1 (len == length b.joins)),
        rest_own rs (pushable b) all (drop len b.joins) (pushable_reads (has_place rs) b parts.1) (all_drop IsOwnJoin len b.joins are),
      )
  from_own b (item.Derived p) is are =
      let rs : List Bool = reads_of p.width b in
      all_append ReadsOwn p.leaves (rest_leaves schema tables rs (pushable b) p.width b.joins) is (rest_own rs (pushable b) p.width b.joins (pushable_reads (has_place rs) b (block_parts b p.width).1) are)

  pub record IsOwnBlock (b : Block Planned) : Type 0 where
    pub first : IsOwnItem b.from
    pub rest : AllByRecursion IsOwnJoin b.joins

  blocks_own : (bs : List (Block Planned)) → AllByRecursion IsOwnBlock bs → AllByRecursion ReadsOwn (flat_map (block_leaves schema tables) bs)
  blocks_own [] are = tt {0}
  blocks_own (b ∷ bs) are = all_append ReadsOwn (block_leaves schema tables b) (flat_map (block_leaves schema tables) bs) (from_own b b.from are.0.first are.0.rest) (blocks_own bs are.1)

  -- ---- by the layers of a query

  abbrev pub AreLeavesOwn : BoundQuery → Type 0
  AreLeavesOwn q = AreOwn (planned schema tables q)

  abbrev Witness : Type 0
  Witness = (q : BoundQuery) × AreLeavesOwn q

  abbrev bare_query : Witness → BoundQuery
  bare_query t = t.0

  abbrev bare_plan : Witness → Planned
  bare_plan t = planned schema tables t.0

  bare_item : (i : Item Witness) → IsOwnItem (map_item bare_plan i)
  bare_item (item.Table n) = tt {0}
  bare_item (item.Derived t) = t.1

  bare_joins : (js : List (Join Witness)) → AllByRecursion IsOwnJoin (map (map_join bare_plan) js)
  bare_joins [] = tt {0}
  bare_joins (j ∷ js) = (bare_item j.item, bare_joins js)

  bare_blocks : (bs : List (Block Witness)) → AllByRecursion IsOwnBlock (map (map_block bare_plan) bs)
  bare_blocks [] = tt {0}
  bare_blocks (b ∷ bs) = (record { first = bare_item b.from; rest = bare_joins b.joins }, bare_blocks bs)

  layer_own : (y : BoundQuery-F Witness) → AreLeavesOwn (roll-BoundQuery (map-BoundQuery Witness BoundQuery bare_query y))
  layer_own y =
      let d : BoundQuery-F BoundQuery = map-BoundQuery Witness BoundQuery bare_query y in
      let planned_is : planned schema tables (roll-BoundQuery d) ≡ planned_query schema tables (map_layer bare_plan y) =
      fold-roll-BoundQuery Planned (planned_query schema tables) d ∙ ap (planned_query schema tables) (layer_twice bare_query (planned schema tables) y) in
      subst AreOwn (sym planned_is) (blocks_own (map (map_block bare_plan) (y.first ∷ y.others)) (bare_blocks (y.first ∷ y.others)))

  -- THE LAW OF A LEAF'S OWN MASK: each leaf of a plan reads within its mask.
  pub leaves_own : (q : BoundQuery) → AreLeavesOwn q
  leaves_own = ind-BoundQuery AreLeavesOwn (λ x y is. subst (λ (z : BoundQuery-F BoundQuery). AreLeavesOwn (roll-BoundQuery z)) is (layer_own y))
