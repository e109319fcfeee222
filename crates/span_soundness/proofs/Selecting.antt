-- Rows of types stay so: when concatenated, filtered, joined, grouped, projected and put in order.
use Rattle.std.proofs.Common.{◌≡◌, refl, subst, ℕ, zero, suc, true, false, Bool, not, if◌then◌else◌, List, [], ◌∷◌, ◌++◌, length, map, take, drop, Option, Some, None}
use Rattle.std.specs.Prelude.{pos, replicate, filter}
use Rattle.std.specs.Option.{option_map}
use Rattle.std.specs.List.{fold}
use Rattle.std.specs.Ordering.{is_lt, is_gt}
use Rattle.span_value.specs.declared.value.Kind.{Kind}
use Rattle.span_value.specs.declared.value.Kind.TheVariants as kind
use Rattle.span_value.specs.declared.value.Value.{Value}
use Rattle.span_value.specs.declared.value.Value.TheVariants as value
use Rattle.span_value.specs.declared.truth.Outcome.{Outcome}
use Rattle.span_value.specs.declared.truth.Outcome.TheVariants.{Val, Fault}
use Rattle.span_value.specs.Orders.{value_order}
use Rattle.span_schema.specs.Fitting.{is_of_kind}
use Rattle.span_expr.specs.declared.expr.Expr.{Expr}
use Rattle.span_expr.specs.Outcomes.{is_null}
use Rattle.span_expr.specs.Operators.{number}
use Rattle.span_expr.specs.Meaning.{val}
use Rattle.span_query.specs.declared.query.Item.{Item}
use Rattle.span_query.specs.declared.query.Item.TheVariants as item
use Rattle.span_query.specs.declared.query.Block.{Block}
use Rattle.span_query.specs.declared.query.Join.{Join}
use Rattle.span_query.specs.declared.query.Limit.{Limit}
use Rattle.span_query.specs.declared.query.Grouping.{Grouping}
use Rattle.span_query.specs.declared.query.Aggregate.{Aggregate}
use Rattle.span_query.specs.declared.query.Aggregate.TheVariants.{CountRows, Of}
use Rattle.span_query.specs.declared.query.Function.TheVariants.{Count, Sum, Min, Max}
use Rattle.span_query.specs.declared.query.BoundQuery.TheOpen.{BoundQuery-F}
use Rattle.span_query.specs.Rows.{Row, OrFault, Rows, ◌>>=◌, value_of, append_results, concat_map, singleton, each, keep_if, holds, filter_rows, filter_where, values, project_rows}
use Rattle.span_query.specs.Groups.{are_equal, distinct, columns_at, group_keys, rows_with, operands, without_nulls, total, lesser, greater, of_values, aggregate, group_row, groups, group_rows}
use Rattle.span_query.specs.Sorting.{insert_sorted, insertion_sort, sorted, comes_before}
use Rattle.span_query.specs.Meaning.{table_rows, item_rows, or_unmatched, pairs_of, join_rows, join_next, from, distinct_if, block_rows, limit_rows, query_rows}
use Rattle.span_soundness.specs.Types.{IsOutcomeOf, IsRowOf, are_same, has_type, is_of}
use Rattle.span_soundness.specs.Bindings.{is_aggregate_of, AreAggregatesOf}
use Rattle.span_soundness.specs.WellTyped.{leaf_types, IsItemOf, AreJoinsOf, IsFromOf, AreColumnsOf, IsGroupedOf, AreOutputsOf, IsBlockOf, AreBlocksOf, IsLayerOf}
use Rattle.span_soundness.specs.Results.{AreRowsOf, AreResultsOf, AreTablesOf}
use Rattle.span_soundness.proofs.Sameness.{same_kind}
use Rattle.std.proofs.lemmas.Bool.{and_parts}
use Rattle.span_soundness.proofs.Keeping.{null_of, number_kept, column_kept, kept as keeps_type}

-- ---- rows

both_rows : (types : List Kind) (rows more : List Row) → AreRowsOf types rows → AreRowsOf types more → AreRowsOf types (rows ++ more)
both_rows types [] more are news = news
both_rows types (row ∷ rows) more are news = (are.0, both_rows types rows more are.1 news)

both_followed : (types : List Kind) (a b : Rows) → AreResultsOf types a → AreResultsOf types b → AreResultsOf types (append_results a b)
both_followed types (Some rows) (Some more) are news = both_rows types rows more are news
both_followed types (Some rows) None are news = tt {0}
both_followed types None b are news = tt {0}

then_rows : (types result : List Kind) (a : Rows) (next : List Row → Rows) → AreResultsOf types a → ((rows : List Row) → AreRowsOf types rows → AreResultsOf result (next rows)) → AreResultsOf result (a >>= next)
then_rows types result (Some rows) next are follows = follows rows are
then_rows types result None next are follows = tt {0}

-- what each row gives
gathered_rows : (types result : List Kind) (f : Row → Rows) (rows : List Row) → ((row : Row) → IsRowOf types row → AreResultsOf result (f row)) → AreRowsOf types rows → AreResultsOf result (concat_map f rows)
gathered_rows types result f [] follows are = tt {0}
gathered_rows types result f (row ∷ rows) follows are = both_followed result (f row) (concat_map f rows) (follows row are.0) (gathered_rows types result f rows follows are.1)

kept_one : (types : List Kind) (row : Row) (o : OrFault Bool) → IsRowOf types row → AreResultsOf types (o >>= (λ b. Some (keep_if row b)))
kept_one types row (Some true) is = (is, tt {0})
kept_one types row (Some false) is = tt {0}
kept_one types row None is = tt {0}

kept_rows : (types : List Kind) (e : Expr) (rows : List Row) → AreRowsOf types rows → AreResultsOf types (filter_rows e rows)
kept_rows types e rows are = gathered_rows types types (λ row. holds e row >>= (λ b. Some (keep_if row b))) rows (λ row is. kept_one types row (holds e row) is) are

kept_where_rows : (types : List Kind) (e : Option Expr) (rows : List Row) → AreRowsOf types rows → AreResultsOf types (filter_where e rows)
kept_where_rows types None rows are = are
kept_where_rows types (Some e) rows are = kept_rows types e rows are

-- ---- FROM

-- what the tables give by their numbers
abbrev pub table_results : List (List Row) → ℕ → Rows
table_results tables n = Some (table_rows tables n)

table_is : (leaves : List (List Kind)) (tables : List (List Row)) (n : ℕ) → AreTablesOf leaves tables → AreRowsOf (leaf_types leaves n) (table_rows tables n)
table_is leaves tables zero are = tt {0}
table_is [] [] (suc n) are = tt {0}
table_is [] (rows ∷ tables) (suc n) are = absurd are
table_is (types ∷ leaves) [] (suc n) are = absurd are
table_is (types ∷ leaves) (rows ∷ tables) (suc zero) are = are.0
table_is (types ∷ leaves) (rows ∷ tables) (suc (suc n)) are = table_is leaves tables (suc n) are.1

both_row : (left right : List Kind) (l r : Row) → IsRowOf left l → IsRowOf right r → IsRowOf (left ++ right) (l ++ r)
both_row [] right [] r l_is r_is = r_is
both_row [] right (v ∷ vs) r l_is r_is = absurd l_is
both_row (k ∷ ks) right [] r l_is r_is = absurd l_is
both_row (k ∷ ks) right (v ∷ vs) r l_is r_is = (l_is.0, both_row ks right vs r l_is.1 r_is)

nulls_are : (types : List Kind) → IsRowOf types (replicate (length types) value.Null)
nulls_are [] = tt {0}
nulls_are (k ∷ ks) = (null_of k, nulls_are ks)

pairs_are : (left right : List Kind) (l : Row) (rows : List Row) → IsRowOf left l → AreRowsOf right rows → AreRowsOf (left ++ right) (map (λ (r : Row). l ++ r) rows)
pairs_are left right l [] l_is are = tt {0}
pairs_are left right l (r ∷ rows) l_is are = (both_row left right l r l_is are.0, pairs_are left right l rows l_is are.1)

or_alone_rows : (types : List Kind) (is_left : Bool) (alone : Row) (pairs : List Row) → IsRowOf types alone → AreRowsOf types pairs → AreRowsOf types (or_unmatched is_left alone pairs)
or_alone_rows types true alone [] is are = (is, tt {0})
or_alone_rows types true alone (p ∷ pairs) is are = are
or_alone_rows types false alone pairs is are = are

-- rows that are handed in, or the fault, in the place of a query
abbrev pub Gives : Rows → List Kind → Type 0
Gives rows types = AreResultsOf types rows

module _ (leaves : List (List Kind)) (tables : List (List Row)) (are : AreTablesOf leaves tables) where
  item_is : (i : Item Rows) (types : List Kind) → IsItemOf Gives leaves i types → AreResultsOf types (item_rows (table_results tables) i)
  item_is (item.Table n) types is = subst (λ (ts : List Kind). AreRowsOf ts (table_rows tables n)) is (table_is leaves tables n are)
  item_is (item.Derived rows) types is = is

  joined_is : (left right : List Kind) (j : Join Rows) (ls rs : List Row) → length right ≡ j.width → AreRowsOf left ls → AreRowsOf right rs → AreResultsOf (left ++ right) (join_rows j ls rs)
  joined_is left right j ls rs width ls_are rs_are = gathered_rows left (left ++ right) (pairs_of j rs) ls
      (λ l l_is. then_rows (left ++ right) (left ++ right) (filter_rows j.on (map (λ (r : Row). l ++ r) rs)) (λ pairs. Some (or_unmatched j.is_left (l ++ replicate j.width value.Null) pairs))
      (kept_rows (left ++ right) j.on (map (λ (r : Row). l ++ r) rs) (pairs_are left right l rs l_is rs_are))
      (λ pairs pairs_are. or_alone_rows (left ++ right) j.is_left (l ++ replicate j.width value.Null) pairs
      (both_row left right l (replicate j.width value.Null) l_is (subst (λ (n : ℕ). IsRowOf right (replicate n value.Null)) width (nulls_are right))) pairs_are))
      ls_are

  join_is : (left right : List Kind) (rows : Rows) (j : Join Rows) → IsItemOf Gives leaves j.item right → length right ≡ j.width → AreResultsOf left rows → AreResultsOf (left ++ right) (join_next (table_results tables) rows j)
  join_is left right rows j is width rows_are = then_rows left (left ++ right) rows (λ ls. item_rows (table_results tables) j.item >>= join_rows j ls) rows_are
      (λ ls ls_are. then_rows right (left ++ right) (item_rows (table_results tables) j.item) (join_rows j ls) (item_is j.item right is) (λ rs rs_are. joined_is left right j ls rs width ls_are rs_are))

  joins_are : (left : List Kind) (rows : Rows) (joins : List (Join Rows)) (types : List Kind) → AreJoinsOf Gives leaves left joins types → AreResultsOf left rows → AreResultsOf types (fold (join_next (table_results tables)) rows joins)
  joins_are left rows [] types is rows_are = subst (λ (ts : List Kind). AreResultsOf ts rows) is rows_are
  joins_are left rows (j ∷ joins) types is rows_are = joins_are (left ++ is.0) (join_next (table_results tables) rows j) joins types is.4 (join_is left is.0 rows j is.1 is.2 rows_are)

  from_is : (first : Item Rows) (joins : List (Join Rows)) (types : List Kind) → IsFromOf Gives leaves first joins types → AreResultsOf types (from (table_results tables) first joins)
  from_is first joins types is = joins_are is.0 (item_rows (table_results tables) first) joins types is.2 (item_is first is.0 is.1)

-- ---- values

-- a value of the type, or the fault
abbrev IsValueOf : Kind → OrFault Value → Type 0
IsValueOf k None = Unit {0}
IsValueOf k (Some v) = is_of_kind k v ≡ true

value_is : (k : Kind) (o : Outcome) → IsOutcomeOf k o → IsValueOf k (value_of o)
value_is k (Val v) is = is
value_is k Fault is = tt {0}

abbrev AreValuesOf : Kind → List Value → Type 0
AreValuesOf k [] = Unit {0}
AreValuesOf k (v ∷ vs) = (is_of_kind k v ≡ true) × AreValuesOf k vs

abbrev AreValuesOrFault : Kind → OrFault (List Value) → Type 0
AreValuesOrFault k None = Unit {0}
AreValuesOrFault k (Some vs) = AreValuesOf k vs

one_value : (k : Kind) (o : OrFault Value) (vs : OrFault (List Value)) → IsValueOf k o → AreValuesOrFault k vs → AreValuesOrFault k (append_results (option_map singleton o) vs)
one_value k (Some v) (Some vs) is are = (is, are)
one_value k (Some v) None is are = tt {0}
one_value k None vs is are = tt {0}

operands_are : (types : List Kind) (e : Expr) (k : Kind) (rows : List Row) → is_of types e k ≡ true → AreRowsOf types rows → AreValuesOrFault k (operands e rows)
operands_are types e k [] is rows_are = tt {0}
operands_are types e k (row ∷ rows) is rows_are = one_value k (value_of (val row e)) (operands e rows) (value_is k (val row e) (keeps_type types row rows_are.0 e k is)) (operands_are types e k rows is rows_are.1)

filtered_values : (k : Kind) (test : Value → Bool) (vs : List Value) → AreValuesOf k vs → AreValuesOf k (filter test vs)
filtered_values k test [] are = tt {0}
filtered_values k test (v ∷ vs) are = go (test v) (filtered_values k test vs are.1) where
  go : (b : Bool) → AreValuesOf k (filter test vs) → AreValuesOf k (if b then v ∷ filter test vs else filter test vs)
  go true others = (are.0, others)
  go false others = others

-- ---- aggregates

chosen_value : (k : Kind) (b : Bool) (v w : Value) → is_of_kind k v ≡ true → is_of_kind k w ≡ true → is_of_kind k (if b then w else v) ≡ true
chosen_value k true v w v_is w_is = w_is
chosen_value k false v w v_is w_is = v_is

folded_value : (k : Kind) (better : Value → Value → Value) (v : Value) (vs : List Value) → ((a b : Value) → is_of_kind k a ≡ true → is_of_kind k b ≡ true → is_of_kind k (better a b) ≡ true) → is_of_kind k v ≡ true → AreValuesOf k vs → is_of_kind k (fold better v vs) ≡ true
folded_value k better v [] either is are = is
folded_value k better v (w ∷ vs) either is are = folded_value k better (better v w) vs either (either v w is are.0) are.1

count_is : (vs : List Value) → IsValueOf kind.Int (value_of (of_values Count vs))
count_is vs = value_is kind.Int (number (pos (length vs))) (number_kept (pos (length vs)))

sum_is : (vs : List Value) → IsValueOf kind.Int (value_of (of_values Sum vs))
sum_is [] = refl
sum_is (v ∷ vs) = value_is kind.Int (number (total (v ∷ vs))) (number_kept (total (v ∷ vs)))

least_is : (k : Kind) (vs : List Value) → AreValuesOf k vs → IsValueOf k (value_of (of_values Min vs))
least_is k [] are = null_of k
least_is k (v ∷ vs) are = folded_value k lesser v vs (λ a b a_is b_is. chosen_value k (is_lt (value_order b a)) a b a_is b_is) are.0 are.1

greatest_is : (k : Kind) (vs : List Value) → AreValuesOf k vs → IsValueOf k (value_of (of_values Max vs))
greatest_is k [] are = null_of k
greatest_is k (v ∷ vs) are = folded_value k greater v vs (λ a b a_is b_is. chosen_value k (is_gt (value_order b a)) a b a_is b_is) are.0 are.1

then_value : (k result : Kind) (o : OrFault (List Value)) (next : List Value → OrFault Value) → AreValuesOrFault k o → ((vs : List Value) → AreValuesOf k vs → IsValueOf result (next vs)) → IsValueOf result (o >>= next)
then_value k result (Some vs) next are follows = follows vs are
then_value k result None next are follows = tt {0}

any_value : (result : Kind) (o : OrFault (List Value)) (next : List Value → OrFault Value) → ((vs : List Value) → IsValueOf result (next vs)) → IsValueOf result (o >>= next)
any_value result (Some vs) next follows = follows vs
any_value result None next follows = tt {0}

int_value : (k : Kind) (o : OrFault Value) → are_same kind.Int k ≡ true → IsValueOf kind.Int o → IsValueOf k o
int_value k o same is = subst (λ (t : Kind). IsValueOf t o) (same_kind kind.Int k same) is

aggregate_is : (types : List Kind) (rows : List Row) (a : Aggregate) (k : Kind) → is_aggregate_of types a k ≡ true → AreRowsOf types rows → IsValueOf k (aggregate rows a)
aggregate_is types rows CountRows k is are = int_value k (value_of (number (pos (length rows)))) is (value_is kind.Int (number (pos (length rows))) (number_kept (pos (length rows))))
aggregate_is types rows (Of Count e) k is are =
    int_value k (operands e rows >>= (λ vs. value_of (of_values Count (without_nulls vs)))) (and_parts (are_same kind.Int k) (has_type (is_of types e)) is).0
    (any_value kind.Int (operands e rows) (λ vs. value_of (of_values Count (without_nulls vs))) (λ vs. count_is (without_nulls vs)))
aggregate_is types rows (Of Sum e) k is are =
    int_value k (operands e rows >>= (λ vs. value_of (of_values Sum (without_nulls vs)))) (and_parts (are_same kind.Int k) (is_of types e kind.Int) is).0
    (any_value kind.Int (operands e rows) (λ vs. value_of (of_values Sum (without_nulls vs))) (λ vs. sum_is (without_nulls vs)))
aggregate_is types rows (Of Min e) k is are =
    then_value k k (operands e rows) (λ vs. value_of (of_values Min (without_nulls vs))) (operands_are types e k rows is are)
    (λ vs vs_are. least_is k (without_nulls vs) (filtered_values k (λ (v : Value). not (is_null v)) vs vs_are))
aggregate_is types rows (Of Max e) k is are =
    then_value k k (operands e rows) (λ vs. value_of (of_values Max (without_nulls vs))) (operands_are types e k rows is are)
    (λ vs vs_are. greatest_is k (without_nulls vs) (filtered_values k (λ (v : Value). not (is_null v)) vs vs_are))

-- ---- rows made of values

abbrev IsRowOrFault : List Kind → OrFault Row → Type 0
IsRowOrFault types None = Unit {0}
IsRowOrFault types (Some row) = IsRowOf types row

one_more : (k : Kind) (types : List Kind) (o : OrFault Value) (row : OrFault Row) → IsValueOf k o → IsRowOrFault types row → IsRowOrFault (k ∷ types) (append_results (option_map singleton o) row)
one_more k types (Some v) (Some row) is are = (is, are)
one_more k types (Some v) None is are = tt {0}
one_more k types None row is are = tt {0}

aggregates_are : (types : List Kind) (rows : List Row) (found : List Aggregate) (kinds : List Kind) → AreAggregatesOf types found kinds → AreRowsOf types rows → IsRowOrFault kinds (each (aggregate rows) found)
aggregates_are types rows [] [] is are = tt {0}
aggregates_are types rows [] (k ∷ ks) is are = absurd is
aggregates_are types rows (a ∷ found) [] is are = absurd is
aggregates_are types rows (a ∷ found) (k ∷ ks) is are = one_more k ks (aggregate rows a) (each (aggregate rows) found) (aggregate_is types rows a k is.0 are) (aggregates_are types rows found ks is.1 are)

values_are : (types : List Kind) (es : List Expr) (kinds : List Kind) (row : Row) → AreOutputsOf types es kinds → IsRowOf types row → IsRowOrFault kinds (values es row)
values_are types [] [] row is row_is = tt {0}
values_are types [] (k ∷ ks) row is row_is = absurd is
values_are types (e ∷ es) [] row is row_is = absurd is
values_are types (e ∷ es) (k ∷ ks) row is row_is = one_more k ks (value_of (val row e)) (values es row) (value_is k (val row e) (keeps_type types row row_is e k is.0)) (values_are types es ks row is.1 row_is)

only_row : (types : List Kind) (o : OrFault Row) → IsRowOrFault types o → AreResultsOf types (option_map singleton o)
only_row types (Some row) is = (is, tt {0})
only_row types None is = tt {0}

selected_rows : (types : List Kind) (es : List Expr) (kinds : List Kind) (rows : List Row) → AreOutputsOf types es kinds → AreRowsOf types rows → AreResultsOf kinds (project_rows es rows)
selected_rows types es kinds rows is are = gathered_rows types kinds (λ row. option_map singleton (values es row)) rows (λ row row_is. only_row kinds (values es row) (values_are types es kinds row is row_is)) are

-- ---- groups

filtered_rows : (types : List Kind) (test : Row → Bool) (rows : List Row) → AreRowsOf types rows → AreRowsOf types (filter test rows)
filtered_rows types test [] are = tt {0}
filtered_rows types test (row ∷ rows) are = go (test row) (filtered_rows types test rows are.1) where
  go : (b : Bool) → AreRowsOf types (filter test rows) → AreRowsOf types (if b then row ∷ filter test rows else filter test rows)
  go true others = (are.0, others)
  go false others = others

distinct_rows : (types : List Kind) (rows : List Row) → AreRowsOf types rows → AreRowsOf types (distinct rows)
distinct_rows types [] are = tt {0}
distinct_rows types (row ∷ rows) are = (are.0, filtered_rows types (λ (y : Row). not (are_equal row y)) (distinct rows) (distinct_rows types rows are.1))

key_is : (types : List Kind) (places : List ℕ) (keys : List Kind) (row : Row) → AreColumnsOf types places keys → IsRowOf types row → IsRowOf keys (columns_at places row)
key_is types [] [] row are is = tt {0}
key_is types [] (k ∷ ks) row are is = absurd are
key_is types (p ∷ ps) [] row are is = absurd are
key_is types (p ∷ ps) (k ∷ ks) row are is = (column_kept types row p k is are.0, key_is types ps ks row are.1 is)

keys_are : (types : List Kind) (places : List ℕ) (keys : List Kind) (rows : List Row) → AreColumnsOf types places keys → AreRowsOf types rows → AreRowsOf keys (map (columns_at places) rows)
keys_are types places keys [] are rows_are = tt {0}
keys_are types places keys (row ∷ rows) are rows_are = (key_is types places keys row are rows_are.0, keys_are types places keys rows are rows_are.1)

group_keys_are : (types : List Kind) (places : List ℕ) (keys : List Kind) (rows : List Row) → AreColumnsOf types places keys → AreRowsOf types rows → AreRowsOf keys (group_keys places rows)
group_keys_are types [] [] rows are rows_are = (tt {0}, tt {0})
group_keys_are types [] (k ∷ ks) rows are rows_are = absurd are
group_keys_are types (p ∷ ps) keys rows are rows_are = distinct_rows keys (map (columns_at (p ∷ ps)) rows) (keys_are types (p ∷ ps) keys rows are rows_are)

after_key : (keys kinds : List Kind) (key : Row) (o : OrFault Row) → IsRowOf keys key → IsRowOrFault kinds o → IsRowOrFault (keys ++ kinds) (o >>= (λ vs. Some (key ++ vs)))
after_key keys kinds key (Some vs) key_is is = both_row keys kinds key vs key_is is
after_key keys kinds key None key_is is = tt {0}

groups_are : (types : List Kind) (g : Grouping) (keys kinds : List Kind) (rows : List Row) → AreColumnsOf types g.keys keys → AreAggregatesOf types g.aggregates kinds → AreRowsOf types rows → AreResultsOf (keys ++ kinds) (groups g rows)
groups_are types g keys kinds rows columns is are = gathered_rows keys (keys ++ kinds) (λ key. option_map singleton (group_row g rows key)) (group_keys g.keys rows)
    (λ key key_is. only_row (keys ++ kinds) (group_row g rows key)
    (after_key keys kinds key (each (aggregate (rows_with g.keys key rows)) g.aggregates) key_is
    (aggregates_are types (rows_with g.keys key rows) g.aggregates kinds is (filtered_rows types (λ (row : Row). are_equal key (columns_at g.keys row)) rows are))))
    (group_keys_are types g.keys keys rows columns are)

grouped_rows : (types : List Kind) (g : Option Grouping) (shown : List Kind) (rows : List Row) → IsGroupedOf types g shown → AreRowsOf types rows → AreResultsOf shown (group_rows g rows)
grouped_rows types None shown rows is are = subst (λ (ts : List Kind). AreRowsOf ts rows) is are
grouped_rows types (Some g) shown rows is are =
    then_rows shown shown (groups g rows) (filter_where g.having) (subst (λ (ts : List Kind). AreResultsOf ts (groups g rows)) is.4 (groups_are types g is.0 is.1 rows is.2 is.3 are)) (λ found found_are. kept_where_rows shown g.having found found_are)

-- ---- blocks and queries

distinct_if_rows : (types : List Kind) (b : Bool) (rows : List Row) → AreRowsOf types rows → AreRowsOf types (distinct_if b rows)
distinct_if_rows types true rows are = distinct_rows types rows are
distinct_if_rows types false rows are = are

block_is : (leaves : List (List Kind)) (tables : List (List Row)) (b : Block Rows) (types : List Kind) → AreTablesOf leaves tables → IsBlockOf Gives leaves b types → AreResultsOf types (block_rows (table_results tables) b)
block_is leaves tables b types are is =
    then_rows types types (from (table_results tables) b.from b.joins >>= filter_where b.filter >>= group_rows b.grouping >>= project_rows b.outputs) (λ rows. Some (distinct_if b.is_distinct rows))
    (then_rows is.1 types (from (table_results tables) b.from b.joins >>= filter_where b.filter >>= group_rows b.grouping) (project_rows b.outputs)
    (then_rows is.0 is.1 (from (table_results tables) b.from b.joins >>= filter_where b.filter) (group_rows b.grouping)
    (then_rows is.0 is.0 (from (table_results tables) b.from b.joins) (filter_where b.filter) (from_is leaves tables are b.from b.joins is.0 is.2) (λ rows rows_are. kept_where_rows is.0 b.filter rows rows_are))
    (λ rows rows_are. grouped_rows is.0 b.grouping is.1 rows is.4 rows_are))
    (λ rows rows_are. selected_rows is.1 b.outputs types rows is.5 rows_are))
    (λ rows rows_are. distinct_if_rows types b.is_distinct rows rows_are)

blocks_are : (leaves : List (List Kind)) (tables : List (List Row)) (bs : List (Block Rows)) (types : List Kind) → AreTablesOf leaves tables → AreBlocksOf Gives leaves bs types → AreResultsOf types (concat_map (block_rows (table_results tables)) bs)
blocks_are leaves tables [] types are is = tt {0}
blocks_are leaves tables (b ∷ bs) types are is = both_followed types (block_rows (table_results tables) b) (concat_map (block_rows (table_results tables)) bs) (block_is leaves tables b types are is.0) (blocks_are leaves tables bs types are is.1)

placed_rows : (types : List Kind) (before : Row → Row → Bool) (row : Row) (rows : List Row) → IsRowOf types row → AreRowsOf types rows → AreRowsOf types (insert_sorted before row rows)
placed_rows types before row [] is are = (is, tt {0})
placed_rows types before row (y ∷ ys) is are = go (before y row) (placed_rows types before row ys is are.1) where
  go : (b : Bool) → AreRowsOf types (insert_sorted before row ys) → AreRowsOf types (if b then y ∷ insert_sorted before row ys else row ∷ y ∷ ys)
  go true others = (are.0, others)
  go false others = (is, are)

ordered_rows : (types : List Kind) (before : Row → Row → Bool) (rows : List Row) → AreRowsOf types rows → AreRowsOf types (insertion_sort before rows)
ordered_rows types before [] are = tt {0}
ordered_rows types before (row ∷ rows) are = placed_rows types before row (insertion_sort before rows) are.0 (ordered_rows types before rows are.1)

taken_rows : (types : List Kind) (n : ℕ) (rows : List Row) → AreRowsOf types rows → AreRowsOf types (take n rows)
taken_rows types zero rows are = tt {0}
taken_rows types (suc n) [] are = tt {0}
taken_rows types (suc n) (row ∷ rows) are = (are.0, taken_rows types n rows are.1)

dropped_rows : (types : List Kind) (n : ℕ) (rows : List Row) → AreRowsOf types rows → AreRowsOf types (drop n rows)
dropped_rows types zero rows are = are
dropped_rows types (suc n) [] are = tt {0}
dropped_rows types (suc n) (row ∷ rows) are = dropped_rows types n rows are.1

limited_rows : (types : List Kind) (l : Option Limit) (rows : List Row) → AreRowsOf types rows → AreRowsOf types (limit_rows l rows)
limited_rows types None rows are = are
limited_rows types (Some l) rows are = taken_rows types l.rows (drop l.skip rows) (dropped_rows types l.skip rows are)

pub layer_is : (leaves : List (List Kind)) (tables : List (List Row)) (q : BoundQuery-F Rows) (types : List Kind) → AreTablesOf leaves tables → IsLayerOf Gives leaves q types → AreResultsOf types (query_rows (table_results tables) q)
layer_is leaves tables q types are is =
    then_rows types types (concat_map (block_rows (table_results tables)) (q.first ∷ q.others)) (λ rows. Some (limit_rows q.limit (sorted q.order rows))) (blocks_are leaves tables (q.first ∷ q.others) types are is.0)
    (λ rows rows_are. limited_rows types q.limit (sorted q.order rows) (ordered_rows types (comes_before q.order) rows rows_are))
