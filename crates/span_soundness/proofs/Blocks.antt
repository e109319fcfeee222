-- What the binder makes of a FROM and of the clauses after it is well typed.
use Rattle.std.proofs.Common.{◌≡◌, ◌∙◌, sym, ap, refl, subst, ℕ, zero, suc, ◌+◌, ◌<◌, ◌≤◌, ◌==◌, true, false, Bool, if◌then◌else◌, List, [], ◌∷◌, ◌++◌, length, map, Option, Some, None, Result, Ok, Err, arith}
use Rattle.std.specs.Prelude.{slice_get, ◌-◌, ◌||◌, nat_lt}
use Rattle.std.proofs.lemmas.Bool.Decides.{nat_tests}
use Rattle.std.specs.Option.{option_map}
use Rattle.std.specs.List.{AllByRecursion, range_with_len, list_all, zip}
use Rattle.std.proofs.lemmas.List.{append-nil, length-map, map-append}
use Rattle.std.proofs.lemmas.Bool.{eqb-true, and_parts}
use Rattle.span_value.specs.declared.value.Kind.{Kind}
use Rattle.span_value.specs.declared.value.Kind.TheVariants as kind
use Rattle.span_value.specs.declared.refusal.Refusal.{Refusal}
use Rattle.span_value.specs.declared.refusal.Refusal.TheVariants.{TypeMismatch, DuplicateAlias, ColumnsDiffer, BadOrdinal}
use Rattle.span_trees.specs.declared.tree.Spelling.{Spelling}
use Rattle.span_trees.specs.declared.tree.Column.{Column}
use Rattle.span_trees.specs.declared.tree.Expr.{Expr as Tree}
use Rattle.span_parser.specs.declared.tree.Output.{Output}
use Rattle.span_parser.specs.declared.tree.Output.TheVariants as output
use Rattle.span_parser.specs.declared.tree.SortKey.{SortKey}
use Rattle.span_parser.specs.declared.tree.SortColumn.{SortColumn}
use Rattle.span_parser.specs.declared.tree.SortColumn.TheVariants as sort
use Rattle.span_parser.specs.declared.tree.Limit.{Limit}
use Rattle.span_expr.specs.declared.expr.Expr.{Expr}
use Rattle.span_query.specs.declared.query.BoundQuery.{BoundQuery}
use Rattle.span_query.specs.declared.query.BoundQuery.TheOpen.{BoundQuery-F}
use Rattle.span_query.specs.declared.query.BoundQuery.TheViews.{roll-BoundQuery}
use Rattle.span_query.specs.declared.query.Join.{Join}
use Rattle.span_query.specs.declared.query.SortKey.{SortKey as BoundKey}
use Rattle.span_query.specs.declared.query.Aggregate.{Aggregate}
use Rattle.span_params.specs.declared.params.Parameter.{Parameter}
use Rattle.span_typing.specs.declared.scope.Scope.{Scope}
use Rattle.span_typing.specs.declared.scope.ScopeColumn.{ScopeColumn}
use Rattle.span_operators.specs.declared.typed.Typed.{Typed}
use Rattle.span_operators.specs.declared.typed.Mode.{Mode}
use Rattle.span_operators.specs.declared.typed.Mode.TheVariants.{Rows, Groups}
use Rattle.span_operators.specs.Kinds.{takes}
use Rattle.span_typing.specs.Scopes.{item_named, column_place}
use Rattle.span_value.specs.Results.{and_then}
use Rattle.span_value.proofs.Lists.{all_append, all_push}
use Rattle.span_operators.specs.Steps.{pure, ◌>>=◌}
use Rattle.span_typing.specs.Typing.{Finds, typing, kind_at, column_at}
use Rattle.span_query.specs.declared.query.OutputColumn.{OutputColumn}
use Rattle.span_blocks.specs.declared.bound.Source.{Source}
use Rattle.span_blocks.specs.declared.bound.FromItems.{FromItems}
use Rattle.span_blocks.specs.declared.bound.SelectItem.{SelectItem}
use Rattle.span_blocks.specs.declared.bound.Parts.{Parts}
use Rattle.span_blocks.specs.declared.bound.TypedQuery.{TypedQuery}
use Rattle.span_blocks.specs.declared.bound.BoundBlock.{BoundBlock}
use Rattle.span_blocks.specs.declared.bound.BoundBlocks.{BoundBlocks}
use Rattle.span_blocks.specs.Onward.{fold_results}
use Rattle.span_blocks.specs.Onward.{append_result as one_after}
use Rattle.span_blocks.specs.Sources.{no_names, scope_column, with_names, has_item, check_bool, condition, start_from, join_of, with_join, add_item}
use Rattle.span_blocks.specs.Outputs.{projection, or_nameless, projected_column, projected_columns, all_places, places_of, item_places, output_name, project_all, project_item, project_value, project_output, project_next, select_list}
use Rattle.span_blocks.specs.Aggregating.{mode_of}
use Rattle.span_blocks.specs.Blocks.{with_keys, group_places, place_in, groups_named, filter_of, having_of, projected_exprs, BlockTail, bind_parts, block_of, block_in, bind_block}
use Rattle.span_blocks.specs.Blocks.{projected_columns as columns_of_shown}
use Rattle.span_binder.specs.Queries.{have_same_kind, have_same_kinds, are_union_compatible, ordinal, is_column_named, sort_place, sort_key, sort_keys, blocks_of, limit_of, query_of, bind_query}
use Rattle.span_soundness.specs.Types.{are_same, is_of}
use Rattle.span_soundness.specs.Bindings.{column_types, row_types, output_types, AreAggregatesOf, AreTyped, IsTyped}
use Rattle.span_soundness.specs.WellTyped.{IsItemOf, AreJoinsOf, IsFromOf, is_condition, AreColumnsOf, AreOutputsOf, IsBlockOf, AreBlocksOf, AreKeysOf, IsLayerOf}
use Rattle.span_soundness.proofs.Sameness.{same_kind}
use Rattle.span_soundness.proofs.Agreeing.{Made, then_made, made_if}
use Rattle.span_soundness.proofs.Making.{own_right}
use Rattle.span_soundness.proofs.Places.{Within, column_within, place_within, column_there, column_at_right, any_made}
use Rattle.span_soundness.proofs.Going.{Always, later_on, Leads, Keeps, then_keeps, given_keeps, both_are_of}
use Rattle.span_soundness.proofs.Binding.{sound}

-- ---- the types of names

abbrev type_of : ScopeColumn → Kind
type_of c = c.kind

abbrev output_type : OutputColumn → Kind
output_type c = c.kind

scoped_types : (item : ℕ) (cs : List OutputColumn) → map type_of (map (scope_column item) cs) ≡ output_types cs
scoped_types item [] = refl
scoped_types item (c ∷ cs) = ap (λ (ks : List Kind). c.kind ∷ ks) (scoped_types item cs)

names_types : (scope : Scope) (s : Source) → column_types (with_names scope s) ≡ column_types scope ++ output_types s.columns
names_types scope s =
    map-append type_of scope.columns (map (scope_column (length scope.items)) s.columns)
    ∙ ap (λ (ks : List Kind). column_types scope ++ ks) (scoped_types (length scope.items) s.columns)

keys_types : (scope : Scope) (keys : List ℕ) → AllByRecursion (Within scope.columns) keys → AreColumnsOf (column_types scope) keys (map (kind_at scope) keys)
keys_types scope [] all = tt {0}
keys_types scope (p ∷ keys) all = (column_there scope.columns p all.0, keys_types scope keys all.1)

-- ---- conditions

abbrev IsBool : List Kind → Expr → Type 0
IsBool types e = is_of types e kind.Bool ≡ true

judged_is : (types : List Kind) (x : Typed) → IsTyped types x → Made (IsBool types) (check_bool x)
judged_is types x x_is = made_if (IsBool types) (takes kind.Bool x.kind) x.expr TypeMismatch (λ t. x_is kind.Bool t)

module _ (params : List Parameter) (params_are : AreTyped params) where
  pub condition_is : (scope : Scope) (e : Tree) → Made (IsBool (column_types scope)) (condition scope params e)
  unfolding condition
  condition_is scope e = go (typing scope params e Rows []) (sound scope params params_are e Rows [] [] (tt {0})) where
    go : (o : Result (Typed × List Aggregate) Refusal) → Leads (column_types scope) (λ ks x. IsTyped (row_types scope Rows ks) x) [] [] o → Made (IsBool (column_types scope)) (and_then o (λ p. check_bool p.0))
    go (Ok p) leads = judged_is (column_types scope) p.0 (leads.4 [])
    go (Err why) leads = tt {0}

  abbrev IsFilter : List Kind → Option Expr → Type 0
  IsFilter types e = is_condition types e ≡ true

  filter_is : (scope : Scope) (e : Option Tree) → Made (IsFilter (column_types scope)) (filter_of scope params e)
  unfolding filter_of
  filter_is scope None = refl
  filter_is scope (Some e) = then_made (IsBool (column_types scope)) (IsFilter (column_types scope)) (condition scope params e) (λ x. Ok (Some x)) (condition_is scope e) (λ x is. is)

  -- ---- the select list

  abbrev ShownAt : Scope → Mode → List Kind → SelectItem → Type 0
  ShownAt scope m kinds s = is_of (row_types scope m kinds) s.expr s.column.kind ≡ true

  shown_is : (types : List Kind) (name : Option (List ℕ)) (x : Typed) → IsTyped types x → is_of types (projection name x).expr (projection name x).column.kind ≡ true
  shown_is types name x x_is = own_right types x x_is

  abbrev IsWithin : Scope → ℕ → Type 0
  IsWithin scope place = place < length scope.columns

  column_shown_is : (scope : Scope) (m : Mode) (kinds : List Kind) (place : ℕ) → IsWithin scope place → Made (ShownAt scope m kinds) (projected_column scope m place)
  column_shown_is scope m kinds place within =
      then_made (IsTyped (row_types scope m kinds)) (ShownAt scope m kinds) (column_at scope m place) (λ x. Ok (projection (or_nameless (slice_get scope.columns place)) x)) (column_at_right scope m kinds place within)
      (λ x x_is. shown_is (row_types scope m kinds) (or_nameless (slice_get scope.columns place)) x x_is)

  each_made : {A X : Type 0} (P : A → Type 0) (Q : X → Type 0) (f : X → Result A Refusal) → ((x : X) → Q x → Made P (f x)) → (xs : List X) (found : List A) → AllByRecursion Q xs → AllByRecursion P found → Made (AllByRecursion P) (fold_results (one_after f) xs found)
  each_made P Q f right [] found all are = are
  each_made P Q f right (x ∷ xs) found all are = go (f x) (right x all.0) (λ a a_is. each_made P Q f right xs (found ++ (a ∷ [])) all.1 (all_push P found a are a_is)) where
    go : (r : Result _ Refusal) → Made P r → ((a : _) → P a → Made (AllByRecursion P) (fold_results (one_after f) xs (found ++ (a ∷ [])))) → Made (AllByRecursion P) (and_then (and_then r (λ a. Ok (found ++ (a ∷ [])))) (fold_results (one_after f) xs))
    go (Ok a) is follows = follows a is
    go (Err why) is follows = tt {0}

  columns_shown_is : (scope : Scope) (m : Mode) (kinds : List Kind) (places : List ℕ) → AllByRecursion (IsWithin scope) places → Made (AllByRecursion (ShownAt scope m kinds)) (projected_columns scope m places)
  unfolding projected_columns
  columns_shown_is scope m kinds places all = each_made (ShownAt scope m kinds) (IsWithin scope) (projected_column scope m) (column_shown_is scope m kinds) places [] all (tt {0})

  places_below : (bound n : ℕ) (a : ℕ) → a + n ≤ bound → AllByRecursion (λ (p : ℕ). p < bound) (range_with_len a n)
  places_below bound zero a within = tt {0}
  places_below bound (suc n) a within = (omega arith, places_below bound n (a + 1) (omega arith))

  item_below : (bound item : ℕ) (columns : List ScopeColumn) (place : ℕ) → place + length columns ≤ bound → AllByRecursion (λ (p : ℕ). p < bound) (places_of item place columns)
  item_below bound item [] place within = tt {0}
  item_below bound item (c ∷ columns) place within = go (c.item == item) (omega arith) (item_below bound item columns (place + 1) (omega arith)) where
    go : (b : Bool) → place < bound → AllByRecursion (λ (p : ℕ). p < bound) (places_of item (place + 1) columns) → AllByRecursion (λ (p : ℕ). p < bound) (if b then place ∷ places_of item (place + 1) columns else places_of item (place + 1) columns)
    go true here others = (here, others)
    go false here others = others

  all_shown_is : (scope : Scope) (m : Mode) (kinds : List Kind) → Made (AllByRecursion (ShownAt scope m kinds)) (project_all scope m)
  unfolding project_all
  all_shown_is scope m kinds = columns_shown_is scope m kinds (all_places scope) (places_below (length scope.columns) (length scope.columns) 0 (omega arith))

  item_places_within : (scope : Scope) (o : Option ℕ) → Made (AllByRecursion (IsWithin scope)) (item_places scope o)
  item_places_within scope None = tt {0}
  item_places_within scope (Some item) = item_below (length scope.columns) item scope.columns 0 (omega arith)

  item_shown_is : (scope : Scope) (m : Mode) (kinds : List Kind) (name : List ℕ) → Made (AllByRecursion (ShownAt scope m kinds)) (project_item scope m name)
  unfolding project_item
  item_shown_is scope m kinds name = then_made (AllByRecursion (IsWithin scope)) (AllByRecursion (ShownAt scope m kinds)) (item_places scope (item_named scope name)) (projected_columns scope m) (item_places_within scope (item_named scope name)) (columns_shown_is scope m kinds)

  abbrev EachShown : Scope → Mode → List Kind → List SelectItem → Type 0
  EachShown scope m kinds ss = AllByRecursion (ShownAt scope m kinds) ss

  abbrev TypedAt : Scope → Mode → List Kind → Typed → Type 0
  TypedAt scope m kinds x = IsTyped (row_types scope m kinds) x

  value_shown_is : (scope : Scope) (m : Mode) (kinds : List Kind) (e : Tree) (alias : Option Spelling) → Keeps (column_types scope) (EachShown scope m) kinds (project_value scope params m e alias)
  unfolding project_value
  value_shown_is scope m kinds e alias =
      then_keeps (column_types scope) (TypedAt scope m) (EachShown scope m) kinds (typing scope params e m) (λ x. pure (projection (output_name e alias) x ∷ [])) (sound scope params params_are e m kinds)
      (λ more x x_is. given_keeps (column_types scope) (EachShown scope m) (kinds ++ more) (Ok (projection (output_name e alias) x ∷ []))
      (λ later. (shown_is (row_types scope m ((kinds ++ more) ++ later)) (output_name e alias) x (x_is later), tt {0})))

  output_is : (scope : Scope) (m : Mode) (kinds : List Kind) (o : Output) → Keeps (column_types scope) (EachShown scope m) kinds (project_output scope params m o)
  output_is scope m kinds output.All = given_keeps (column_types scope) (EachShown scope m) kinds (project_all scope m) (λ later. all_shown_is scope m (kinds ++ later))
  output_is scope m kinds (output.AllOf name) = given_keeps (column_types scope) (EachShown scope m) kinds (project_item scope m name.text) (λ later. item_shown_is scope m (kinds ++ later) name.text)
  output_is scope m kinds (output.Value e alias) = value_shown_is scope m kinds e alias

  abbrev outputs_from : Scope → Mode → List Output → List SelectItem → Finds (List SelectItem)
  outputs_from scope m os so_far found = fold_results (project_next scope params m) os (so_far, found)

  outputs_are : (scope : Scope) (m : Mode) (os : List Output) (kinds : List Kind) (so_far : List SelectItem) → Always (EachShown scope m) kinds so_far → Keeps (column_types scope) (EachShown scope m) kinds (outputs_from scope m os so_far)
  outputs_are scope m [] kinds so_far are = given_keeps (column_types scope) (EachShown scope m) kinds (Ok so_far) are
  outputs_are scope m (o ∷ os) kinds so_far are =
      then_keeps (column_types scope) (EachShown scope m) (EachShown scope m) kinds (project_output scope params m o >>= (λ ss. pure (so_far ++ ss))) (outputs_from scope m os)
      (then_keeps (column_types scope) (EachShown scope m) (EachShown scope m) kinds (project_output scope params m o) (λ ss. pure (so_far ++ ss)) (output_is scope m kinds o)
      (λ more ss ss_are. given_keeps (column_types scope) (EachShown scope m) (kinds ++ more) (Ok (so_far ++ ss))
      (λ later. all_append (ShownAt scope m ((kinds ++ more) ++ later)) so_far ss (later_on (EachShown scope m) kinds more so_far are later) (ss_are later))))
      (λ more ss ss_are. outputs_are scope m os (kinds ++ more) ss ss_are)

  select_is : (scope : Scope) (m : Mode) (os : List Output) → Leads (column_types scope) (EachShown scope m) [] [] (select_list scope params m os)
  unfolding select_list
  select_is scope m os = outputs_are scope m os [] [] (λ later. tt {0}) [] (tt {0})

  -- ---- HAVING

  abbrev HavingAt : Scope → List Kind → Option Expr → Type 0
  HavingAt scope kinds e = IsFilter (row_types scope Groups kinds) e

  judged_keeps : (scope : Scope) (kinds : List Kind) (x : Typed) → Always (TypedAt scope Groups) kinds x → Keeps (column_types scope) (HavingAt scope) kinds (λ found. and_then (check_bool x) (λ e. Ok (Some e, found)))
  judged_keeps scope kinds x x_is found are = go (check_bool x) (λ later. judged_is (row_types scope Groups (kinds ++ later)) x (x_is later)) where
    go : (r : Result Expr Refusal) → ((later : List Kind) → Made (IsBool (row_types scope Groups (kinds ++ later))) r) → Leads (column_types scope) (HavingAt scope) found kinds (and_then r (λ e. Ok (Some e, found)))
    go (Ok e) is = ([], [], sym (append-nil found), tt {0}, λ later. subst (λ (ks : List Kind). HavingAt scope (ks ++ later) (Some e)) (sym (append-nil kinds)) (is later))
    go (Err why) is = tt {0}

  having_is : (scope : Scope) (kinds : List Kind) (e : Option Tree) → Keeps (column_types scope) (HavingAt scope) kinds (having_of scope params e)
  unfolding having_of
  having_is scope kinds None = given_keeps (column_types scope) (HavingAt scope) kinds (Ok None) (λ later. refl)
  having_is scope kinds (Some e) =
      then_keeps (column_types scope) (TypedAt scope Groups) (HavingAt scope) kinds (typing scope params e Groups) (λ x found. and_then (check_bool x) (λ y. Ok (Some y, found))) (sound scope params params_are e Groups kinds)
      (λ more x x_is. judged_keeps scope (kinds ++ more) x x_is)

  -- ---- the parts of a block

  abbrev PartsAre : Scope → Mode → Parts → Type 0
  PartsAre scope m p =
      (kinds : List Kind) × AreAggregatesOf (column_types scope) p.aggregates kinds × IsFilter (column_types scope) p.filter × IsFilter (row_types scope Groups kinds) p.having × AllByRecursion (ShownAt scope m kinds) p.projection

  abbrev parts_of : List SelectItem → Option Expr → Option Expr × List Aggregate → Parts
  parts_of ss filter having = record { projection = ss; filter = filter; having = having.0; aggregates = having.1 }

  with_having : (scope : Scope) (m : Mode) (ss : List SelectItem) (found : List Aggregate) (kinds : List Kind) (filter : Option Expr) (o : Result (Option Expr × List Aggregate) Refusal)
      → AreAggregatesOf (column_types scope) found kinds → Always (EachShown scope m) kinds ss → IsFilter (column_types scope) filter → Leads (column_types scope) (HavingAt scope) found kinds o → Made (PartsAre scope m) (and_then o (λ having. Ok (parts_of ss filter having)))
  with_having scope m ss found kinds filter (Err why) are ss_are filter_right leads = tt {0}
  with_having scope m ss found kinds filter (Ok p) are ss_are filter_right leads = (
    kinds ++ leads.1,
    subst (λ (l : List Aggregate). AreAggregatesOf (column_types scope) l (kinds ++ leads.1)) (sym leads.2) (both_are_of (column_types scope) found kinds leads.0 leads.1 are leads.3),
    filter_right,
    subst (λ (ks : List Kind). HavingAt scope ks p.0) (append-nil (kinds ++ leads.1)) (leads.4 []),
    ss_are leads.1,
  )

  with_filter : (scope : Scope) (m : Mode) (b : BlockTail) (p : List SelectItem × List Aggregate) (kinds : List Kind)
      → AreAggregatesOf (column_types scope) p.1 kinds → Always (EachShown scope m) kinds p.0 → Made (PartsAre scope m) (and_then (filter_of scope params b.filter) (λ filter. and_then (groups_named scope b.groups) (λ t. and_then (having_of scope params b.having p.1) (λ having. Ok (parts_of p.0 filter having)))))
  with_filter scope m b p kinds are ss_are =
      then_made (IsFilter (column_types scope)) (PartsAre scope m) (filter_of scope params b.filter) (λ filter. and_then (groups_named scope b.groups) (λ t. and_then (having_of scope params b.having p.1) (λ having. Ok (parts_of p.0 filter having)))) (filter_is scope b.filter)
      (λ filter filter_right. then_made (λ (t : Unit {0}). Unit {0}) (PartsAre scope m) (groups_named scope b.groups) (λ t. and_then (having_of scope params b.having p.1) (λ having. Ok (parts_of p.0 filter having))) (any_made (groups_named scope b.groups))
      (λ t any. with_having scope m p.0 p.1 kinds filter (having_of scope params b.having p.1) are ss_are filter_right (having_is scope kinds b.having p.1 are)))

  parts_are : (scope : Scope) (m : Mode) (b : BlockTail) → Made (PartsAre scope m) (bind_parts scope params m b)
  unfolding bind_parts
  parts_are scope m b = go (select_list scope params m b.outputs) (select_is scope m b.outputs) where
    go : (o : Result (List SelectItem × List Aggregate) Refusal) → Leads (column_types scope) (EachShown scope m) [] [] o
        → Made (PartsAre scope m) (and_then o (λ p. and_then (filter_of scope params b.filter) (λ filter. and_then (groups_named scope b.groups) (λ t. and_then (having_of scope params b.having p.1) (λ having. Ok (parts_of p.0 filter having))))))
    go (Err why) leads = tt {0}
    go (Ok p) leads = with_filter scope m b p leads.1 (subst (λ (l : List Aggregate). AreAggregatesOf (column_types scope) l leads.1) (sym leads.2) leads.3) leads.4

  -- ---- blocks

  place_in_within : (scope : Scope) (r : Result ℕ Refusal) → Made (Within scope.columns) r → AllByRecursion (Within scope.columns) (place_in r)
  place_in_within scope (Ok p) is = (is, tt {0})
  place_in_within scope (Err why) is = tt {0}

  groups_within : (scope : Scope) (cs : List Column) → AllByRecursion (Within scope.columns) (group_places scope cs)
  unfolding group_places
  groups_within scope [] = tt {0}
  groups_within scope (c ∷ cs) = all_append (Within scope.columns) (place_in (column_place scope c)) (group_places scope cs) (place_in_within scope (column_place scope c) (column_within scope c)) (groups_within scope cs)

  outputs_right : (types : List Kind) (ss : List SelectItem) → AllByRecursion (λ (s : SelectItem). is_of types s.expr s.column.kind ≡ true) ss → AreOutputsOf types (projected_exprs ss) (output_types (columns_of_shown ss))
  outputs_right types [] all = tt {0}
  outputs_right types (s ∷ ss) all = (all.0, outputs_right types ss all.1)

  module _ (gives : BoundQuery → List Kind → Type 0) (leaves : List (List Kind)) where
    -- an item has columns of the types that its names have
    abbrev pub IsSource : Source → Type 0
    IsSource s = IsItemOf gives leaves s.item (output_types s.columns)

    abbrev pub IsFrom : FromItems → Type 0
    IsFrom f = IsFromOf gives leaves f.first f.joins (column_types f.scope)

    abbrev pub IsBlock : BoundBlock → Type 0
    IsBlock x = IsBlockOf gives leaves x.block (output_types x.columns)

    abbrev pub IsBound : TypedQuery → Type 0
    IsBound q = gives q.query (output_types q.columns)

    pub started_is : (s : Source) → IsSource s → IsFrom (start_from s)
    started_is s is = (column_types (with_names no_names s), subst (λ (ks : List Kind). IsItemOf gives leaves s.item ks) (sym (names_types no_names s)) is, refl)

    one_join : (left : List Kind) (joins : List (Join BoundQuery)) (types : List Kind) (j : Join BoundQuery) (right : List Kind)
        → AreJoinsOf gives leaves left joins types → IsItemOf gives leaves j.item right → length right ≡ j.width → IsBool (types ++ right) j.on → AreJoinsOf gives leaves left (joins ++ j ∷ []) (types ++ right)
    one_join left [] types j right are is width on = (right, is, width, subst (λ (ks : List Kind). IsBool (ks ++ right) j.on) (sym are) on, ap (λ (ks : List Kind). ks ++ right) are)
    one_join left (i ∷ joins) types j right are is width on = (are.0, are.1, are.2, are.3, one_join (left ++ are.0) joins types j right are.4 is width on)

    with_join_is : (f : FromItems) (is_left : Bool) (s : Source) (e : Expr) → IsFrom f → IsSource s → IsBool (column_types (with_names f.scope s)) e → IsFrom (with_join f is_left s e)
    with_join_is f is_left s e f_is s_is e_is = (
      f_is.0,
      f_is.1,
      subst (λ (ks : List Kind). AreJoinsOf gives leaves f_is.0 (f.joins ++ (join_of is_left s e ∷ [])) ks) (sym (names_types f.scope s))
          (one_join f_is.0 f.joins (column_types f.scope) (join_of is_left s e) (output_types s.columns) f_is.2 s_is (length-map s.columns output_type)
          (subst (λ (ks : List Kind). IsBool ks e) (names_types f.scope s) e_is)),
    )

    pub extended_is : (f : FromItems) (is_left : Bool) (s : Source) (on : Tree) → IsFrom f → IsSource s → Made IsFrom (add_item params f is_left s on)
    extended_is f is_left s on f_is s_is = go (has_item f.scope s.name) where
      go : (b : Bool) → Made IsFrom (if b then Err DuplicateAlias else and_then (condition (with_names f.scope s) params on) (λ e. Ok (with_join f is_left s e)))
      go true = tt {0}
      go false = then_made (IsBool (column_types (with_names f.scope s))) IsFrom (condition (with_names f.scope s) params on) (λ e. Ok (with_join f is_left s e)) (condition_is (with_names f.scope s) on) (λ e e_is. with_join_is f is_left s e f_is s_is e_is)

    parted_is : (f : FromItems) (is_distinct is_grouped : Bool) (keys : List ℕ) (parts : Parts) → AllByRecursion (Within f.scope.columns) keys → IsFrom f → PartsAre (with_keys f.scope keys) (mode_of is_grouped) parts → IsBlock (block_of f.first f.joins is_distinct is_grouped keys parts)
    parted_is f is_distinct true keys parts within f_is are = (
      column_types f.scope,
      row_types (with_keys f.scope keys) Groups are.0,
      f_is,
      are.2,
      (map (kind_at (with_keys f.scope keys)) keys, are.0, keys_types (with_keys f.scope keys) keys within, are.1, refl, are.3),
      outputs_right (row_types (with_keys f.scope keys) Groups are.0) parts.projection are.4,
    )
    parted_is f is_distinct false keys parts within f_is are =
        (column_types f.scope, column_types f.scope, f_is, are.2, refl, outputs_right (column_types f.scope) parts.projection are.4)

    pub block_is : (b : BlockTail) (f : FromItems) → IsFrom f → Made IsBlock (bind_block params b f)
    unfolding bind_block block_in
    block_is b f f_is =
        then_made (PartsAre (with_keys f.scope (group_places f.scope b.groups)) (mode_of b.is_grouped)) IsBlock (bind_parts (with_keys f.scope (group_places f.scope b.groups)) params (mode_of b.is_grouped) b)
        (λ parts. Ok (block_of f.first f.joins b.is_distinct b.is_grouped (group_places f.scope b.groups) parts)) (parts_are (with_keys f.scope (group_places f.scope b.groups)) (mode_of b.is_grouped) b)
        (λ parts are. parted_is f b.is_distinct b.is_grouped (group_places f.scope b.groups) parts (groups_within f.scope b.groups) f_is are)

    -- ---- unions

    abbrev layer_of : BoundBlocks → List BoundKey → Option Limit → BoundQuery-F BoundQuery
    layer_of b order limit = record { first = b.first.block; others = blocks_of b.others; order = order; limit = option_map limit_of limit }

    same_types : (cs ds : List OutputColumn) → length cs ≡ length ds → list_all have_same_kind (zip cs ds) ≡ true → output_types cs ≡ output_types ds
    same_types [] [] n same = refl
    same_types [] (d ∷ ds) n same = absurd (omega arith)
    same_types (c ∷ cs) [] n same = absurd (omega arith)
    same_types (c ∷ cs) (d ∷ ds) n same =
        let kinds : (are_same c.kind d.kind ≡ true) × (list_all have_same_kind (zip cs ds) ≡ true) = and_parts (are_same c.kind d.kind) (list_all have_same_kind (zip cs ds)) same in
        ap (λ (k : Kind). k ∷ output_types cs) (same_kind c.kind d.kind kinds.0) ∙ ap (λ (ks : List Kind). d.kind ∷ ks) (same_types cs ds (omega arith) kinds.1)

    -- blocks of a query, up to some block
    abbrev pub AreBound : BoundBlocks → Type 0
    AreBound b = IsBlock b.first × AllByRecursion IsBlock b.others

    others_are : (columns : List OutputColumn) (others : List BoundBlock) → AllByRecursion IsBlock others → list_all (λ (other : BoundBlock). have_same_kinds columns other.columns) others ≡ true → AreBlocksOf gives leaves (blocks_of others) (output_types columns)
    others_are columns [] all same = tt {0}
    others_are columns (b ∷ others) all same =
        let parts : (have_same_kinds columns b.columns ≡ true) × (list_all (λ (other : BoundBlock). have_same_kinds columns other.columns) others ≡ true) = and_parts (have_same_kinds columns b.columns) (list_all (λ (other : BoundBlock). have_same_kinds columns other.columns) others) same in
        let kinds : ((length columns == length b.columns) ≡ true) × (list_all have_same_kind (zip columns b.columns) ≡ true) = and_parts (length columns == length b.columns) (list_all have_same_kind (zip columns b.columns)) parts.0 in (
          subst (λ (ks : List Kind). IsBlockOf gives leaves b.block ks) (sym (same_types columns b.columns (eqb-true (length columns) (length b.columns) kinds.0) kinds.1)) all.0,
          others_are columns others all.1 parts.1,
        )

    nameless : OutputColumn
    nameless = record { name = None; kind = kind.Int }

    ordinal_within : (columns : List OutputColumn) (n : ℕ) → Made (Within columns) (ordinal columns n)
    ordinal_within columns n = go (n == 0) (nat_lt (length columns) n) refl refl where
      go : (a b : Bool) → (n == 0) ≡ a → nat_lt (length columns) n ≡ b → Made (Within columns) (if a || b then Err BadOrdinal else Ok (n - 1))
      go true b is past = tt {0}
      go false true is past = tt {0}
      go false false is past = grind (arith, nat_tests)

    sort_within : (columns : List OutputColumn) (c : SortColumn) → Made (Within columns) (sort_place columns c)
    unfolding sort_place
    sort_within columns (sort.Name name) = place_within nameless (is_column_named name.text) columns
    sort_within columns (sort.Place n) = ordinal_within columns n.value

    abbrev IsKeyOf : List OutputColumn → BoundKey → Type 0
    IsKeyOf columns key = key.column < length columns

    key_within : (columns : List OutputColumn) (k : SortKey) → Made (IsKeyOf columns) (sort_key columns k)
    key_within columns k = then_made (Within columns) (IsKeyOf columns) (sort_place columns k.column) (λ p. Ok (record { column = p; is_descending = k.is_descending })) (sort_within columns k.column) (λ p is. is)

    all_keys : (ks : List SortKey) → AllByRecursion (λ (k : SortKey). Unit {0}) ks
    all_keys [] = tt {0}
    all_keys (k ∷ ks) = (tt {0}, all_keys ks)

    keys_within : (columns : List OutputColumn) (ks : List SortKey) → Made (AllByRecursion (IsKeyOf columns)) (sort_keys columns ks)
    unfolding sort_keys
    keys_within columns ks = each_made (IsKeyOf columns) (λ (k : SortKey). Unit {0}) (sort_key columns) (λ k t. key_within columns k) ks [] (all_keys ks) (tt {0})

    keys_are : (columns : List OutputColumn) (keys : List BoundKey) → AllByRecursion (IsKeyOf columns) keys → AreKeysOf (output_types columns) keys
    keys_are columns [] all = tt {0}
    keys_are columns (key ∷ keys) all = (subst (λ (n : ℕ). key.column < n) (sym (length-map columns output_type)) all.0, keys_are columns keys all.1)

    pub query_after_is : ((d : BoundQuery-F BoundQuery) (types : List Kind) → IsLayerOf gives leaves d types → gives (roll-BoundQuery d) types) → (b : BoundBlocks) (order : List SortKey) (limit : Option Limit) → AreBound b → Made IsBound (bind_query b order limit)
    unfolding bind_query are_union_compatible
    query_after_is makes b order limit are = go (list_all (λ (other : BoundBlock). have_same_kinds b.first.columns other.columns) b.others) (others_are b.first.columns b.others are.1) where
      go : (same : Bool) → (same ≡ true → AreBlocksOf gives leaves (blocks_of b.others) (output_types b.first.columns)) → Made IsBound (if same then and_then (sort_keys b.first.columns order) (λ keys. Ok (query_of b keys limit)) else Err ColumnsDiffer)
      go false others = tt {0}
      go true others =
          then_made (AllByRecursion (IsKeyOf b.first.columns)) IsBound (sort_keys b.first.columns order) (λ keys. Ok (query_of b keys limit)) (keys_within b.first.columns order)
          (λ keys keys_right. makes (layer_of b keys limit) (output_types b.first.columns) ((are.0, others refl), keys_are b.first.columns keys keys_right))
