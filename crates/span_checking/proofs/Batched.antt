-- Rows of batches: the walks over names and values, full rows of bound batches, and batches one after another.
use Rattle.std.proofs.Common.{◌≡◌, ℕ, zero, suc, ◌<◌, ◌≤◌, ◌==◌, ◌≢◌, true, false, ◌&&◌, List, [], ◌∷◌, ◌++◌, Option, Some, None, is_some, Result, Ok, Err, length, drop, get_or, min, map, refl, sym, ap, ◌∙◌, arith}
use Rattle.std.specs.Prelude.{slice_get}
use Rattle.std.specs.List.{list_all}
use Rattle.std.specs.Option.{option_or}
use Rattle.std.proofs.lemmas.Bool.{and_parts, and_from, and_right, eqb-true}
use Rattle.std.proofs.lemmas.List.{append-nil}
use Rattle.span_value.specs.Results.{first_cause}
use Rattle.span_value.specs.declared.value.Value.{Value}
use Rattle.span_value.specs.declared.refusal.Refusal.{Refusal}
use Rattle.span_value.proofs.Results.{ok_same}
use Rattle.span_schema.specs.declared.table.Table.{Table}
use Rattle.span_schema.specs.declared.table.Column.{Column}
use Rattle.span_schema.specs.Lineages.{MeetsRules}
use Rattle.span_schema.specs.Layouts as layout
use Rattle.span_schema.specs.Numbers.{table_at, columns_in, other_places, other_kinds}
use Rattle.span_mutate.specs.declared.mutation.NamedValue.{NamedValue}
use Rattle.span_mutate.specs.declared.mutation.Mutation.{Mutation}
use Rattle.span_mutate.specs.declared.mutation.CheckedMutation.{CheckedMutation}
use Rattle.span_mutate.specs.declared.batch.Heading.{Heading}
use Rattle.span_mutate.specs.declared.batch.BatchRow.{BatchRow}
use Rattle.span_checking.specs.NamedBatches.{IsBound, is_full}
use Rattle.span_mutate.specs.Batches.{named_cells, row_mutation, with_cell}
use Rattle.span_checking.specs.Checking.{cells_cause, checked, checked_all, checked_at, checked_in, lack_causes, mutation_cause, typed, with_front}
use Rattle.span_mutate.specs.Database.{unless}
use Rattle.span_checking.specs.Columns.{values_named}
use Rattle.span_checking.specs.InOrder.{are_cells_at, are_in_order, are_names_at, is_cell_of, is_name_of, row_cause, value_causes, values_cause}
use Rattle.span_mutate.specs.Typed.{are_named_kinds}
use Rattle.span_checking.proofs.Fronts.{front_more, front_refused}
use Rattle.span_checking.proofs.InOrder.{named_cause, other_places_of, rules_at, values_given}
use Rattle.span_checking.proofs.NamedKinds.{columns_apart, mutation_kinds}

-- ---- the walks

pub names_differ : (columns : List Column) (ps : List ℕ) (names : List (List ℕ)) → length ps ≢ length names → are_names_at columns ps names ≡ false
names_differ columns [] [] h = absurd (h refl)
names_differ columns [] (n ∷ ns) h = refl
names_differ columns (p ∷ ps) [] h = refl
names_differ columns (p ∷ ps) (n ∷ ns) h = and_right (is_name_of (slice_get columns p) n) (are_names_at columns ps ns) (names_differ columns ps ns (λ e. h (ap suc e)))

pub names_step : (columns : List Column) (ps : List ℕ) (names : List (List ℕ)) (i d : ℕ) (n : List ℕ) → i < length ps → i < length names → n ≡ get_or names i n
    → are_names_at columns (drop i ps) (drop i names) ≡ (is_name_of (slice_get columns (get_or ps i d)) n && are_names_at columns (drop (suc i) ps) (drop (suc i) names))
names_step columns [] names i d n h g f = absurd (let less : i < 0 = h in omega arith)
names_step columns (p ∷ ps) [] i d n h g f = absurd (let less : i < 0 = g in omega arith)
names_step columns (p ∷ ps) (m ∷ ms) zero d n h g f = ap (λ (l : List ℕ). is_name_of (slice_get columns p) l && are_names_at columns ps ms) (sym f)
names_step columns (p ∷ ps) (m ∷ ms) (suc i) d n h g f = names_step columns ps ms i d n (omega arith) (omega arith) f

pub row_end : (columns : List Column) (ps : List ℕ) (vs : List (Option Value)) → min (length ps) (length vs) ≤ 0 → row_cause columns ps vs ≡ None
row_end columns [] vs h = refl
row_end columns (p ∷ ps) [] h = refl
row_end columns (p ∷ ps) (v ∷ vs) h = absurd (omega arith)

under_none : (vs : List (Option Value)) → named_cells vs [] ≡ []
under_none [] = refl
under_none (v ∷ vs) = refl

-- a value that has no name is left out
pub left_out : (cells : List NamedValue) (names : List (List ℕ)) (v : Option Value) (vs : List (Option Value)) → names ≡ [] → cells ++ named_cells vs names ≡ cells ++ named_cells (v ∷ vs) names
left_out cells names v vs none =
    ap (λ (l : List (List ℕ)). cells ++ named_cells vs l) none
    ∙ ap (λ (l : List NamedValue). cells ++ l) (under_none vs)
    ∙ ap (λ (l : List (List ℕ)). cells ++ named_cells (v ∷ vs) l) (sym none)

-- ---- full rows

record Full (names : List (List ℕ)) (vs : List (Option Value)) : Type 0 where
  pub many : length names ≡ length vs
  pub there : list_all is_some vs ≡ true

full_parts : (names : List (List ℕ)) (vs : List (Option Value)) → is_full names vs ≡ true → Full names vs
full_parts names vs e =
    let parts = and_parts (length names == length vs) (list_all is_some vs) e in
    record { many = eqb-true (length names) (length vs) parts.0; there = parts.1 }

full_rest : (n : List ℕ) (names : List (List ℕ)) (v : Option Value) (vs : List (Option Value)) → Full (n ∷ names) (v ∷ vs) → Full names vs
full_rest n names v vs h = let many : suc (length names) ≡ suc (length vs) = h.many in record { many = omega arith; there = (and_parts (is_some v) (list_all is_some vs) h.there).1 }

full_first : (n : List ℕ) (names : List (List ℕ)) (v : Option Value) (vs : List (Option Value)) → Full (n ∷ names) (v ∷ vs) → is_some v ≡ true
full_first n names v vs h = (and_parts (is_some v) (list_all is_some vs) h.there).0

no_values : (n : List ℕ) (names : List (List ℕ)) → Full (n ∷ names) [] → ⊥
no_values n names h = let many : suc (length names) ≡ 0 = h.many in omega arith

no_names : (v : Option Value) (vs : List (Option Value)) → Full [] (v ∷ vs) → ⊥
no_names v vs h = let many : 0 ≡ suc (length vs) = h.many in omega arith

same_test : (o : Option Column) (n : List ℕ) (v : Value) → is_cell_of o (record { column = n; value = v }) ≡ is_name_of o n
same_test None n v = refl
same_test (Some c) n v = refl

order_under : (columns : List Column) (ps : List ℕ) (names : List (List ℕ)) (vs : List (Option Value)) → Full names vs → are_names_at columns ps names ≡ true → are_cells_at columns ps (named_cells vs names) ≡ true
order_under columns [] [] [] h e = refl
order_under columns [] [] (v ∷ vs) h e = absurd (no_names v vs h)
order_under columns [] (n ∷ ns) vs h e = absurd (let f : false ≡ true = e in cc)
order_under columns (p ∷ ps) [] vs h e = absurd (let f : false ≡ true = e in cc)
order_under columns (p ∷ ps) (n ∷ ns) [] h e = absurd (no_values n ns h)
order_under columns (p ∷ ps) (n ∷ ns) (v ∷ vs) h e =
    let parts = and_parts (is_name_of (slice_get columns p) n) (are_names_at columns ps ns) e in
    cases v (full_first n ns v vs h) parts.0 (order_under columns ps ns vs (full_rest n ns v vs h) parts.1)
  where
    cases : (o : Option Value) → is_some o ≡ true → is_name_of (slice_get columns p) n ≡ true → are_cells_at columns ps (named_cells vs ns) ≡ true
        → are_cells_at columns (p ∷ ps) (with_cell n o (named_cells vs ns)) ≡ true
    cases None there is more = absurd (let f : false ≡ true = there in cc)
    cases (Some x) there is more = and_from _ _ (same_test (slice_get columns p) n x ∙ is) more

cause_under : (columns : List Column) (ps : List ℕ) (names : List (List ℕ)) (vs : List (Option Value)) → Full names vs → values_cause columns ps (named_cells vs names) ≡ row_cause columns ps vs
cause_under columns [] names vs h = refl
cause_under columns (p ∷ ps) [] [] h = refl
cause_under columns (p ∷ ps) [] (v ∷ vs) h = absurd (no_names v vs h)
cause_under columns (p ∷ ps) (n ∷ ns) [] h = absurd (no_values n ns h)
cause_under columns (p ∷ ps) (n ∷ ns) (v ∷ vs) h = cases v (full_first n ns v vs h) (cause_under columns ps ns vs (full_rest n ns v vs h))
  where
    cases : (o : Option Value) → is_some o ≡ true → values_cause columns ps (named_cells vs ns) ≡ row_cause columns ps vs
        → values_cause columns (p ∷ ps) (with_cell n o (named_cells vs ns)) ≡ row_cause columns (p ∷ ps) (o ∷ vs)
    cases None there more = absurd (let f : false ≡ true = there in cc)
    cases (Some x) there more = ap (λ (o : Option Refusal). option_or (first_cause (value_causes (slice_get columns p) x)) o) more

values_under : (names : List (List ℕ)) (vs : List (Option Value)) → Full names vs → map (λ (x : NamedValue). Some x.value) (named_cells vs names) ≡ vs
values_under names [] h = refl
values_under [] (v ∷ vs) h = absurd (no_names v vs h)
values_under (n ∷ ns) (v ∷ vs) h = cases v (full_first n ns v vs h) (values_under ns vs (full_rest n ns v vs h))
  where
    cases : (o : Option Value) → is_some o ≡ true → map (λ (x : NamedValue). Some x.value) (named_cells vs ns) ≡ vs
        → map (λ (x : NamedValue). Some x.value) (with_cell n o (named_cells vs ns)) ≡ o ∷ vs
    cases None there more = absurd (let f : false ≡ true = there in cc)
    cases (Some x) there more = ap (λ (l : List (Option Value)). Some x ∷ l) more

-- ---- full rows of a bound batch

module _ (tables : List Table) (rules : MeetsRules tables) (n : ℕ) (t : Table) (at : Some t ≡ table_at tables n) (heading : Heading) (row : BatchRow) (bound : IsBound tables heading n) (full : is_full heading.columns row.cells ≡ true) where
  in_order : are_in_order t (named_cells row.cells heading.columns) ≡ true
  in_order =
      let places = ap (λ (ps : List ℕ). are_names_at t.columns ps heading.columns) (sym (other_places_of tables n t at)) in
      let columns = ap (λ (o : Option Table). are_names_at (columns_in o) (other_places tables n) heading.columns) at in
      order_under t.columns (layout.other_places t.key 0 t.columns) heading.columns row.cells (full_parts heading.columns row.cells full) (places ∙ columns ∙ bound.order)

  -- its values alone may be refused
  pub full_cause : row_cause t.columns (layout.other_places t.key 0 t.columns) row.cells
      ≡ option_or (cells_cause t heading.kind [] (named_cells row.cells heading.columns)) (first_cause (lack_causes t (row_mutation heading row)))
  full_cause =
      sym (cause_under t.columns (layout.other_places t.key 0 t.columns) heading.columns row.cells (full_parts heading.columns row.cells full))
      ∙ named_cause t (rules_at tables rules n t at) (row_mutation heading row) bound.put in_order

  full_values : values_named t.key (named_cells row.cells heading.columns) t.columns ≡ row.cells
  full_values =
      values_given t (columns_apart tables rules n t at) (named_cells row.cells heading.columns) in_order
      ∙ values_under heading.columns row.cells (full_parts heading.columns row.cells full)

  -- and are of the kinds of its columns where nothing is refused
  pub full_kinds : mutation_cause tables n t (row_mutation heading row) ≡ None → are_named_kinds (other_kinds tables n) row.cells ≡ true
  full_kinds none = ap (are_named_kinds (other_kinds tables n)) (sym full_values) ∙ mutation_kinds tables rules n t (row_mutation heading row) at none

  judged : checked tables (row_mutation heading row) ≡ unless (mutation_cause tables n t (row_mutation heading row)) (typed n t (row_mutation heading row))
  judged =
      ap (λ (o : Option ℕ). checked_in tables o (row_mutation heading row)) bound.named
      ∙ ap (λ (o : Option Table). checked_at tables n o (row_mutation heading row)) (sym at)

  pub full_checked : mutation_cause tables n t (row_mutation heading row) ≡ None
      → checked tables (row_mutation heading row) ≡ Ok (record { kind = heading.kind; table = n; key = row.key; cells = row.cells })
  full_checked none =
      judged ∙ ap (λ (o : Option Refusal). unless o (typed n t (row_mutation heading row))) none
      ∙ ap (λ (cells : List (Option Value)). Ok (record { kind = heading.kind; table = n; key = row.key; cells = cells })) full_values

  pub full_refused : (why : Refusal) → mutation_cause tables n t (row_mutation heading row) ≡ Some why → checked tables (row_mutation heading row) ≡ Err why
  full_refused why is = judged ∙ ap (λ (o : Option Refusal). unless o (typed n t (row_mutation heading row))) is

-- ---- batches one after another

not_both : (x : List CheckedMutation) (why : Refusal) (r : Result (List CheckedMutation) Refusal) → r ≡ Ok x → r ≡ Err why → ⊥
not_both x why r e f = cc

-- more mutations were checked
pub front_batch : (tables : List Table) (ms rest : List Mutation) (front done : List CheckedMutation) → with_front front (checked_all tables ms) ≡ Ok done
    → with_front done (checked_all tables rest) ≡ with_front front (checked_all tables (ms ++ rest))
front_batch tables [] rest front done e =
    let same = ok_same (with_front front (checked_all tables [])) (front ++ []) done refl e in
    ap (λ (l : List CheckedMutation). with_front l (checked_all tables rest)) (sym same ∙ append-nil front)
front_batch tables (m ∷ ms) rest front done e = cases (checked tables m) refl (λ longer f. front_batch tables ms rest longer done f)
  where
    cases : (r : Result CheckedMutation Refusal) → checked tables m ≡ r
        → ((longer : List CheckedMutation) → with_front longer (checked_all tables ms) ≡ Ok done → with_front done (checked_all tables rest) ≡ with_front longer (checked_all tables (ms ++ rest)))
        → with_front done (checked_all tables rest) ≡ with_front front (checked_all tables (m ∷ (ms ++ rest)))
    cases (Ok c) is again = again (front ++ c ∷ []) (front_more tables front m ms c is ∙ e) ∙ front_more tables front m (ms ++ rest) c is
    cases (Err why) is again = absurd (not_both done why (with_front front (checked_all tables (m ∷ ms))) e (front_refused tables front m ms why is))

-- one of them was refused
pub front_batch_refused : (tables : List Table) (ms rest : List Mutation) (front : List CheckedMutation) (why : Refusal) → with_front front (checked_all tables ms) ≡ Err why
    → with_front front (checked_all tables (ms ++ rest)) ≡ Err why
front_batch_refused tables [] rest front why e = absurd (not_both (front ++ []) why (with_front front (checked_all tables [])) refl e)
front_batch_refused tables (m ∷ ms) rest front why e = cases (checked tables m) refl (λ longer f. front_batch_refused tables ms rest longer why f)
  where
    cases : (r : Result CheckedMutation Refusal) → checked tables m ≡ r
        → ((longer : List CheckedMutation) → with_front longer (checked_all tables ms) ≡ Err why → with_front longer (checked_all tables (ms ++ rest)) ≡ Err why)
        → with_front front (checked_all tables (m ∷ (ms ++ rest))) ≡ Err why
    cases (Ok c) is again = sym (front_more tables front m (ms ++ rest) c is) ∙ again (front ++ c ∷ []) (front_more tables front m ms c is ∙ e)
    cases (Err other) is again = front_refused tables front m (ms ++ rest) other is ∙ sym (front_refused tables front m ms other is) ∙ e
