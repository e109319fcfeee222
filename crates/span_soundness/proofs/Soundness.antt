-- The laws of queries, put together.
use Rattle.std.proofs.Common.{◌≡◌, inl, inr, ℕ, true, List, [], Result, Ok, Err, refl, sym, subst}
use Rattle.std.specs.List.{AllByRecursion}
use Rattle.span_value.specs.declared.refusal.Refusal.{Refusal}
use Rattle.span_schema.specs.declared.table.Table.{Table}
use Rattle.span_schema.specs.Numbers.{IsTable}
use Rattle.span_parser.specs.declared.tree.Query.{Query}
use Rattle.span_params.specs.declared.params.Parameter.{Parameter}
use Rattle.span_query.specs.declared.query.Statement.{Statement}
use Rattle.span_planner.specs.Sizes.{is_sized}
use Rattle.span_planner.specs.Plannable.{IsPlannable}
use Rattle.span_value.specs.Results.{and_then}
use Rattle.span_typing.proofs.Stepping.{not_ok}
use Rattle.span_blocks.specs.declared.bound.TypedQuery.{TypedQuery}
use Rattle.span_binder.specs.Queries.{query_step, statement_of, bound}
use Rattle.span_binder.specs.Understands.{IsBound, IsNotInGrammar}
use Rattle.span_binder.proofs.Adding.{ok_is}
use Rattle.span_soundness.specs.Bindings.{output_types}
use Rattle.span_soundness.specs.WellTyped.{IsQueryOf}
use Rattle.span_soundness.specs.Laws.{LayersAreTyped, types_of_leaves, QueriesAreTyped, StatementsAreTyped, QueriesKeepTypes, ResultsAreTyped, StatementsCanBePlanned}
use Rattle.span_soundness.proofs.TypedTrees.{tree_typed}
use Rattle.span_soundness.proofs.SizedTrees.{tree_sized}
use Rattle.span_soundness.proofs.Layering.{layer_made, layer_read, keeps_types}

pub layers_are_typed : LayersAreTyped
layers_are_typed leaves layer types = (layer_read leaves layer types, layer_made leaves layer types)

pub queries_are_typed : QueriesAreTyped
queries_are_typed schema params q bound leaves are is = tree_typed schema leaves params are (IsQueryOf (types_of_leaves schema leaves)) (layer_made (types_of_leaves schema leaves)) q bound is

pub statements_are_typed : StatementsAreTyped
statements_are_typed schema params q statement are is = go (query_step schema params q []) (λ answer leaves made. queries_are_typed schema params q answer leaves are made) is where
  go : (o : Result (TypedQuery × List ℕ) Refusal) → ((answer : TypedQuery) (leaves : List ℕ) → o ≡ Ok (answer, leaves) → IsQueryOf (types_of_leaves schema leaves) answer.query (output_types answer.columns)) → and_then o (λ p. Ok (statement_of p)) ≡ Ok statement
      → IsQueryOf (types_of_leaves schema statement.leaves) statement.query (output_types statement.columns)
  go (Ok p) of_kind made =
      let same : statement_of p ≡ statement = ok_is (statement_of p) statement made in
      subst (λ (s : Statement). IsQueryOf (types_of_leaves schema s.leaves) s.query (output_types s.columns)) same (of_kind p.0 p.1 refl)
  go (Err why) of_kind made = absurd (not_ok why statement made)

pub queries_keep_types : QueriesKeepTypes
queries_keep_types leaves tables q types are is = keeps_types leaves tables are q types is

pub results_are_typed : ResultsAreTyped
results_are_typed schema params q bound leaves tables params_are is are = queries_keep_types (types_of_leaves schema leaves) tables bound.query (output_types bound.columns) are (queries_are_typed schema params q bound leaves params_are is)

-- ---- plans

bound_plannable : (schema : List Table) (params : List Parameter) (q : Query) (statement : Statement) → bound schema params q ≡ Ok statement → IsPlannable schema statement
bound_plannable schema params q statement is = go (query_step schema params q []) (λ answer leaves made. tree_sized schema leaves params q answer made) is where
  go : (o : Result (TypedQuery × List ℕ) Refusal) → ((answer : TypedQuery) (leaves : List ℕ) → o ≡ Ok (answer, leaves) → AllByRecursion (IsTable schema) leaves × (is_sized schema leaves answer.query ≡ true)) → and_then o (λ p. Ok (statement_of p)) ≡ Ok statement
      → IsPlannable schema statement
  go (Ok p) sized made =
      let known : AllByRecursion (IsTable schema) p.1 × (is_sized schema p.1 p.0.query ≡ true) = sized p.0 p.1 refl in
      subst (IsPlannable schema) (ok_is (statement_of p) statement made) (record { tables = known.0; sized = known.1 })
  go (Err why) sized made = absurd (not_ok why statement made)

pub statements_can_be_planned : StatementsCanBePlanned
unfolding IsBound IsNotInGrammar
statements_can_be_planned schema text params statement (inl made) = bound_plannable schema params made.0 statement made.2
statements_can_be_planned schema text params statement (inr refused) = absurd (not_ok refused.0 statement (sym refused.3))
