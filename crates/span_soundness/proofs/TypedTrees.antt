-- What the binder makes of a whole tree is well typed, on the tables that it names.
use Rattle.std.proofs.Common.{◌≡◌, ◌∙◌, ap, refl, ℕ, suc, ◌+◌, List, [], ◌∷◌, ◌++◌, length, map, Ok, arith}
use Rattle.std.specs.Prelude.{slice_get}
use Rattle.std.specs.Option.{unwrap_or}
use Rattle.span_value.specs.declared.value.Kind.{Kind}
use Rattle.span_schema.specs.declared.table.Table.{Table}
use Rattle.span_parser.specs.declared.tree.Query.{Query}
use Rattle.span_query.specs.declared.query.BoundQuery.{BoundQuery}
use Rattle.span_query.specs.declared.query.BoundQuery.TheOpen.{BoundQuery-F}
use Rattle.span_query.specs.declared.query.BoundQuery.TheViews.{roll-BoundQuery}
use Rattle.span_params.specs.declared.params.Parameter.{Parameter}
use Rattle.span_blocks.specs.declared.bound.TypedQuery.{TypedQuery}
use Rattle.span_binder.specs.Queries.{query_step}
use Rattle.span_soundness.specs.Bindings.{table_types, AreTyped}
use Rattle.span_soundness.specs.WellTyped.{leaf_types, IsLayerOf}
use Rattle.span_soundness.proofs.Blocks.{IsSource, IsFrom, IsBlock, IsBound, started_is, extended_is, block_is, query_after_is}
use Rattle.span_soundness.proofs.Nesting.{IsFront, bound_is}

module _ (schema : List Table) (all : List ℕ) where
  abbrev types_of_table : ℕ → List Kind
  types_of_table n = table_types schema n

  abbrev pub Leaves : List (List Kind)
  Leaves = map types_of_table all

  leaf_after : (xs : List ℕ) (n : ℕ) (later : List ℕ) → unwrap_or (slice_get (map types_of_table ((xs ++ n ∷ []) ++ later)) (length xs)) [] ≡ types_of_table n
  leaf_after [] n later = refl
  leaf_after (x ∷ xs) n later = leaf_after xs n later

  leaf_there : (found : List ℕ) (n : ℕ) → IsFront schema all (found ++ n ∷ []) → leaf_types Leaves (length found + 1) ≡ types_of_table n
  leaf_there found n front =
      ap (λ (l : List ℕ). leaf_types (map types_of_table l) (length found + 1)) front.1
      ∙ ap (λ (i : ℕ). leaf_types (map types_of_table ((found ++ (n ∷ [])) ++ front.0)) i) {x = length found + 1} {y = suc (length found)} (omega arith)
      ∙ leaf_after found n front.0

  module _ (params : List Parameter) (params_are : AreTyped params) (gives : BoundQuery → List Kind → Type 0) (makes : (d : BoundQuery-F BoundQuery) (types : List Kind) → IsLayerOf gives Leaves d types → gives (roll-BoundQuery d) types) where
    pub tree_typed : (q : Query) (b : TypedQuery) → query_step schema params q [] ≡ Ok (b, all) → IsBound params params_are gives Leaves b
    tree_typed q b is =
        (bound_is schema all params (IsSource params params_are gives Leaves) (IsFrom params params_are gives Leaves) (IsBlock params params_are gives Leaves) (IsBound params params_are gives Leaves)
        (λ name found n front. leaf_there found n front)
        (λ name q q_is. q_is)
        (started_is params params_are gives Leaves)
        (extended_is params params_are gives Leaves)
        (block_is params params_are gives Leaves)
        (λ b order limit first others. query_after_is params params_are gives Leaves makes b order limit (first, others))
        q b is).1
