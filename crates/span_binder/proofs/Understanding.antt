-- The statement read and bound from a query text is the one that it is understood as.
use Rattle.std.proofs.Common.{rules, ◌≡◌, ◌≢◌, ◌⊎◌, inl, inr, ℕ, Bool, true, false, List, Result, Ok, Err, IfOk, IfErr, refl, sym, ap, subst, ◌∙◌}
use Rattle.std.proofs.lemmas.Bool.{false≢true}
use denote.Enum.Bare.{sameb, same_true}
use Rattle.span_value.specs.declared.refusal.Refusal.{Refusal}
use Rattle.span_value.specs.declared.refusal.Refusal.TheVariants.{OutOfMemory}
use Rattle.span_value.specs.contracts.refusal.Refusal.{the_type as refusal_type}
use Rattle.std.specs.List.{AllByRecursion}
use Rattle.std.proofs.lemmas.List.Elements.{recursion_from_All}
use Rattle.span_schema.specs.declared.table.Table.{Table}
use Rattle.span_schema.specs.Numbers.{IsTable}
use Rattle.span_blocks.specs.Sources.{AreTables}
use Rattle.span_grammar.specs.declared.judge.Goal.TheVariants as goal
use Rattle.span_grammar.specs.Judged.{IsRefused}
use Rattle.span_parser.specs.declared.tree.Query.{Query}
use Rattle.span_parser.specs.Queries.{IsQuery}
use Rattle.span_params.specs.declared.params.Parameter.{Parameter}
use Rattle.span_query.specs.declared.query.Statement.{Statement}
use Rattle.span_operators.specs.Steps.{Gives}
use Rattle.span_binder.specs.Queries.{bound}
use Rattle.span_binder.specs.Understands.{Understands, IsBound, IsNotInGrammar}

by_test : (b : Bool) (why : Refusal) → sameb refusal_type why OutOfMemory ≡ b → (why ≡ OutOfMemory) ⊎ (why ≢ OutOfMemory)
by_test true why e = inl (same_true refusal_type (search rules) why OutOfMemory e)
by_test false why e = inr (λ same. false≢true (sym e ∙ ap (λ (w : Refusal). sameb refusal_type w OutOfMemory) same))

-- memory ran out or not
pub memory_or_not : (why : Refusal) → (why ≡ OutOfMemory) ⊎ (why ≢ OutOfMemory)
memory_or_not why = by_test (sameb refusal_type why OutOfMemory) why refl

-- what was bound
abbrev pub IsAnswer : List Table → List ℕ → List Parameter → Result Statement Refusal → Type 0
IsAnswer schema text params (Ok q) = Understands schema text params (Ok q)
IsAnswer schema text params (Err why) = (why ≡ OutOfMemory) ⊎ Understands schema text params (Err why)

refused_or_not : (schema : List Table) (text : List ℕ) (params : List Parameter) (why : Refusal) → (why ≢ OutOfMemory → Understands schema text params (Err why)) → (why ≡ OutOfMemory) ⊎ (why ≢ OutOfMemory) → (why ≡ OutOfMemory) ⊎ Understands schema text params (Err why)
refused_or_not schema text params why understood (inl memory) = inl memory
refused_or_not schema text params why understood (inr other) = inr (understood other)

pub bound_answers : (schema : List Table) (text : List ℕ) (params : List Parameter) (tree : Query) (r : Result Statement Refusal) → IsQuery text tree → Gives r (bound schema params tree) → IsAnswer schema text params r
unfolding IsBound IsNotInGrammar
bound_answers schema text params tree (Ok q) is e = inl (tree, is, e)
bound_answers schema text params tree (Err why) is e = refused_or_not schema text params why (λ n. inl (tree, is, e n)) (memory_or_not why)

-- the query text has no tree
pub no_text_answers : (schema : List Table) (text : List ℕ) (params : List Parameter) (why : Refusal) → IsRefused goal.Statement text why → (why ≡ OutOfMemory) ⊎ Understands schema text params (Err why)
unfolding IsBound IsNotInGrammar
no_text_answers schema text params why refused = refused_or_not schema text params why (λ n. inr (why, n, refused, refl)) (memory_or_not why)

abbrev pub IsOnly : List Table → List ℕ → List Parameter → Result Statement Refusal → Type 0
IsOnly schema text params r = (u : Result Statement Refusal) → Understands schema text params u → (r ≡ u) ⊎ (r ≡ Err OutOfMemory)

refusal_or_memory : (o : Result Statement Refusal) (why : Refusal) → (why ≢ OutOfMemory → o ≡ Err why) → (why ≡ OutOfMemory) ⊎ (why ≢ OutOfMemory) → ((let r : Result Statement Refusal = Err why in r) ≡ o) ⊎ ((let r : Result Statement Refusal = Err why in r) ≡ Err OutOfMemory)
refusal_or_memory o why e (inl memory) = inr (ap (λ w. Err w) memory)
refusal_or_memory o why e (inr other) = inl (sym (e other))

is_or_memory : (o : Result Statement Refusal) (r : Result Statement Refusal) → Gives r o → (r ≡ o) ⊎ (r ≡ Err OutOfMemory)
is_or_memory o (Ok q) e = inl (sym e)
is_or_memory o (Err why) e = refusal_or_memory o why e (memory_or_not why)

-- what was read is what was bound, and nothing else is
pub bound_only : (schema : List Table) (text : List ℕ) (params : List Parameter) (tree : Query) (r : Result Statement Refusal) → ((query : Query) → IsQuery text query → tree ≡ query) → ((why : Refusal) → why ≢ OutOfMemory → IsRefused goal.Statement text why → ⊥) → Gives r (bound schema params tree) → IsOnly schema text params r
unfolding IsBound IsNotInGrammar
bound_only schema text params tree r read never e u (inl is) =
    subst (λ (o : Result Statement Refusal). (r ≡ o) ⊎ (r ≡ Err OutOfMemory)) (ap (bound schema params) (read is.0 is.1) ∙ is.2) (is_or_memory (bound schema params tree) r e)
bound_only schema text params tree r read never e u (inr none) = absurd (never none.0 none.1 none.2)

refusal_only : (w v : Refusal) (u : Result Statement Refusal) → u ≡ Err v → (w ≡ v) ⊎ (w ≡ OutOfMemory) → ((let o : Result Statement Refusal = Err w in o) ≡ u) ⊎ ((let o : Result Statement Refusal = Err w in o) ≡ Err OutOfMemory)
refusal_only w v u e (inl same) = inl (ap (λ x. Err x) same ∙ sym e)
refusal_only w v u e (inr memory) = inr (ap (λ x. Err x) memory)

pub refused_only : (schema : List Table) (text : List ℕ) (params : List Parameter) (w : Refusal) → ((query : Query) → IsQuery text query → w ≡ OutOfMemory) → ((why : Refusal) → why ≢ OutOfMemory → IsRefused goal.Statement text why → (w ≡ why) ⊎ (w ≡ OutOfMemory)) → IsOnly schema text params (Err w)
unfolding IsBound IsNotInGrammar
refused_only schema text params w read refuses u (inl is) = inr (ap (λ x. Err x) (read is.0 is.1))
refused_only schema text params w read refuses u (inr none) = refusal_only w none.0 u none.3 (refuses none.0 none.1 none.2)

-- ---- the clauses of an answer

pub ok_part : (schema : List Table) (text : List ℕ) (params : List Parameter) (r : Result Statement Refusal) → IsAnswer schema text params r → IfOk r (λ (q : Statement). Understands schema text params (Ok q))
ok_part schema text params (Ok q) h = h
ok_part schema text params (Err why) h = tt

pub err_part : (schema : List Table) (text : List ℕ) (params : List Parameter) (r : Result Statement Refusal) → IsAnswer schema text params r → IfErr r (λ (why : Refusal). (why ≡ OutOfMemory) ⊎ Understands schema text params (Err why))
err_part schema text params (Ok q) h = tt
err_part schema text params (Err why) h = h

pub leaves_part : (schema : List Table) (r : Result Statement Refusal) → IfOk r (λ (q : Statement). AreTables schema q.leaves) → IfOk r (λ (q : Statement). AllByRecursion (IsTable schema) q.leaves)
leaves_part schema (Ok q) h = recursion_from_All (IsTable schema) q.leaves h
leaves_part schema (Err why) h = tt
