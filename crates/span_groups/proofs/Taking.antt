-- States that take one more row.
use Rattle.std.proofs.Common.{◌≡◌, ℕ, ℤ, ◌+◌, ◌+ℤ◌, true, false, cond, not, List, [], ◌∷◌, ◌++◌, length, Some, sym, ap, ◌∙◌, subst, arith}
use Rattle.std.specs.Option.{option_map}
use Rattle.std.proofs.lemmas.Int.{ints}
use Rattle.std.proofs.lemmas.List.{append-nil, length-append}
use Rattle.std.proofs.lemmas.List.Elements.{filter-append}
use Rattle.span_value.specs.declared.value.Value.{Value}
use Rattle.span_expr.specs.declared.expr.Expr.{Expr}
use Rattle.span_expr.specs.Meaning.{val}
use Rattle.span_expr.specs.Outcomes.{is_null}
use Rattle.span_query.specs.declared.query.Aggregate.{Aggregate}
use Rattle.span_query.specs.declared.query.Aggregate.TheVariants.{CountRows, Of}
use Rattle.span_query.specs.declared.query.Function.{Function}
use Rattle.span_query.specs.declared.query.Function.TheVariants as function
use Rattle.span_query.specs.Rows.{Row, OrFault, value_of, append_results, concat_map, singleton, each}
use Rattle.span_query.specs.Groups.{int_of, total, without_nulls}
use Rattle.span_query.proofs.Results.{concat_map-append}
use Rattle.span_groups.specs.declared.sum.Sum.{Sum}
use Rattle.span_groups.specs.declared.aggregate.AggregateState.{AggregateState}
use Rattle.span_groups.specs.declared.aggregate.AggregateState.TheVariants as state
use Rattle.span_groups.specs.States.{HasCounted, HasTaken, IsStateOf, TakesOperand, TakesValue}

total-push : (vs : List Value) (v : Value) → total (vs ++ v ∷ []) ≡ total vs +ℤ int_of v
total-push [] v = omega (arith, ints)
total-push (w ∷ vs) v = let rest = total-push vs v in ap (λ (z : ℤ). int_of w +ℤ z) rest ∙ omega (arith, ints)

sum_steps : (s t : Sum) (v : Value) (n : ℤ) → n ≡ int_of v → t.values ≡ s.values + 1 → t.total ≡ s.total +ℤ n
    → (f : Function) (vs : List Value) → HasTaken f vs (state.Sum s) → HasTaken f (vs ++ v ∷ []) (state.Sum t)
sum_steps s t v n is values sums function.Count vs h = absurd h
sum_steps s t v n is values sums function.Sum vs h =
    (omega (arith, length-append vs (v ∷ [])), sums ∙ ap (λ (z : ℤ). z +ℤ n) h.1 ∙ ap (λ (z : ℤ). total vs +ℤ z) is ∙ sym (total-push vs v))
sum_steps s t v n is values sums function.Min vs h = absurd h
sum_steps s t v n is values sums function.Max vs h = absurd h

pub sum_takes : (was : AggregateState) (s t : Sum) (v : Value) (n : ℤ) → was ≡ state.Sum s → n ≡ int_of v → t.values ≡ s.values + 1 → t.total ≡ s.total +ℤ n
    → (f : Function) (vs : List Value) → HasTaken f vs was → HasTaken f (vs ++ v ∷ []) (state.Sum t)
sum_takes was s t v n is same values sums f vs h = sum_steps s t v n same values sums f vs (subst (λ (x : AggregateState). HasTaken f vs x) is h)

-- ---- rows

-- what each gives, and what one more does
pub each-push : {A B : Type 0} (f : A → OrFault B) (xs : List A) (x : A) (ys : List B) (y : B) → each f xs ≡ Some ys → f x ≡ Some y → each f (xs ++ x ∷ []) ≡ Some (ys ++ y ∷ [])
each-push f xs x ys y is gives =
    concat_map-append (λ x. option_map singleton (f x)) xs (x ∷ [])
    ∙ ap (λ o. append_results o (concat_map (λ x. option_map singleton (f x)) (x ∷ []))) is
    ∙ ap (λ o. append_results (Some ys) (append_results (option_map singleton o) (Some []))) gives

-- ---- one value

-- one that is not NULL
pub takes_value : (v : Value) (old new : AggregateState) → is_null v ≡ false → ((f : Function) (vs : List Value) → HasTaken f vs old → HasTaken f (vs ++ v ∷ []) new) → TakesValue v old new
takes_value v old new some step f vs h =
    let one : without_nulls (v ∷ []) ≡ v ∷ [] = ap (λ b. cond (not b) (v ∷ []) []) some in
    subst (λ (ws : List Value). HasTaken f (vs ++ ws) new) (sym one) (step f vs h)

-- NULL
pub passes_null : (v : Value) (state : AggregateState) → is_null v ≡ true → TakesValue v state state
passes_null v state none f vs h =
    let no_value : without_nulls (v ∷ []) ≡ [] = ap (λ b. cond (not b) (v ∷ []) []) none in
    subst (λ (ws : List Value). HasTaken f ws state) (sym (ap (λ (ws : List Value). vs ++ ws) no_value ∙ append-nil vs)) h

-- ---- one row

module _ (a : Aggregate) (row : Row) (old new : AggregateState) where
  pub counts_row : a ≡ CountRows → ((n : ℕ) → HasCounted n old → HasCounted (n + 1) new)
      → (rows : List Row) → IsStateOf a rows old → IsStateOf a (rows ++ row ∷ []) new
  counts_row is step rows h =
      let counted : HasCounted (length rows) old = subst (λ (b : Aggregate). IsStateOf b rows old) is h in
      let more : length rows + 1 ≡ length (rows ++ row ∷ []) = omega (arith, length-append rows (row ∷ [])) in
      subst (λ (b : Aggregate). IsStateOf b (rows ++ row ∷ []) new) (sym is) (subst (λ (n : ℕ). HasCounted n new) more (step (length rows) counted))

  pub takes_operand : (f : Function) (e : Expr) → a ≡ Of f e → TakesOperand row e old new → (rows : List Row) → IsStateOf a rows old → IsStateOf a (rows ++ row ∷ []) new
  takes_operand f e is takes rows h =
      let was : IsStateOf (Of f e) rows old = subst (λ (b : Aggregate). IsStateOf b rows old) is h in
      let v : Value = takes.0 in
      let all : without_nulls (was.0 ++ v ∷ []) ≡ without_nulls was.0 ++ without_nulls (v ∷ []) = filter-append (λ (w : Value). not (is_null w)) was.0 (v ∷ []) in
      let now : IsStateOf (Of f e) (rows ++ row ∷ []) new = (was.0 ++ v ∷ [], each-push (λ (r : Row). value_of (val r e)) rows row was.0 v was.1 takes.1, subst (λ (vs : List Value). HasTaken f vs new) (sym all) (takes.2 f (without_nulls was.0) was.2)) in
      subst (λ (b : Aggregate). IsStateOf b (rows ++ row ∷ []) new) (sym is) now
