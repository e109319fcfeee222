-- What an operator or a call makes of typed operands is typed.
use Rattle.std.proofs.Common.{◌≡◌, ◌∙◌, sym, refl, subst, ℕ, true, false, Bool, ◌&&◌, if◌then◌else◌, List, [], ◌∷◌, ◌++◌, map, Option, Some, None, Ok, Err}
use Rattle.std.specs.Prelude.{chars}
use Rattle.std.specs.List.{AllByRecursion, list_all}
use Rattle.span_value.specs.declared.value.Kind.{Kind}
use Rattle.span_value.specs.declared.value.Kind.TheVariants as kind
use Rattle.span_value.specs.declared.value.Value.TheVariants as value
use Rattle.span_value.specs.declared.refusal.Refusal.TheVariants.{TypeMismatch}
use Rattle.span_trees.specs.declared.tree.Integer.{Integer}
use Rattle.span_trees.specs.declared.tree.ComparisonOperator.{ComparisonOperator}
use Rattle.span_trees.specs.declared.tree.Operator.{Operator as TreeOperator}
use Rattle.span_trees.specs.declared.tree.Operator.TheVariants.{Plus, Minus, Times, Concat}
use Rattle.span_expr.specs.declared.expr.Expr.{Expr}
use Rattle.span_expr.specs.declared.expr.Expr.TheVariants as expr
use Rattle.span_expr.specs.declared.expr.Link.{Link}
use Rattle.span_pattern.specs.declared.pattern.PatternPart.{PatternPart}
use Rattle.span_expr.specs.declared.expr.Operator.{Operator}
use Rattle.span_expr.specs.declared.expr.Operator.TheVariants.{Divide, Modulo}
use Rattle.span_pattern.specs.Patterns.{parts_of}
use Rattle.span_query.specs.declared.query.Function.{Function}
use Rattle.span_query.specs.declared.query.Function.TheVariants as function
use Rattle.span_lexer.specs.LiteralValues.{text_of}
use Rattle.span_operators.specs.declared.typed.Typed.{Typed}
use Rattle.span_operators.specs.declared.typed.TypedArm.{TypedArm}
use Rattle.span_operators.specs.declared.typed.TypedLinks.{TypedLinks}
use Rattle.span_operators.specs.declared.function.CalledFunction.{CalledFunction}
use Rattle.span_operators.specs.declared.function.CalledFunction.TheVariants as called
use Rattle.span_operators.specs.Kinds.{takes, common_kind, common_kind_of_all, or_int, text_kind}
use Rattle.span_value.specs.Results.{and_then}
use Rattle.span_operators.specs.Operators.{of_kind, kinds_of, exprs_of, number_of, integer, unary_minus, logical_not, null_test, comparison_of, comparison_test, between, in_list, like_test_of, like_test, operator_of, link_kind, append_link, chain_of, arm_of, otherwise_kind, otherwise_of, value_kind, case_kind, case_of, match_of, calculation_of, length_of, starts_with, coalesce_of, one_of, two_of, three_of, some_of, if_of, apply_function, operand_for, operand_of, aggregate_kind}
use Rattle.span_operators.specs.Operators.{has_condition as is_condition}
use Rattle.span_typing.specs.Typing.{all_true, some_true}
use Rattle.span_soundness.specs.Types.{is_text, is_operand, has_type, all_are, are_conditions, is_link_of, has_condition, has_value, is_compared_with, is_else_of, is_of}
use Rattle.span_soundness.specs.Bindings.{is_function_of, IsTyped}
use Rattle.span_soundness.proofs.Sameness.{same_kind, of_this}
use Rattle.std.proofs.lemmas.Bool.{and_from, and_parts}
use Rattle.span_soundness.proofs.Agreeing.{Made, then_made, made_so, made_if, CoversBoth, agreed_covers, AllCovered, all_covered, Takes, all_take, takes_own, IsText, text_is}
use Rattle.span_soundness.proofs.Forms.{link_type, arm_type, else_type, literal_is, negative_is, chain_is, comparison_is, between_is, in_is, like_is, starts_with_is, length_is, null_test_is, not_is, and_is, or_is, case_is, match_is, coalesce_is}

module _ (types : List Kind) where
  -- ---- expressions of a type

  pub typed_right : (e : Expr) (k : Kind) → is_of types e k ≡ true → IsTyped types (of_kind e k)
  typed_right e k is = λ wanted t. subst (λ (z : Kind). is_of types e z ≡ true) (same_kind k wanted t) is

  pub own_right : (x : Typed) → IsTyped types x → is_of types x.expr (or_int x.kind) ≡ true
  own_right x is = is (or_int x.kind) (takes_own x.kind)

  pub has_right : (x : Typed) → IsTyped types x → has_type (is_of types x.expr) ≡ true
  has_right x is = of_this (is_of types x.expr) (or_int x.kind) (own_right x is)

  all_right : (wanted : Kind) (xs : List Typed) → AllByRecursion (Takes wanted) (kinds_of xs) → AllByRecursion (IsTyped types) xs → all_are (map (is_of types) (exprs_of xs)) wanted ≡ true
  all_right wanted [] take all = refl
  all_right wanted (x ∷ xs) take all = and_from (is_of types x.expr wanted) (all_are (map (is_of types) (exprs_of xs)) wanted) (all.0 wanted take.0) (all_right wanted xs take.1 all.1)

  -- ---- operators

  pub integer_right : (n : Integer) → IsTyped types (integer n)
  unfolding integer
  integer_right n = typed_right (expr.Literal (value.Int (number_of n))) kind.Int (literal_is types (value.Int (number_of n)) kind.Int)

  pub negative_right : (x : Typed) → IsTyped types x → Made (IsTyped types) (unary_minus x)
  unfolding unary_minus
  negative_right x x_is = made_if (IsTyped types) (takes kind.Int x.kind) (of_kind (expr.Negative x.expr) kind.Int) TypeMismatch
      (λ t. typed_right (expr.Negative x.expr) kind.Int (negative_is types x.expr kind.Int ∙ x_is kind.Int t))

  pub denied_right : (x : Typed) → IsTyped types x → Made (IsTyped types) (logical_not x)
  unfolding logical_not
  denied_right x x_is = made_if (IsTyped types) (takes kind.Bool x.kind) (of_kind (expr.Not x.expr) kind.Bool) TypeMismatch
      (λ t. typed_right (expr.Not x.expr) kind.Bool (not_is types x.expr kind.Bool ∙ x_is kind.Bool t))

  pub null_test_right : (x : Typed) → IsTyped types x → IsTyped types (null_test x)
  unfolding null_test
  null_test_right x x_is = typed_right (expr.IsNull x.expr) kind.Bool (null_test_is types x.expr kind.Bool ∙ has_right x x_is)

  pub compared_right : (c : ComparisonOperator) (x y : Typed) → IsTyped types x → IsTyped types y → Made (IsTyped types) (comparison_test c x y)
  unfolding comparison_test
  compared_right c x y x_is y_is = then_made (CoversBoth x.kind y.kind) (IsTyped types) (common_kind x.kind y.kind) (λ k. Ok (of_kind (expr.Compare x.expr (comparison_of c) y.expr) kind.Bool)) (agreed_covers x.kind y.kind)
      (λ k both. typed_right (expr.Compare x.expr (comparison_of c) y.expr) kind.Bool (comparison_is types x.expr (comparison_of c) y.expr kind.Bool
      ∙ of_this (λ j. is_of types x.expr j && is_of types y.expr j) (or_int k) (and_from (is_of types x.expr (or_int k)) (is_of types y.expr (or_int k)) (x_is (or_int k) (both.0 (or_int k) (takes_own k))) (y_is (or_int k) (both.1 (or_int k) (takes_own k))))))

  pub between_right : (x low high : Typed) → IsTyped types x → IsTyped types low → IsTyped types high → Made (IsTyped types) (between x low high)
  unfolding between
  between_right x low high x_is low_is high_is = then_made (λ k. AllCovered k (x.kind ∷ low.kind ∷ high.kind ∷ [])) (IsTyped types) (common_kind_of_all (x.kind ∷ low.kind ∷ high.kind ∷ [])) (λ k. Ok (of_kind (expr.Between x.expr low.expr high.expr) kind.Bool)) (all_covered (x.kind ∷ low.kind ∷ high.kind ∷ []))
      (λ k all. typed_right (expr.Between x.expr low.expr high.expr) kind.Bool (between_is types x.expr low.expr high.expr kind.Bool
      ∙ of_this (λ j. is_of types x.expr j && is_of types low.expr j && is_of types high.expr j) (or_int k)
      (and_from (is_of types x.expr (or_int k) && is_of types low.expr (or_int k)) (is_of types high.expr (or_int k))
      (and_from (is_of types x.expr (or_int k)) (is_of types low.expr (or_int k)) (x_is (or_int k) (all.0 (or_int k) (takes_own k))) (low_is (or_int k) (all.1.0 (or_int k) (takes_own k))))
      (high_is (or_int k) (all.1.1.0 (or_int k) (takes_own k))))))

  pub among_right : (x : Typed) (ys : List Typed) → IsTyped types x → AllByRecursion (IsTyped types) ys → Made (IsTyped types) (in_list x ys)
  unfolding in_list
  among_right x ys x_is ys_are = then_made (λ k. AllCovered k (x.kind ∷ kinds_of ys)) (IsTyped types) (common_kind_of_all (x.kind ∷ kinds_of ys)) (λ k. Ok (of_kind (expr.In x.expr (exprs_of ys)) kind.Bool)) (all_covered (x.kind ∷ kinds_of ys))
      (λ k all. typed_right (expr.In x.expr (exprs_of ys)) kind.Bool (in_is types x.expr (exprs_of ys) kind.Bool
      ∙ of_this (λ j. is_of types x.expr j && all_are (map (is_of types) (exprs_of ys)) j) (or_int k)
      (and_from (is_of types x.expr (or_int k)) (all_are (map (is_of types) (exprs_of ys)) (or_int k)) (x_is (or_int k) (all.0 (or_int k) (takes_own k))) (all_right (or_int k) ys (all_take (or_int k) k (kinds_of ys) (takes_own k) all.1) ys_are))))

  liked_parts : (x : Typed) (parts : Option (List PatternPart)) → is_of types x.expr kind.Str ≡ true → Made (IsTyped types) (like_test_of x.expr parts)
  liked_parts x None is = tt {0}
  liked_parts x (Some parts) is = typed_right (expr.Like x.expr parts) kind.Bool (like_is types x.expr parts kind.Bool ∙ is)

  pub liked_right : (spelled : List ℕ) (x : Typed) → IsTyped types x → Made (IsTyped types) (like_test spelled x)
  unfolding like_test
  liked_right spelled x x_is = go (takes kind.Str x.kind) (x_is kind.Str) where
    go : (b : Bool) → (b ≡ true → is_of types x.expr kind.Str ≡ true) → Made (IsTyped types) (if b then like_test_of x.expr (parts_of (chars (text_of spelled))) else Err TypeMismatch)
    go true is = liked_parts x (parts_of (chars (text_of spelled))) (is refl)
    go false is = tt {0}

  -- ---- chains

  abbrev Linked : TreeOperator → Option Kind → Option Kind → Kind → Type 0
  Linked op j k t = (is_operand (operator_of op) t ≡ true) × Takes t j × Takes t k

  number_linked : (op : TreeOperator) (j k : Option Kind) → is_operand (operator_of op) kind.Int ≡ true → Made (Linked op j k) (if takes kind.Int j && takes kind.Int k then Ok kind.Int else Err TypeMismatch)
  number_linked op j k is = made_if (Linked op j k) (takes kind.Int j && takes kind.Int k) kind.Int TypeMismatch (λ t. let parts : (takes kind.Int j ≡ true) × (takes kind.Int k ≡ true) = and_parts (takes kind.Int j) (takes kind.Int k) t in (is, parts.0, parts.1))

  linked_kind_right : (op : TreeOperator) (j k : Option Kind) → Made (Linked op j k) (link_kind op j k)
  unfolding link_kind operator_of
  linked_kind_right Plus j k = number_linked Plus j k refl
  linked_kind_right Minus j k = number_linked Minus j k refl
  linked_kind_right Times j k = number_linked Times j k refl
  linked_kind_right Concat j k = then_made (CoversBoth j k) (Linked Concat j k) (common_kind j k) text_kind (agreed_covers j k)
      (λ i both. made_so (IsText i) (Linked Concat j k) (text_kind i) (text_is i) (λ t text. (text.0, both.0 t text.1, both.1 t text.1)))

  one_more : (k : Kind) (links : List (Link Expr)) (link : Link Expr) → list_all (is_link_of k) (map (link_type types) links) ≡ true → is_link_of k (link_type types link) ≡ true → list_all (is_link_of k) (map (link_type types) (links ++ link ∷ [])) ≡ true
  one_more k [] link all is = and_from (is_link_of k (link_type types link)) true is refl
  one_more k (l ∷ links) link all is =
      let parts : (is_link_of k (link_type types l) ≡ true) × (list_all (is_link_of k) (map (link_type types) links) ≡ true) = and_parts (is_link_of k (link_type types l)) (list_all (is_link_of k) (map (link_type types) links)) all in
      and_from (is_link_of k (link_type types l)) (list_all (is_link_of k) (map (link_type types) (links ++ link ∷ []))) parts.0 (one_more k links link parts.1 is)

  -- a chain so far, after its first operand
  abbrev pub IsChain : Typed → TypedLinks → Type 0
  IsChain x c = (wanted : Kind) → takes wanted c.kind ≡ true → is_of types (expr.Chain x.expr c.links) wanted ≡ true

  abbrev chain_on : TypedLinks → TreeOperator → Typed → Kind → TypedLinks
  chain_on c op y k = record { kind = Some k; links = c.links ++ (record { operator = operator_of op; operand = y.expr } ∷ []) }

  chain_longer : (x : Typed) (c : TypedLinks) (op : TreeOperator) (y : Typed) (k : Kind) → IsChain x c → IsTyped types y → Linked op c.kind y.kind k → is_of types (expr.Chain x.expr (c.links ++ (record { operator = operator_of op; operand = y.expr } ∷ []))) k ≡ true
  chain_longer x c op y k c_is y_is linked_is =
      let link : Link Expr = record { operator = operator_of op; operand = y.expr } in
      let parts : (is_of types x.expr k ≡ true) × (list_all (is_link_of k) (map (link_type types) c.links) ≡ true) = and_parts (is_of types x.expr k) (list_all (is_link_of k) (map (link_type types) c.links)) (sym (chain_is types x.expr c.links k) ∙ c_is k linked_is.1) in
      chain_is types x.expr (c.links ++ (link ∷ [])) k
      ∙ and_from (is_of types x.expr k) (list_all (is_link_of k) (map (link_type types) (c.links ++ (link ∷ [])))) parts.0
      (one_more k c.links link parts.1 (and_from (is_operand (operator_of op) k) (is_of types y.expr k) linked_is.0 (y_is k linked_is.2)))

  pub linked_right : (x : Typed) (c : TypedLinks) (op : TreeOperator) (y : Typed) → IsChain x c → IsTyped types y → Made (IsChain x) (append_link c op y)
  unfolding append_link
  linked_right x c op y c_is y_is = then_made (Linked op c.kind y.kind) (IsChain x) (link_kind op c.kind y.kind) (λ k. Ok (chain_on c op y k)) (linked_kind_right op c.kind y.kind)
      (λ k linked_is. λ wanted t. subst (λ (z : Kind). is_of types (expr.Chain x.expr (c.links ++ (record { operator = operator_of op; operand = y.expr } ∷ []))) z ≡ true) (same_kind k wanted t) (chain_longer x c op y k c_is y_is linked_is))

  pub first_of_chain : (x : Typed) → IsTyped types x → IsChain x (record { kind = x.kind; links = [] })
  first_of_chain x x_is = λ wanted t. chain_is types x.expr [] wanted ∙ and_from (is_of types x.expr wanted) true (x_is wanted t) refl

  pub chained_right : (x : Typed) (c : TypedLinks) → IsChain x c → IsTyped types (chain_of x c)
  unfolding chain_of
  chained_right x c c_is = c_is

  -- ---- AND and OR

  -- one of the other operands, where the first is of this type
  abbrev pub IsCondition : Option Kind → Expr → Type 0
  IsCondition k e = (takes kind.Bool k ≡ true) × (is_of types e kind.Bool ≡ true)

  all_bool : (k : Option Kind) (es : List Expr) → AllByRecursion (IsCondition k) es → all_are (map (is_of types) es) kind.Bool ≡ true
  all_bool k [] all = refl
  all_bool k (e ∷ es) all = and_from (is_of types e kind.Bool) (all_are (map (is_of types) es) kind.Bool) all.0.1 (all_bool k es all.1)

  conditions_right : (x : Typed) (es : List Expr) → IsTyped types x → AllByRecursion (IsCondition x.kind) es → are_conditions (is_of types x.expr) (map (is_of types) es) ≡ true
  conditions_right x [] x_is all = has_right x x_is
  conditions_right x (e ∷ es) x_is all = and_from (is_of types x.expr kind.Bool) (all_are (map (is_of types) (e ∷ es)) kind.Bool) (x_is kind.Bool all.0.0) (all_bool x.kind (e ∷ es) all)

  pub all_true_right : (x : Typed) (es : List Expr) → IsTyped types x → AllByRecursion (IsCondition x.kind) es → IsTyped types (all_true x es)
  unfolding all_true
  all_true_right x es x_is all = typed_right (expr.And x.expr es) kind.Bool (and_is types x.expr es kind.Bool ∙ conditions_right x es x_is all)

  pub some_true_right : (x : Typed) (es : List Expr) → IsTyped types x → AllByRecursion (IsCondition x.kind) es → IsTyped types (some_true x es)
  unfolding some_true
  some_true_right x es x_is all = typed_right (expr.Or x.expr es) kind.Bool (or_is types x.expr es kind.Bool ∙ conditions_right x es x_is all)

  -- ---- choices

  abbrev pub IsTypedArm : TypedArm → Type 0
  IsTypedArm a = IsTyped types a.condition × IsTyped types a.value

  -- a type that the arm's condition has with the operand of the CASE
  abbrev pub IsComparedArm : Option Kind → TypedArm → Type 0
  IsComparedArm k a = IsTyped types a.condition × IsTyped types a.value × ((j : Kind) × Takes j k × Takes j a.condition.kind)

  abbrev pub IsTypedElse : Option Typed → Type 0
  IsTypedElse None = Unit {0}
  IsTypedElse (Some x) = IsTyped types x

  abbrev value_kind_of : TypedArm → Option Kind
  value_kind_of a = a.value.kind

  abbrev TakesValues : List TypedArm → Option Typed → Kind → Type 0
  TakesValues arms other k = Takes k (otherwise_kind other) × AllByRecursion (Takes k) (map value_kind_of arms)

  value_kind_right : (arms : List TypedArm) (other : Option Typed) → Made (TakesValues arms other) (value_kind arms other)
  value_kind_right arms other = then_made (λ k. AllCovered k (otherwise_kind other ∷ map value_kind_of arms)) (TakesValues arms other) (common_kind_of_all (otherwise_kind other ∷ map value_kind_of arms)) (λ k. Ok (or_int k)) (all_covered (otherwise_kind other ∷ map value_kind_of arms))
      (λ k all. (all.0 (or_int k) (takes_own k), all_take (or_int k) k (map value_kind_of arms) (takes_own k) all.1))

  else_right : (other : Option Typed) (k : Kind) → IsTypedElse other → Takes k (otherwise_kind other) → is_else_of k (else_type types (otherwise_of other)) ≡ true
  else_right None k is take = refl
  else_right (Some x) k is take = is k take

  values_right : (arms : List TypedArm) (k : Kind) → AllByRecursion (λ (a : TypedArm). IsTyped types a.value) arms → AllByRecursion (Takes k) (map value_kind_of arms) → list_all (has_value k) (map (arm_type types) (map arm_of arms)) ≡ true
  values_right [] k all take = refl
  values_right (a ∷ arms) k all take = and_from (is_of types a.value.expr k) (list_all (has_value k) (map (arm_type types) (map arm_of arms))) (all.0 k take.0) (values_right arms k all.1 take.1)

  bools_right : (arms : List TypedArm) → AllByRecursion IsTypedArm arms → list_all is_condition arms ≡ true → list_all has_condition (map (arm_type types) (map arm_of arms)) ≡ true
  bools_right [] all are = refl
  bools_right (a ∷ arms) all are =
      let parts : (takes kind.Bool a.condition.kind ≡ true) × (list_all is_condition arms ≡ true) = and_parts (takes kind.Bool a.condition.kind) (list_all is_condition arms) are in
      and_from (is_of types a.condition.expr kind.Bool) (list_all has_condition (map (arm_type types) (map arm_of arms))) (all.0.0 kind.Bool parts.0) (bools_right arms all.1 parts.1)

  compared_arms_right : (x : Typed) (arms : List TypedArm) → IsTyped types x → AllByRecursion (IsComparedArm x.kind) arms → list_all (is_compared_with (is_of types x.expr)) (map (arm_type types) (map arm_of arms)) ≡ true
  compared_arms_right x [] x_is all = refl
  compared_arms_right x (a ∷ arms) x_is all =
      and_from (has_type (λ j. is_of types x.expr j && is_of types a.condition.expr j)) (list_all (is_compared_with (is_of types x.expr)) (map (arm_type types) (map arm_of arms)))
      (of_this (λ j. is_of types x.expr j && is_of types a.condition.expr j) all.0.2.0 (and_from (is_of types x.expr all.0.2.0) (is_of types a.condition.expr all.0.2.0) (x_is all.0.2.0 all.0.2.1) (all.0.0 all.0.2.0 all.0.2.2)))
      (compared_arms_right x arms x_is all.1)

  of_arms : (arms : List TypedArm) → AllByRecursion IsTypedArm arms → AllByRecursion (λ (a : TypedArm). IsTyped types a.value) arms
  of_arms [] all = tt {0}
  of_arms (a ∷ arms) all = (all.0.1, of_arms arms all.1)

  of_compared_arms : (k : Option Kind) (arms : List TypedArm) → AllByRecursion (IsComparedArm k) arms → AllByRecursion (λ (a : TypedArm). IsTyped types a.value) arms
  of_compared_arms k [] all = tt {0}
  of_compared_arms k (a ∷ arms) all = (all.0.1, of_compared_arms k arms all.1)

  abbrev IsCaseOf : List TypedArm → Option Typed → Kind → Type 0
  IsCaseOf arms other k = (list_all has_condition (map (arm_type types) (map arm_of arms)) ≡ true) × TakesValues arms other k

  case_kind_right : (arms : List TypedArm) (other : Option Typed) → AllByRecursion IsTypedArm arms → Made (IsCaseOf arms other) (case_kind arms other)
  case_kind_right arms other arms_are = go (list_all is_condition arms) (bools_right arms arms_are) where
    go : (b : Bool) → (b ≡ true → list_all has_condition (map (arm_type types) (map arm_of arms)) ≡ true) → Made (IsCaseOf arms other) (if b then value_kind arms other else Err TypeMismatch)
    go true is = made_so (TakesValues arms other) (IsCaseOf arms other) (value_kind arms other) (value_kind_right arms other) (λ k take. (is refl, take))
    go false is = tt {0}

  pub case_right : (arms : List TypedArm) (other : Option Typed) → AllByRecursion IsTypedArm arms → IsTypedElse other → Made (IsTyped types) (case_of arms other)
  unfolding case_of
  case_right arms other arms_are other_is = then_made (IsCaseOf arms other) (IsTyped types) (case_kind arms other) (λ k. Ok (of_kind (expr.Case (map arm_of arms) (otherwise_of other)) k)) (case_kind_right arms other arms_are)
      (λ k take. typed_right (expr.Case (map arm_of arms) (otherwise_of other)) k (case_is types (map arm_of arms) (otherwise_of other) k
      ∙ and_from (list_all has_condition (map (arm_type types) (map arm_of arms))) (list_all (has_value k) (map (arm_type types) (map arm_of arms)) && is_else_of k (else_type types (otherwise_of other))) take.0
      (and_from (list_all (has_value k) (map (arm_type types) (map arm_of arms))) (is_else_of k (else_type types (otherwise_of other))) (values_right arms k (of_arms arms arms_are) take.1.1) (else_right other k other_is take.1.0))))

  pub match_right : (x : Typed) (arms : List TypedArm) (other : Option Typed) → IsTyped types x → AllByRecursion (IsComparedArm x.kind) arms → IsTypedElse other → Made (IsTyped types) (match_of x arms other)
  unfolding match_of
  match_right x arms other x_is arms_are other_is = then_made (TakesValues arms other) (IsTyped types) (value_kind arms other) (λ k. Ok (of_kind (expr.Match x.expr (map arm_of arms) (otherwise_of other)) k)) (value_kind_right arms other)
      (λ k take. typed_right (expr.Match x.expr (map arm_of arms) (otherwise_of other)) k (match_is types x.expr (map arm_of arms) (otherwise_of other) k
      ∙ and_from (has_type (is_of types x.expr) && list_all (is_compared_with (is_of types x.expr)) (map (arm_type types) (map arm_of arms))) (list_all (has_value k) (map (arm_type types) (map arm_of arms)) && is_else_of k (else_type types (otherwise_of other)))
      (and_from (has_type (is_of types x.expr)) (list_all (is_compared_with (is_of types x.expr)) (map (arm_type types) (map arm_of arms))) (has_right x x_is) (compared_arms_right x arms x_is arms_are))
      (and_from (list_all (has_value k) (map (arm_type types) (map arm_of arms))) (is_else_of k (else_type types (otherwise_of other))) (values_right arms k (of_compared_arms x.kind arms arms_are) take.1) (else_right other k other_is take.0))))

  -- ---- calls

  calculated_right : (op : Operator) (x y : Typed) → is_operand op kind.Int ≡ true → IsTyped types x → IsTyped types y → Made (IsTyped types) (calculation_of op x y)
  unfolding calculation_of
  calculated_right op x y operand x_is y_is = made_if (IsTyped types) (takes kind.Int x.kind && takes kind.Int y.kind) (of_kind (expr.Chain x.expr (record { operator = op; operand = y.expr } ∷ [])) kind.Int) TypeMismatch
      (λ t. let parts : (takes kind.Int x.kind ≡ true) × (takes kind.Int y.kind ≡ true) = and_parts (takes kind.Int x.kind) (takes kind.Int y.kind) t in
      typed_right (expr.Chain x.expr (record { operator = op; operand = y.expr } ∷ [])) kind.Int (chain_is types x.expr (record { operator = op; operand = y.expr } ∷ []) kind.Int
      ∙ and_from (is_of types x.expr kind.Int) ((is_operand op kind.Int && is_of types y.expr kind.Int) && true) (x_is kind.Int parts.0)
      (and_from (is_operand op kind.Int && is_of types y.expr kind.Int) true (and_from (is_operand op kind.Int) (is_of types y.expr kind.Int) operand (y_is kind.Int parts.1)) refl)))

  length_right : (x : Typed) → IsTyped types x → Made (IsTyped types) (length_of x)
  unfolding length_of
  length_right x x_is = then_made (IsText x.kind) (IsTyped types) (text_kind x.kind) (λ k. Ok (of_kind (expr.Length x.expr) kind.Int)) (text_is x.kind)
      (λ k text. typed_right (expr.Length x.expr) kind.Int (length_is types x.expr kind.Int ∙ of_this (λ j. is_text j && is_of types x.expr j) k (and_from (is_text k) (is_of types x.expr k) text.0 (x_is k text.1))))

  abbrev AreTexts : Option Kind → Option Kind → Kind → Type 0
  AreTexts a b k = (is_text k ≡ true) × Takes k a × Takes k b

  texts_right : (a b : Option Kind) → Made (AreTexts a b) (and_then (common_kind a b) text_kind)
  texts_right a b = then_made (CoversBoth a b) (AreTexts a b) (common_kind a b) text_kind (agreed_covers a b) (λ i both. made_so (IsText i) (AreTexts a b) (text_kind i) (text_is i) (λ k text. (text.0, both.0 k text.1, both.1 k text.1)))

  starts_right : (x front : Typed) → IsTyped types x → IsTyped types front → Made (IsTyped types) (starts_with x front)
  unfolding starts_with
  starts_right x front x_is front_is = then_made (AreTexts x.kind front.kind) (IsTyped types) (and_then (common_kind x.kind front.kind) text_kind) (λ k. Ok (of_kind (expr.StartsWith x.expr front.expr) kind.Bool)) (texts_right x.kind front.kind)
      (λ k text. typed_right (expr.StartsWith x.expr front.expr) kind.Bool (starts_with_is types x.expr front.expr kind.Bool
      ∙ of_this (λ j. is_text j && is_of types x.expr j && is_of types front.expr j) k (and_from (is_text k && is_of types x.expr k) (is_of types front.expr k) (and_from (is_text k) (is_of types x.expr k) text.0 (x_is k text.1)) (front_is k text.2))))

  coalesced_right : (xs : List Typed) → AllByRecursion (IsTyped types) xs → Made (IsTyped types) (coalesce_of xs)
  unfolding coalesce_of
  coalesced_right xs all = then_made (λ k. AllCovered k (kinds_of xs)) (IsTyped types) (common_kind_of_all (kinds_of xs)) (λ k. Ok (of_kind (expr.Coalesce (exprs_of xs)) (or_int k))) (all_covered (kinds_of xs))
      (λ k covered. typed_right (expr.Coalesce (exprs_of xs)) (or_int k) (coalesce_is types (exprs_of xs) (or_int k) ∙ all_right (or_int k) xs (all_take (or_int k) k (kinds_of xs) (takes_own k) covered) all))

  if_right : (c x y : Typed) → IsTyped types c → IsTyped types x → IsTyped types y → Made (IsTyped types) (if_of c x y)
  unfolding if_of
  if_right c x y c_is x_is y_is = case_right (record { condition = c; value = x } ∷ []) (Some y) ((c_is, x_is), tt {0}) y_is

  -- ---- operands by their number

  one_right : (xs : List Typed) → AllByRecursion (IsTyped types) xs → Made (IsTyped types) (one_of xs)
  one_right [] all = tt {0}
  one_right (x ∷ []) all = all.0
  one_right (x ∷ y ∷ xs) all = tt {0}

  abbrev TwoTyped : Typed × Typed → Type 0
  TwoTyped p = IsTyped types p.0 × IsTyped types p.1

  two_right : (xs : List Typed) → AllByRecursion (IsTyped types) xs → Made TwoTyped (two_of xs)
  two_right [] all = tt {0}
  two_right (x ∷ []) all = tt {0}
  two_right (x ∷ y ∷ []) all = (all.0, all.1.0)
  two_right (x ∷ y ∷ z ∷ xs) all = tt {0}

  abbrev ThreeTyped : Typed × Typed × Typed → Type 0
  ThreeTyped p = IsTyped types p.0 × IsTyped types p.1 × IsTyped types p.2

  three_right : (xs : List Typed) → AllByRecursion (IsTyped types) xs → Made ThreeTyped (three_of xs)
  three_right [] all = tt {0}
  three_right (x ∷ []) all = tt {0}
  three_right (x ∷ y ∷ []) all = tt {0}
  three_right (x ∷ y ∷ z ∷ []) all = (all.0, all.1.0, all.1.1.0)
  three_right (x ∷ y ∷ z ∷ w ∷ xs) all = tt {0}

  some_right : (xs : List Typed) → AllByRecursion (IsTyped types) xs → Made (AllByRecursion (IsTyped types)) (some_of xs)
  some_right [] all = tt {0}
  some_right (x ∷ xs) all = all

  pub applied_right : (f : CalledFunction) (xs : List Typed) → AllByRecursion (IsTyped types) xs → Made (IsTyped types) (apply_function f xs)
  unfolding apply_function
  applied_right called.Divide xs all = then_made TwoTyped (IsTyped types) (two_of xs) (λ p. calculation_of Divide p.0 p.1) (two_right xs all) (λ p is. calculated_right Divide p.0 p.1 refl is.0 is.1)
  applied_right called.Modulo xs all = then_made TwoTyped (IsTyped types) (two_of xs) (λ p. calculation_of Modulo p.0 p.1) (two_right xs all) (λ p is. calculated_right Modulo p.0 p.1 refl is.0 is.1)
  applied_right called.Length xs all = then_made (IsTyped types) (IsTyped types) (one_of xs) length_of (one_right xs all) length_right
  applied_right called.StartsWith xs all = then_made TwoTyped (IsTyped types) (two_of xs) (λ p. starts_with p.0 p.1) (two_right xs all) (λ p is. starts_right p.0 p.1 is.0 is.1)
  applied_right called.If xs all = then_made ThreeTyped (IsTyped types) (three_of xs) (λ p. if_of p.0 p.1 p.2) (three_right xs all) (λ p is. if_right p.0 p.1 p.2 is.0 is.1 is.2)
  applied_right called.IfNull xs all = then_made TwoTyped (IsTyped types) (two_of xs) (λ p. coalesce_of (p.0 ∷ p.1 ∷ [])) (two_right xs all) (λ p is. coalesced_right (p.0 ∷ p.1 ∷ []) (is.0, (is.1, tt {0})))
  applied_right called.Coalesce xs all = then_made (AllByRecursion (IsTyped types)) (IsTyped types) (some_of xs) coalesce_of (some_right xs all) coalesced_right
  applied_right (called.Aggregate f) xs all = tt {0}

  -- ---- aggregates

  abbrev pub IsOperandOf : Function → Typed → Type 0
  IsOperandOf f x = is_function_of f (is_of types x.expr) (aggregate_kind f x.kind) ≡ true

  operand_for_right : (f : Function) (x : Typed) → IsTyped types x → Made (IsOperandOf f) (operand_for f x)
  unfolding aggregate_kind
  operand_for_right function.Count x x_is = has_right x x_is
  operand_for_right function.Sum x x_is = made_if (IsOperandOf function.Sum) (takes kind.Int x.kind) x TypeMismatch (λ t. x_is kind.Int t)
  operand_for_right function.Min x x_is = own_right x x_is
  operand_for_right function.Max x x_is = own_right x x_is

  pub operand_right : (f : Function) (xs : List Typed) → AllByRecursion (IsTyped types) xs → Made (IsOperandOf f) (operand_of f xs)
  unfolding operand_of
  operand_right f xs all = then_made (IsTyped types) (IsOperandOf f) (one_of xs) (operand_for f) (one_right xs all) (operand_for_right f)
