-- Of which types an expression is, by its operator.
use Rattle.std.proofs.Common.{◌≡◌, ◌∙◌, sym, ap, ℕ, ◌&&◌, List, map, Option, Some, None}
use Rattle.std.specs.Prelude.{slice_get}
use Rattle.std.specs.List.{list_all}
use Rattle.span_value.specs.declared.value.Kind.{Kind}
use Rattle.span_value.specs.declared.value.Kind.TheVariants as kind
use Rattle.span_value.specs.declared.value.Value.{Value}
use Rattle.span_schema.specs.Fitting.{is_of_kind}
use Rattle.span_expr.specs.declared.expr.Comparison.{Comparison}
use Rattle.span_pattern.specs.declared.pattern.PatternPart.{PatternPart}
use Rattle.span_expr.specs.declared.expr.Link.{Link}
use Rattle.span_expr.specs.declared.expr.Arm.{Arm}
use Rattle.span_expr.specs.declared.expr.Expr.{Expr}
use Rattle.span_expr.specs.declared.expr.Expr.TheVariants as expr
use Rattle.span_expr.specs.declared.expr.Expr.TheVariants.{rolls-Literal, rolls-Column, rolls-Negative, rolls-Chain, rolls-Compare, rolls-Between, rolls-In, rolls-Like, rolls-StartsWith, rolls-Length, rolls-IsNull, rolls-Not, rolls-And, rolls-Or, rolls-Case, rolls-Match, rolls-Coalesce}
use Rattle.span_expr.specs.declared.expr.Expr.TheOpen.{Expr-F}
use Rattle.span_expr.specs.declared.expr.Expr.TheViews.{roll-Expr}
use Rattle.span_expr.specs.declared.expr.Expr.TheFolds.{map-Expr, fold-roll-Expr}
use Rattle.span_soundness.specs.Types.{Typing, are_same, is_text, has_type, all_are, are_conditions, is_some, is_link_of, has_condition, is_compared_with, all_values_are, typing_at, is_of}

module _ (types : List Kind) where
  abbrev pub link_type : Link Expr → Link Typing
  link_type link = record { operator = link.operator; operand = is_of types link.operand }

  abbrev pub arm_type : Arm Expr → Arm Typing
  arm_type arm = record { condition = is_of types arm.condition; value = is_of types arm.value }

  abbrev pub else_type : Option Expr → Option Typing
  else_type None = None
  else_type (Some e) = Some (is_of types e)

  at_layer : (e : Expr) (y : Expr-F Expr) (k : Kind) → roll-Expr y ≡ e → is_of types e k ≡ typing_at types (map-Expr Expr Typing (is_of types) y) k
  at_layer e y k is = ap (λ (x : Expr). is_of types x k) (sym is) ∙ ap (λ (f : Typing). f k) (fold-roll-Expr Typing (typing_at types) y)

  pub literal_is : (v : Value) (k : Kind) → is_of types (expr.Literal v) k ≡ is_of_kind k v
  literal_is v k = at_layer (expr.Literal v) (Expr-F.Literal v) k (rolls-Literal v)

  pub column_is : (place : ℕ) (k : Kind) → is_of types (expr.Column place) k ≡ is_some (slice_get types place) k
  column_is place k = at_layer (expr.Column place) (Expr-F.Column place) k (rolls-Column place)

  pub negative_is : (a : Expr) (k : Kind) → is_of types (expr.Negative a) k ≡ (are_same kind.Int k && is_of types a kind.Int)
  negative_is a k = at_layer (expr.Negative a) (Expr-F.Negative a) k (rolls-Negative a)

  pub chain_is : (first : Expr) (links : List (Link Expr)) (k : Kind) → is_of types (expr.Chain first links) k ≡ (is_of types first k && list_all (is_link_of k) (map link_type links))
  chain_is first links k = at_layer (expr.Chain first links) (Expr-F.Chain first links) k (rolls-Chain first links)

  pub comparison_is : (a : Expr) (c : Comparison) (b : Expr) (k : Kind) → is_of types (expr.Compare a c b) k ≡ (are_same kind.Bool k && has_type (λ j. is_of types a j && is_of types b j))
  comparison_is a c b k = at_layer (expr.Compare a c b) (Expr-F.Compare a c b) k (rolls-Compare a c b)

  pub between_is : (a low high : Expr) (k : Kind) → is_of types (expr.Between a low high) k ≡ (are_same kind.Bool k && has_type (λ j. is_of types a j && is_of types low j && is_of types high j))
  between_is a low high k = at_layer (expr.Between a low high) (Expr-F.Between a low high) k (rolls-Between a low high)

  pub in_is : (a : Expr) (members : List Expr) (k : Kind) → is_of types (expr.In a members) k ≡ (are_same kind.Bool k && has_type (λ j. is_of types a j && all_are (map (is_of types) members) j))
  in_is a members k = at_layer (expr.In a members) (Expr-F.In a members) k (rolls-In a members)

  pub like_is : (a : Expr) (pattern : List PatternPart) (k : Kind) → is_of types (expr.Like a pattern) k ≡ (are_same kind.Bool k && is_of types a kind.Str)
  like_is a pattern k = at_layer (expr.Like a pattern) (Expr-F.Like a pattern) k (rolls-Like a pattern)

  pub starts_with_is : (a front : Expr) (k : Kind) → is_of types (expr.StartsWith a front) k ≡ (are_same kind.Bool k && has_type (λ j. is_text j && is_of types a j && is_of types front j))
  starts_with_is a front k = at_layer (expr.StartsWith a front) (Expr-F.StartsWith a front) k (rolls-StartsWith a front)

  pub length_is : (a : Expr) (k : Kind) → is_of types (expr.Length a) k ≡ (are_same kind.Int k && has_type (λ j. is_text j && is_of types a j))
  length_is a k = at_layer (expr.Length a) (Expr-F.Length a) k (rolls-Length a)

  pub null_test_is : (a : Expr) (k : Kind) → is_of types (expr.IsNull a) k ≡ (are_same kind.Bool k && has_type (is_of types a))
  null_test_is a k = at_layer (expr.IsNull a) (Expr-F.IsNull a) k (rolls-IsNull a)

  pub not_is : (a : Expr) (k : Kind) → is_of types (expr.Not a) k ≡ (are_same kind.Bool k && is_of types a kind.Bool)
  not_is a k = at_layer (expr.Not a) (Expr-F.Not a) k (rolls-Not a)

  pub and_is : (first : Expr) (more : List Expr) (k : Kind) → is_of types (expr.And first more) k ≡ (are_same kind.Bool k && are_conditions (is_of types first) (map (is_of types) more))
  and_is first more k = at_layer (expr.And first more) (Expr-F.And first more) k (rolls-And first more)

  pub or_is : (first : Expr) (more : List Expr) (k : Kind) → is_of types (expr.Or first more) k ≡ (are_same kind.Bool k && are_conditions (is_of types first) (map (is_of types) more))
  or_is first more k = at_layer (expr.Or first more) (Expr-F.Or first more) k (rolls-Or first more)

  pub case_is : (arms : List (Arm Expr)) (otherwise : Option Expr) (k : Kind) → is_of types (expr.Case arms otherwise) k ≡ (list_all has_condition (map arm_type arms) && all_values_are (map arm_type arms) (else_type otherwise) k)
  case_is arms None k = at_layer (expr.Case arms None) (Expr-F.Case arms None) k (rolls-Case arms None)
  case_is arms (Some e) k = at_layer (expr.Case arms (Some e)) (Expr-F.Case arms (Some e)) k (rolls-Case arms (Some e))

  pub match_is : (a : Expr) (arms : List (Arm Expr)) (otherwise : Option Expr) (k : Kind) → is_of types (expr.Match a arms otherwise) k ≡ (has_type (is_of types a) && list_all (is_compared_with (is_of types a)) (map arm_type arms) && all_values_are (map arm_type arms) (else_type otherwise) k)
  match_is a arms None k = at_layer (expr.Match a arms None) (Expr-F.Match a arms None) k (rolls-Match a arms None)
  match_is a arms (Some e) k = at_layer (expr.Match a arms (Some e)) (Expr-F.Match a arms (Some e)) k (rolls-Match a arms (Some e))

  pub coalesce_is : (operands : List Expr) (k : Kind) → is_of types (expr.Coalesce operands) k ≡ all_are (map (is_of types) operands) k
  coalesce_is operands k = at_layer (expr.Coalesce operands) (Expr-F.Coalesce operands) k (rolls-Coalesce operands)
