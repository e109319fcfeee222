-- What operators make of their operands.
use Rattle.std.specs.Prelude.{Bool, true, false, List, [], ◌∷◌}
use Rattle.span_trees.specs.declared.operator.PredicateTest.{PredicateTest}
use Rattle.span_trees.specs.declared.operator.PredicateTest.TheVariants as predicate_test
use Rattle.span_trees.specs.declared.tree.Expr.{Expr}
use Rattle.span_trees.specs.declared.tree.Expr.TheVariants as e
use Rattle.span_trees.specs.declared.tree.Link.{Link}

abbrev pub chain_of : Expr → List Link → Expr
chain_of x [] = x
chain_of x (l ∷ ls) = e.Chain x (l ∷ ls)

abbrev pub conjunction_of : Expr → List Expr → Expr
conjunction_of x [] = x
conjunction_of x (y ∷ ys) = e.And x (y ∷ ys)

abbrev pub disjunction_of : Expr → List Expr → Expr
disjunction_of x [] = x
disjunction_of x (y ∷ ys) = e.Or x (y ∷ ys)

-- with NOT or without
abbrev pub negate_if : Bool → Expr → Expr
negate_if true x = e.Not x
negate_if false x = x

-- what is asked of an operand
abbrev pub test_of : Expr → PredicateTest → Expr
test_of x predicate_test.Nothing = x
test_of x (predicate_test.Compared c y) = e.Compare x c y
test_of x predicate_test.IsNull = e.IsNull x
test_of x (predicate_test.Like pattern) = e.Like x pattern
test_of x (predicate_test.Between low high) = e.Between x low high
test_of x (predicate_test.In ys) = e.In x ys

-- the same, with NOT or without
abbrev pub apply_test : Expr → Bool × PredicateTest → Expr
apply_test x question = negate_if question.0 (test_of x question.1)
