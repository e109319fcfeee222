-- The typed forms of a chain and a CASE, by their parts.
use Rattle.std.proofs.Common.{◌≡◌, ℕ, Ok, List, [], ◌∷◌, map, Option, Some, None, ap, sym, ◌∙◌, refl}
use Rattle.std.specs.Option.{option_map}
use Rattle.span_trees.specs.declared.tree.Operator.{Operator}
use Rattle.span_trees.specs.declared.tree.Expr.{Expr}
use Rattle.span_trees.specs.declared.tree.Arm.{Arm, fold-Arm}
use Rattle.span_trees.specs.declared.tree.Link.{Link, fold-Link}
use Rattle.span_trees.specs.declared.tree.Expr.TheVariants as e
use Rattle.span_trees.specs.declared.tree.Expr.TheVariants.{rolls-Chain, rolls-Case, rolls-Negative, rolls-IsNull, rolls-Not, rolls-Like}
use Rattle.span_trees.specs.declared.tree.Expr.TheOpen.{Expr-F}
use Rattle.span_trees.specs.declared.tree.Expr.TheFolds.{fold-roll-Expr, fold_out-Arm, fold_out-Link}
use Rattle.span_params.specs.declared.params.Parameter.{Parameter}
use Rattle.span_trees.specs.declared.tree.Spelling.{Spelling}
use Rattle.span_typing.specs.declared.scope.Scope.{Scope}
use Rattle.span_operators.specs.declared.typed.Typed.{Typed}
use Rattle.span_operators.specs.Operators.{unary_minus, logical_not, null_test, like_test}
use Rattle.span_typing.specs.Typing.{Operand, at_operands, arm_at, link_at, typing, arm_typing, link_typing, chain, case, simple_case, of_one}

abbrev arm_fold : Scope → List Parameter → Arm → Operand × Operand
arm_fold scope params = fold-Arm Operand (Operand × Operand) (Operator × Operand) (at_operands scope params) arm_at link_at

abbrev link_fold : Scope → List Parameter → Link → Operator × Operand
link_fold scope params = fold-Link Operand (Operand × Operand) (Operator × Operand) (at_operands scope params) arm_at link_at

arm_is : (scope : Scope) (params : List Parameter) (a : Arm) → arm_fold scope params a ≡ arm_typing scope params a
arm_is scope params a = fold_out-Arm Operand (Operand × Operand) (Operator × Operand) (at_operands scope params) arm_at link_at a

link_is : (scope : Scope) (params : List Parameter) (l : Link) → link_fold scope params l ≡ link_typing scope params l
link_is scope params l = fold_out-Link Operand (Operand × Operand) (Operator × Operand) (at_operands scope params) arm_at link_at l

arms_are : (scope : Scope) (params : List Parameter) (xs : List Arm) → map (arm_fold scope params) xs ≡ map (arm_typing scope params) xs
arms_are scope params [] = refl
arms_are scope params (x ∷ xs) = ap (λ (y : Operand × Operand). y ∷ map (arm_fold scope params) xs) (arm_is scope params x) ∙ ap (λ (ys : List (Operand × Operand)). arm_typing scope params x ∷ ys) (arms_are scope params xs)

links_are : (scope : Scope) (params : List Parameter) (xs : List Link) → map (link_fold scope params) xs ≡ map (link_typing scope params) xs
links_are scope params [] = refl
links_are scope params (x ∷ xs) = ap (λ (y : Operator × Operand). y ∷ map (link_fold scope params) xs) (link_is scope params x) ∙ ap (λ (ys : List (Operator × Operand)). link_typing scope params x ∷ ys) (links_are scope params xs)

chain_is : (scope : Scope) (params : List Parameter) (a : Expr) (ls : List Link) → typing scope params (e.Chain a ls) ≡ chain (typing scope params a) (map (link_typing scope params) ls)
chain_is scope params a ls =
    ap (typing scope params) (sym (rolls-Chain a ls))
    ∙ (fold-roll-Expr Operand (Operand × Operand) (Operator × Operand) (at_operands scope params) arm_at link_at (Expr-F.Chain a ls)
    ∙ ap (chain (typing scope params a)) (links_are scope params ls))

case_is : (scope : Scope) (params : List Parameter) (a : Option Expr) (arms : List Arm) (other : Option Expr) → typing scope params (e.Case a arms other) ≡ case (option_map (typing scope params) a) (map (arm_typing scope params) arms) (option_map (typing scope params) other)
case_is scope params None arms None =
    ap (typing scope params) (sym (rolls-Case None arms None))
    ∙ (fold-roll-Expr Operand (Operand × Operand) (Operator × Operand) (at_operands scope params) arm_at link_at (Expr-F.Case None arms None)
    ∙ ap (λ (xs : List (Operand × Operand)). case None xs None) (arms_are scope params arms))
case_is scope params (Some a) arms None =
    ap (typing scope params) (sym (rolls-Case (Some a) arms None))
    ∙ (fold-roll-Expr Operand (Operand × Operand) (Operator × Operand) (at_operands scope params) arm_at link_at (Expr-F.Case (Some a) arms None)
    ∙ ap (λ (xs : List (Operand × Operand)). case (Some (typing scope params a)) xs None) (arms_are scope params arms))
case_is scope params None arms (Some b) =
    ap (typing scope params) (sym (rolls-Case None arms (Some b)))
    ∙ (fold-roll-Expr Operand (Operand × Operand) (Operator × Operand) (at_operands scope params) arm_at link_at (Expr-F.Case None arms (Some b))
    ∙ ap (λ (xs : List (Operand × Operand)). case None xs (Some (typing scope params b))) (arms_are scope params arms))
case_is scope params (Some a) arms (Some b) =
    ap (typing scope params) (sym (rolls-Case (Some a) arms (Some b)))
    ∙ (fold-roll-Expr Operand (Operand × Operand) (Operator × Operand) (at_operands scope params) arm_at link_at (Expr-F.Case (Some a) arms (Some b))
    ∙ ap (λ (xs : List (Operand × Operand)). case (Some (typing scope params a)) xs (Some (typing scope params b))) (arms_are scope params arms))

-- the same of what was read of the tree
pub chain_read : (scope : Scope) (params : List Parameter) (x a b : Expr) (ls read : List Link) → x ≡ e.Chain a ls → b ≡ a → read ≡ ls → typing scope params x ≡ chain (typing scope params b) (map (link_typing scope params) read)
chain_read scope params x a b ls read is taken same =
    ap (typing scope params) is ∙ chain_is scope params a ls
    ∙ ap (λ (y : Expr). chain (typing scope params y) (map (link_typing scope params) ls)) (sym taken)
    ∙ ap (λ (l : List Link). chain (typing scope params b) (map (link_typing scope params) l)) (sym same)

pub case_read : (scope : Scope) (params : List Parameter) (x : Expr) (a : Option Expr) (arms read : List Arm) (other : Option Expr) → x ≡ e.Case a arms other → read ≡ arms → typing scope params x ≡ case (option_map (typing scope params) a) (map (arm_typing scope params) read) (option_map (typing scope params) other)
case_read scope params x a arms read other is same =
    ap (typing scope params) is ∙ case_is scope params a arms other
    ∙ ap (λ (xs : List Arm). case (option_map (typing scope params) a) (map (arm_typing scope params) xs) (option_map (typing scope params) other)) (sym same)

-- operators of one operand
pub negative_read : (scope : Scope) (params : List Parameter) (x a b : Expr) → x ≡ e.Negative a → b ≡ a → typing scope params x ≡ of_one unary_minus (typing scope params b)
negative_read scope params x a b is taken =
    ap (typing scope params) (is ∙ sym (rolls-Negative a)) ∙ (fold-roll-Expr Operand (Operand × Operand) (Operator × Operand) (at_operands scope params) arm_at link_at (Expr-F.Negative a)
    ∙ ap (λ (y : Expr). of_one unary_minus (typing scope params y)) (sym taken))

pub null_test_read : (scope : Scope) (params : List Parameter) (x a b : Expr) → x ≡ e.IsNull a → b ≡ a → typing scope params x ≡ of_one (λ (v : Typed). Ok (null_test v)) (typing scope params b)
null_test_read scope params x a b is taken =
    ap (typing scope params) (is ∙ sym (rolls-IsNull a)) ∙ (fold-roll-Expr Operand (Operand × Operand) (Operator × Operand) (at_operands scope params) arm_at link_at (Expr-F.IsNull a)
    ∙ ap (λ (y : Expr). of_one (λ (v : Typed). Ok (null_test v)) (typing scope params y)) (sym taken))

pub denied_read : (scope : Scope) (params : List Parameter) (x a b : Expr) → x ≡ e.Not a → b ≡ a → typing scope params x ≡ of_one logical_not (typing scope params b)
denied_read scope params x a b is taken =
    ap (typing scope params) (is ∙ sym (rolls-Not a)) ∙ (fold-roll-Expr Operand (Operand × Operand) (Operator × Operand) (at_operands scope params) arm_at link_at (Expr-F.Not a)
    ∙ ap (λ (y : Expr). of_one logical_not (typing scope params y)) (sym taken))

pub like_read : (scope : Scope) (params : List Parameter) (x a b : Expr) (pattern : Spelling) (text : List ℕ) → x ≡ e.Like a pattern → b ≡ a → text ≡ pattern.text → typing scope params x ≡ of_one (like_test text) (typing scope params b)
like_read scope params x a b pattern text is taken same =
    ap (typing scope params) (is ∙ sym (rolls-Like a pattern)) ∙ (fold-roll-Expr Operand (Operand × Operand) (Operator × Operand) (at_operands scope params) arm_at link_at (Expr-F.Like a pattern)
    ∙ ap (λ (y : Expr). of_one (like_test pattern.text) (typing scope params y)) (sym taken)
    ∙ ap (λ (t : List ℕ). of_one (like_test t) (typing scope params b)) (sym same))

-- a CASE whose operand is there
pub case_some : (f : Expr → Operand) (o : Option Expr) (a b : Expr) (os : List (Operand × Operand)) (other : Option Operand) → o ≡ Some a → b ≡ a → case (option_map f o) os other ≡ simple_case (f b) os other
case_some f o a b os other is taken = ap (λ (q : Option Expr). case (option_map f q) os other) is ∙ ap (λ (y : Expr). simple_case (f y) os other) (sym taken)
