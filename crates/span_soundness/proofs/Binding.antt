-- The binder's types are right: the typed form of each form of a tree is typed, where its operands are.
use Rattle.std.proofs.Common.{◌≡◌, ◌∙◌, sym, refl, subst, true, false, Bool, if◌then◌else◌, List, [], ◌∷◌, ◌++◌, length, map, drop, ℕ, ◌+◌, Option, Some, None, Result, Ok, Err}
use Rattle.std.specs.List.{AllByRecursion}
use Rattle.std.specs.Prelude.{find}
use Rattle.span_value.specs.declared.value.Kind.{Kind}
use Rattle.span_value.specs.declared.value.Kind.TheVariants as kind
use Rattle.span_value.specs.declared.value.Value.TheVariants as value
use Rattle.span_value.specs.declared.refusal.Refusal.{Refusal}
use Rattle.span_value.specs.declared.refusal.Refusal.TheVariants.{TypeMismatch}
use Rattle.span_schema.specs.Tables.{is_same_name}
use Rattle.span_trees.specs.declared.tree.Column.{Column}
use Rattle.span_trees.specs.declared.tree.Operator.{Operator}
use Rattle.span_trees.specs.declared.tree.Expr.{Expr}
use Rattle.span_trees.specs.declared.tree.Arm.{Arm, fold-Arm, map-Arm, roll-Arm}
use Rattle.span_trees.specs.declared.tree.Link.{Link, fold-Link, map-Link, roll-Link}
use Rattle.span_trees.specs.declared.tree.Expr.TheOpen.{Expr-F, Arm-F, Link-F}
use Rattle.span_trees.specs.declared.tree.Expr.TheViews.{roll-Expr}
use Rattle.span_trees.specs.declared.tree.Expr.TheFolds.{ind-Expr, map-Expr, fold-roll-Expr, fold-roll-Arm, fold-roll-Link}
use Rattle.span_expr.specs.declared.expr.Expr.{Expr as TypedExpr}
use Rattle.span_expr.specs.declared.expr.Expr.TheVariants as expr
use Rattle.span_query.specs.declared.query.Aggregate.{Aggregate}
use Rattle.span_query.specs.declared.query.Aggregate.TheVariants.{CountRows, Of}
use Rattle.span_query.specs.declared.query.Function.{Function}
use Rattle.span_query.specs.declared.query.Function.TheVariants.{Count, Sum, Min, Max}
use Rattle.span_lexer.specs.LiteralValues.{text_of, bytes_of}
use Rattle.span_params.specs.declared.params.Parameter.{Parameter}
use Rattle.span_params.specs.Parameters.{with_parameter}
use Rattle.span_typing.specs.declared.scope.Scope.{Scope}
use Rattle.span_operators.specs.declared.typed.Typed.{Typed}
use Rattle.span_operators.specs.declared.typed.TypedArm.{TypedArm}
use Rattle.span_operators.specs.declared.typed.TypedLinks.{TypedLinks}
use Rattle.span_operators.specs.declared.typed.Mode.{Mode}
use Rattle.span_operators.specs.declared.typed.Mode.TheVariants.{Rows, Groups}
use Rattle.span_operators.specs.declared.function.CalledFunction.{CalledFunction}
use Rattle.span_operators.specs.declared.function.CalledFunction.TheVariants as called
use Rattle.span_operators.specs.Kinds.{takes, common_kind, or_int}
use Rattle.span_operators.specs.Functions.{function_named}
use Rattle.span_operators.specs.Steps.{from_result, ◌>>=◌}
use Rattle.span_operators.specs.Operators.{integer, unary_minus, logical_not, null_test, comparison_test, between, in_list, like_test, are_conditions, append_link, chain_of, case_of, match_of, apply_function, operand_of, aggregate_kind}
use Rattle.span_typing.specs.Typing.{Operand, string, bytes, truth, null, column, parameter_typed, parameter, each, condition_of, condition, conditions, all_true, some_true, next_link, links, arm_typed, arm, arms, check_kind, compared_arm, compared_arms, optional, of_one, of_two, of_three, membership, chain, junction, searched_case, simple_case, new_aggregate, aggregate, unknown_call, aggregate_call, function_call, call, call_star, arm_at, link_at, at_operands, typing}
use Rattle.span_soundness.specs.Bindings.{column_types, row_types, is_aggregate_of, AreTyped, IsTyped}
use Rattle.span_soundness.specs.Laws.{ParametersStayTyped, TypesAreRight}
use Rattle.std.proofs.lemmas.Bool.{and_parts}
use Rattle.span_soundness.proofs.Agreeing.{Made, then_made, made_if, CoversBoth, agreed_covers, Takes, takes_own}
use Rattle.span_soundness.proofs.Forms.{literal_is}
use Rattle.span_soundness.proofs.Making.{typed_right, integer_right, negative_right, denied_right, null_test_right, compared_right, between_right, among_right, liked_right, IsChain, linked_right, first_of_chain, chained_right, IsCondition, all_true_right, some_true_right, IsTypedArm, IsComparedArm, IsTypedElse, case_right, match_right, applied_right, IsOperandOf, operand_right}
use Rattle.span_soundness.proofs.Places.{column_right, aggregate_there}
use Rattle.span_soundness.proofs.Going.{Always, later_on, Leads, Keeps, then_keeps, given_keeps, along_keeps, Each, all_keep}
use Rattle.span_soundness.proofs.Keeping.{null_of}

-- ---- parameters

-- one of the parameters
found_typed : (test : Parameter → Bool) (ps : List Parameter) (types : List Kind) → AreTyped ps → Made (IsTyped types) (parameter_typed (find test ps))
found_typed test [] types are = tt {0}
found_typed test (p ∷ ps) types are = go (test p) (found_typed test ps types are.1) where
  go : (b : Bool) → Made (IsTyped types) (parameter_typed (find test ps)) → Made (IsTyped types) (parameter_typed (if b then Some p else find test ps))
  go true others = typed_right types (expr.Literal p.value) p.kind (literal_is types p.value p.kind ∙ are.0)
  go false others = others

parameter_right : (types : List Kind) (params : List Parameter) (spelled : List ℕ) → AreTyped params → Made (IsTyped types) (parameter params spelled)
unfolding parameter
parameter_right types params spelled are = found_typed (λ (p : Parameter). is_same_name p.name (drop 1 spelled)) params types are

pub parameters_stay_typed : ParametersStayTyped
parameters_stay_typed p [] is are = (is, tt {0})
parameters_stay_typed p (q ∷ qs) is are = go (is_same_name q.name p.name) (parameters_stay_typed p qs is are.1) where
  go : (b : Bool) → AreTyped (with_parameter p qs) → AreTyped (if b then p ∷ qs else q ∷ with_parameter p qs)
  go true others = (is, are.1)
  go false others = (are.0, others)

-- ---- literals

string_right : (types : List Kind) (spelled : List ℕ) → IsTyped types (string spelled)
unfolding string
string_right types spelled = typed_right types (expr.Literal (value.Str (text_of spelled))) kind.Str (literal_is types (value.Str (text_of spelled)) kind.Str)

bytes_right : (types : List Kind) (spelled : List ℕ) → IsTyped types (bytes spelled)
unfolding bytes
bytes_right types spelled = typed_right types (expr.Literal (value.Bytes (bytes_of spelled))) kind.Bytes (literal_is types (value.Bytes (bytes_of spelled)) kind.Bytes)

truth_right : (types : List Kind) (b : Bool) → IsTyped types (truth b)
truth_right types b = typed_right types (expr.Literal (value.Bool b)) kind.Bool (literal_is types (value.Bool b) kind.Bool)

null_right : (types : List Kind) → IsTyped types null
null_right types = λ wanted t. literal_is types value.Null wanted ∙ null_of wanted

-- ---- conditions and arms

condition_right : (types : List Kind) (k : Option Kind) (x : Typed) → IsTyped types x → Made (IsCondition types k) (condition_of k x)
unfolding condition_of
condition_right types k x x_is = made_if (IsCondition types k) (are_conditions k x.kind) x.expr TypeMismatch
    (λ t. let parts : (takes kind.Bool k ≡ true) × (takes kind.Bool x.kind ≡ true) = and_parts (takes kind.Bool k) (takes kind.Bool x.kind) t in (parts.0, x_is kind.Bool parts.1))

-- of one type with the operand of the CASE
abbrev IsAlike : List Kind → Option Kind → Typed → Type 0
IsAlike types k x = IsTyped types x × ((j : Kind) × Takes j k × Takes j x.kind)

alike_right : (types : List Kind) (k : Option Kind) (x : Typed) → IsTyped types x → Made (IsAlike types k) (check_kind k x)
unfolding check_kind
alike_right types k x x_is = then_made (CoversBoth k x.kind) (IsAlike types k) (common_kind k x.kind) (λ j. Ok x) (agreed_covers k x.kind) (λ j both. (x_is, (or_int j, both.0 (or_int j) (takes_own j), both.1 (or_int j) (takes_own j))))

module _ (scope : Scope) where
  -- the types of the rows of the FROM
  abbrev From : List Kind
  From = column_types scope

  abbrev At : Mode → List Kind → Typed → Type 0
  At m kinds x = IsTyped (row_types scope m kinds) x

  -- the typed form of an operand is typed, and so are the aggregates in it
  abbrev Sound : Operand → Type 0
  Sound a = (m : Mode) (kinds : List Kind) → Keeps From (At m) kinds (a m)

  -- ---- of one operand, two or three

  of_one_sound : (make : Typed → Result Typed Refusal) (a : Operand) → ((types : List Kind) (x : Typed) → IsTyped types x → Made (IsTyped types) (make x)) → Sound a → Sound (of_one make a)
  unfolding of_one
  of_one_sound make a right a_is m kinds = then_keeps From (At m) (At m) kinds (a m) (λ x. from_result (make x)) (a_is m kinds)
      (λ more x x_is. given_keeps From (At m) (kinds ++ more) (make x) (λ later. right (row_types scope m ((kinds ++ more) ++ later)) x (x_is later)))

  of_two_sound : (make : Typed → Typed → Result Typed Refusal) (a b : Operand) → ((types : List Kind) (x y : Typed) → IsTyped types x → IsTyped types y → Made (IsTyped types) (make x y)) → Sound a → Sound b → Sound (of_two make a b)
  unfolding of_two
  of_two_sound make a b right a_is b_is m kinds = then_keeps From (At m) (At m) kinds (a m) (λ x. b m >>= (λ y. from_result (make x y))) (a_is m kinds)
      (λ more x x_is. then_keeps From (At m) (At m) (kinds ++ more) (b m) (λ y. from_result (make x y)) (b_is m (kinds ++ more))
      (λ more2 y y_is. given_keeps From (At m) ((kinds ++ more) ++ more2) (make x y)
      (λ later. right (row_types scope m (((kinds ++ more) ++ more2) ++ later)) x y (later_on (At m) (kinds ++ more) more2 x x_is later) (y_is later))))

  of_three_sound : (make : Typed → Typed → Typed → Result Typed Refusal) (a b c : Operand) → ((types : List Kind) (x y z : Typed) → IsTyped types x → IsTyped types y → IsTyped types z → Made (IsTyped types) (make x y z)) → Sound a → Sound b → Sound c → Sound (of_three make a b c)
  unfolding of_three
  of_three_sound make a b c right a_is b_is c_is m kinds = then_keeps From (At m) (At m) kinds (a m) (λ x. b m >>= (λ y. c m >>= (λ z. from_result (make x y z)))) (a_is m kinds)
      (λ more x x_is. then_keeps From (At m) (At m) (kinds ++ more) (b m) (λ y. c m >>= (λ z. from_result (make x y z))) (b_is m (kinds ++ more))
      (λ more2 y y_is. then_keeps From (At m) (At m) ((kinds ++ more) ++ more2) (c m) (λ z. from_result (make x y z)) (c_is m ((kinds ++ more) ++ more2))
      (λ more3 z z_is. given_keeps From (At m) (((kinds ++ more) ++ more2) ++ more3) (make x y z)
      (λ later. right (row_types scope m ((((kinds ++ more) ++ more2) ++ more3) ++ later)) x y z
      (later_on (At m) ((kinds ++ more) ++ more2) more3 x (later_on (At m) (kinds ++ more) more2 x x_is) later)
      (later_on (At m) ((kinds ++ more) ++ more2) more3 y y_is later)
      (z_is later)))))

  -- ---- of lists of operands

  each_sound : (os : List Operand) (m : Mode) → AllByRecursion Sound os → (kinds : List Kind) → Keeps From (Each From (At m)) kinds (each os m)
  each_sound os m all kinds = all_keep From (At m) Sound (λ (a : Operand). a m) (λ a a_is ks. a_is m ks) os all kinds

  membership_sound : (a : Operand) (os : List Operand) → Sound a → AllByRecursion Sound os → Sound (membership a os)
  unfolding membership
  membership_sound a os a_is all m kinds = then_keeps From (At m) (At m) kinds (a m) (λ x. each os m >>= (λ ys. from_result (in_list x ys))) (a_is m kinds)
      (λ more x x_is. then_keeps From (Each From (At m)) (At m) (kinds ++ more) (each os m) (λ ys. from_result (in_list x ys)) (each_sound os m all (kinds ++ more))
      (λ more2 ys ys_are. given_keeps From (At m) ((kinds ++ more) ++ more2) (in_list x ys)
      (λ later. among_right (row_types scope m (((kinds ++ more) ++ more2) ++ later)) x ys (later_on (At m) (kinds ++ more) more2 x x_is later) (ys_are later))))

  -- ---- chains

  abbrev SoundLink : Operator × Operand → Type 0
  SoundLink l = Sound l.1

  abbrev ChainAt : Mode → Typed → List Kind → TypedLinks → Type 0
  ChainAt m x kinds c = IsChain (row_types scope m kinds) x c

  next_link_sound : (m : Mode) (x : Typed) (c : TypedLinks) (l : Operator × Operand) (kinds : List Kind) → SoundLink l → Always (ChainAt m x) kinds c → Keeps From (ChainAt m x) kinds (next_link m c l)
  next_link_sound m x c l kinds l_is c_is = then_keeps From (At m) (ChainAt m x) kinds (l.1 m) (λ y. from_result (append_link c l.0 y)) (l_is m kinds)
      (λ more y y_is. given_keeps From (ChainAt m x) (kinds ++ more) (append_link c l.0 y)
      (λ later. linked_right (row_types scope m ((kinds ++ more) ++ later)) x c l.0 y (later_on (ChainAt m x) kinds more c c_is later) (y_is later)))

  links_sound : (m : Mode) (x : Typed) (ls : List (Operator × Operand)) (kinds : List Kind) → AllByRecursion SoundLink ls → Always (At m) kinds x → Keeps From (ChainAt m x) kinds (links x.kind ls m)
  links_sound m x ls kinds all x_is = along_keeps From (ChainAt m x) SoundLink (next_link m) (λ ks c l l_is c_is. next_link_sound m x c l ks l_is c_is) ls all kinds (record { kind = x.kind; links = [] })
      (λ later. first_of_chain (row_types scope m (kinds ++ later)) x (x_is later))

  chain_sound : (a : Operand) (ls : List (Operator × Operand)) → Sound a → AllByRecursion SoundLink ls → Sound (chain a ls)
  unfolding chain
  chain_sound a ls a_is all m kinds = then_keeps From (At m) (At m) kinds (a m) (λ x. links x.kind ls m >>= (λ c. from_result (Ok (chain_of x c)))) (a_is m kinds)
      (λ more x x_is. then_keeps From (ChainAt m x) (At m) (kinds ++ more) (links x.kind ls m) (λ c. from_result (Ok (chain_of x c))) (links_sound m x ls (kinds ++ more) all x_is)
      (λ more2 c c_is. given_keeps From (At m) ((kinds ++ more) ++ more2) (Ok (chain_of x c))
      (λ later. chained_right (row_types scope m (((kinds ++ more) ++ more2) ++ later)) x c (c_is later))))

  -- ---- AND and OR

  abbrev ConditionAt : Mode → Option Kind → List Kind → TypedExpr → Type 0
  ConditionAt m k kinds e = IsCondition (row_types scope m kinds) k e

  condition_sound : (k : Option Kind) (a : Operand) (m : Mode) → Sound a → (kinds : List Kind) → Keeps From (ConditionAt m k) kinds (condition k a m)
  condition_sound k a m a_is kinds = then_keeps From (At m) (ConditionAt m k) kinds (a m) (λ x. from_result (condition_of k x)) (a_is m kinds)
      (λ more x x_is. given_keeps From (ConditionAt m k) (kinds ++ more) (condition_of k x) (λ later. condition_right (row_types scope m ((kinds ++ more) ++ later)) k x (x_is later)))

  conditions_sound : (k : Option Kind) (os : List Operand) (m : Mode) → AllByRecursion Sound os → (kinds : List Kind) → Keeps From (Each From (ConditionAt m k)) kinds (conditions k os m)
  conditions_sound k os m all kinds = all_keep From (ConditionAt m k) Sound (λ (a : Operand). condition k a m) (λ a a_is ks. condition_sound k a m a_is ks) os all kinds

  junction_sound : (join : Typed → List TypedExpr → Typed) (a : Operand) (os : List Operand) → ((types : List Kind) (x : Typed) (es : List TypedExpr) → IsTyped types x → AllByRecursion (IsCondition types x.kind) es → IsTyped types (join x es)) → Sound a → AllByRecursion Sound os → Sound (junction join a os)
  unfolding junction
  junction_sound join a os right a_is all m kinds = then_keeps From (At m) (At m) kinds (a m) (λ x. conditions x.kind os m >>= (λ es. from_result (Ok (join x es)))) (a_is m kinds)
      (λ more x x_is. then_keeps From (Each From (ConditionAt m x.kind)) (At m) (kinds ++ more) (conditions x.kind os m) (λ es. from_result (Ok (join x es))) (conditions_sound x.kind os m all (kinds ++ more))
      (λ more2 es es_are. given_keeps From (At m) ((kinds ++ more) ++ more2) (Ok (join x es))
      (λ later. right (row_types scope m (((kinds ++ more) ++ more2) ++ later)) x es (later_on (At m) (kinds ++ more) more2 x x_is later) (es_are later))))

  -- ---- CASE

  abbrev SoundArm : Operand × Operand → Type 0
  SoundArm a = Sound a.0 × Sound a.1

  abbrev ArmAt : Mode → List Kind → TypedArm → Type 0
  ArmAt m kinds a = IsTypedArm (row_types scope m kinds) a

  arm_sound : (a : Operand × Operand) (m : Mode) → SoundArm a → (kinds : List Kind) → Keeps From (ArmAt m) kinds (arm a m)
  arm_sound a m a_is kinds = then_keeps From (At m) (ArmAt m) kinds (a.0 m) (λ c. a.1 m >>= (λ v. from_result (Ok (arm_typed c v)))) (a_is.0 m kinds)
      (λ more c c_is. then_keeps From (At m) (ArmAt m) (kinds ++ more) (a.1 m) (λ v. from_result (Ok (arm_typed c v))) (a_is.1 m (kinds ++ more))
      (λ more2 v v_is. given_keeps From (ArmAt m) ((kinds ++ more) ++ more2) (Ok (arm_typed c v)) (λ later. (later_on (At m) (kinds ++ more) more2 c c_is later, v_is later))))

  arms_sound : (os : List (Operand × Operand)) (m : Mode) → AllByRecursion SoundArm os → (kinds : List Kind) → Keeps From (Each From (ArmAt m)) kinds (arms os m)
  arms_sound os m all kinds = all_keep From (ArmAt m) SoundArm (λ (a : Operand × Operand). arm a m) (λ a a_is ks. arm_sound a m a_is ks) os all kinds

  abbrev AlikeAt : Mode → Option Kind → List Kind → Typed → Type 0
  AlikeAt m k kinds x = IsAlike (row_types scope m kinds) k x

  abbrev ComparedArmAt : Mode → Option Kind → List Kind → TypedArm → Type 0
  ComparedArmAt m k kinds a = IsComparedArm (row_types scope m kinds) k a

  compared_arm_sound : (k : Option Kind) (a : Operand × Operand) (m : Mode) → SoundArm a → (kinds : List Kind) → Keeps From (ComparedArmAt m k) kinds (compared_arm k a m)
  compared_arm_sound k a m a_is kinds = then_keeps From (AlikeAt m k) (ComparedArmAt m k) kinds (a.0 m >>= (λ x. from_result (check_kind k x))) (λ c. a.1 m >>= (λ v. from_result (Ok (arm_typed c v))))
      (then_keeps From (At m) (AlikeAt m k) kinds (a.0 m) (λ x. from_result (check_kind k x)) (a_is.0 m kinds) (λ more x x_is. given_keeps From (AlikeAt m k) (kinds ++ more) (check_kind k x) (λ later. alike_right (row_types scope m ((kinds ++ more) ++ later)) k x (x_is later))))
      (λ more c c_is. then_keeps From (At m) (ComparedArmAt m k) (kinds ++ more) (a.1 m) (λ v. from_result (Ok (arm_typed c v))) (a_is.1 m (kinds ++ more))
      (λ more2 v v_is. given_keeps From (ComparedArmAt m k) ((kinds ++ more) ++ more2) (Ok (arm_typed c v))
      (λ later. let c_later : IsAlike (row_types scope m (((kinds ++ more) ++ more2) ++ later)) k c = later_on (AlikeAt m k) (kinds ++ more) more2 c c_is later in (c_later.0, v_is later, c_later.1))))

  compared_arms_sound : (k : Option Kind) (os : List (Operand × Operand)) (m : Mode) → AllByRecursion SoundArm os → (kinds : List Kind) → Keeps From (Each From (ComparedArmAt m k)) kinds (compared_arms k os m)
  compared_arms_sound k os m all kinds = all_keep From (ComparedArmAt m k) SoundArm (λ (a : Operand × Operand). compared_arm k a m) (λ a a_is ks. compared_arm_sound k a m a_is ks) os all kinds

  abbrev SoundElse : Option Operand → Type 0
  SoundElse None = Unit {0}
  SoundElse (Some a) = Sound a

  abbrev ElseAt : Mode → List Kind → Option Typed → Type 0
  ElseAt m kinds other = IsTypedElse (row_types scope m kinds) other

  optional_sound : (other : Option Operand) (m : Mode) → SoundElse other → (kinds : List Kind) → Keeps From (ElseAt m) kinds (optional other m)
  optional_sound None m other_is kinds = given_keeps From (ElseAt m) kinds (Ok None) (λ later. tt {0})
  optional_sound (Some a) m other_is kinds = then_keeps From (At m) (ElseAt m) kinds (a m) (λ x. from_result (Ok (Some x))) (other_is m kinds)
      (λ more x x_is. given_keeps From (ElseAt m) (kinds ++ more) (Ok (Some x)) (λ later. x_is later))

  searched_sound : (os : List (Operand × Operand)) (other : Option Operand) → AllByRecursion SoundArm os → SoundElse other → Sound (searched_case os other)
  unfolding searched_case
  searched_sound os other all other_is m kinds = then_keeps From (Each From (ArmAt m)) (At m) kinds (arms os m) (λ xs. optional other m >>= (λ y. from_result (case_of xs y))) (arms_sound os m all kinds)
      (λ more xs xs_are. then_keeps From (ElseAt m) (At m) (kinds ++ more) (optional other m) (λ y. from_result (case_of xs y)) (optional_sound other m other_is (kinds ++ more))
      (λ more2 y y_is. given_keeps From (At m) ((kinds ++ more) ++ more2) (case_of xs y)
      (λ later. case_right (row_types scope m (((kinds ++ more) ++ more2) ++ later)) xs y (later_on (Each From (ArmAt m)) (kinds ++ more) more2 xs xs_are later) (y_is later))))

  simple_sound : (a : Operand) (os : List (Operand × Operand)) (other : Option Operand) → Sound a → AllByRecursion SoundArm os → SoundElse other → Sound (simple_case a os other)
  unfolding simple_case
  simple_sound a os other a_is all other_is m kinds = then_keeps From (At m) (At m) kinds (a m) (λ x. compared_arms x.kind os m >>= (λ xs. optional other m >>= (λ y. from_result (match_of x xs y)))) (a_is m kinds)
      (λ more x x_is. then_keeps From (Each From (ComparedArmAt m x.kind)) (At m) (kinds ++ more) (compared_arms x.kind os m) (λ xs. optional other m >>= (λ y. from_result (match_of x xs y))) (compared_arms_sound x.kind os m all (kinds ++ more))
      (λ more2 xs xs_are. then_keeps From (ElseAt m) (At m) ((kinds ++ more) ++ more2) (optional other m) (λ y. from_result (match_of x xs y)) (optional_sound other m other_is ((kinds ++ more) ++ more2))
      (λ more3 y y_is. given_keeps From (At m) (((kinds ++ more) ++ more2) ++ more3) (match_of x xs y)
      (λ later. match_right (row_types scope m ((((kinds ++ more) ++ more2) ++ more3) ++ later)) x xs y
      (later_on (At m) ((kinds ++ more) ++ more2) more3 x (later_on (At m) (kinds ++ more) more2 x x_is) later)
      (later_on (Each From (ComparedArmAt m x.kind)) ((kinds ++ more) ++ more2) more3 xs xs_are later)
      (y_is later)))))

  -- ---- calls

  unknown_sound : (os : List Operand) → AllByRecursion Sound os → Sound (unknown_call os)
  unfolding unknown_call
  unknown_sound os all m kinds = then_keeps From (Each From (At m)) (At m) kinds (each os m) (λ xs. from_result (Err TypeMismatch)) (each_sound os m all kinds) (λ more xs xs_are. given_keeps From (At m) (kinds ++ more) (Err TypeMismatch) (λ later. tt {0}))

  function_sound : (f : CalledFunction) (os : List Operand) → AllByRecursion Sound os → Sound (function_call f os)
  unfolding function_call
  function_sound f os all m kinds = then_keeps From (Each From (At m)) (At m) kinds (each os m) (λ xs. from_result (apply_function f xs)) (each_sound os m all kinds)
      (λ more xs xs_are. given_keeps From (At m) (kinds ++ more) (apply_function f xs) (λ later. applied_right (row_types scope m ((kinds ++ more) ++ later)) f xs (xs_are later)))

  new_sound : (m : Mode) (a : Aggregate) (k : Kind) (kinds : List Kind) → is_aggregate_of From a k ≡ true → Keeps From (At m) kinds (new_aggregate scope m a k)
  unfolding new_aggregate
  new_sound Rows a k kinds is found are = tt {0}
  new_sound Groups a k kinds is found are =
      (a ∷ [], k ∷ [], refl, (is, tt {0}), λ later. typed_right (row_types scope Groups ((kinds ++ (k ∷ [])) ++ later)) (expr.Column (length scope.keys + length found)) k (aggregate_there scope found kinds k later are))

  abbrev OperandAt : Function → List Kind → Typed → Type 0
  OperandAt f kinds x = IsOperandOf From f x

  aggregate_sound : (m : Mode) (f : Function) (xs : List Typed) (kinds : List Kind) → AllByRecursion (IsTyped From) xs → Keeps From (At m) kinds (aggregate scope m f xs)
  unfolding aggregate
  aggregate_sound m f xs kinds all = then_keeps From (OperandAt f) (At m) kinds (from_result (operand_of f xs)) (λ x. new_aggregate scope m (Of f x.expr) (aggregate_kind f x.kind))
      (given_keeps From (OperandAt f) kinds (operand_of f xs) (λ later. operand_right From f xs all))
      (λ more x x_is. new_sound m (Of f x.expr) (aggregate_kind f x.kind) (kinds ++ more) (x_is []))

  aggregate_call_sound : (f : Function) (os : List Operand) → AllByRecursion Sound os → Sound (aggregate_call scope f os)
  unfolding aggregate_call
  aggregate_call_sound f os all m kinds = then_keeps From (Each From (At Rows)) (At m) kinds (each os Rows) (aggregate scope m f) (each_sound os Rows all kinds) (λ more xs xs_are. aggregate_sound m f xs (kinds ++ more) (xs_are []))

  call_sound : (f : Option CalledFunction) (os : List Operand) → AllByRecursion Sound os → Sound (call scope f os)
  call_sound None os all = unknown_sound os all
  call_sound (Some (called.Aggregate f)) os all = aggregate_call_sound f os all
  call_sound (Some called.Divide) os all = function_sound called.Divide os all
  call_sound (Some called.Modulo) os all = function_sound called.Modulo os all
  call_sound (Some called.Length) os all = function_sound called.Length os all
  call_sound (Some called.StartsWith) os all = function_sound called.StartsWith os all
  call_sound (Some called.If) os all = function_sound called.If os all
  call_sound (Some called.IfNull) os all = function_sound called.IfNull os all
  call_sound (Some called.Coalesce) os all = function_sound called.Coalesce os all

  refused_sound : Sound (λ m. from_result (Err TypeMismatch))
  refused_sound m kinds = given_keeps From (At m) kinds (Err TypeMismatch) (λ later. tt {0})

  star_sound : (f : Option CalledFunction) → Sound (call_star scope f)
  unfolding call_star
  star_sound None m kinds = refused_sound m kinds
  star_sound (Some (called.Aggregate Count)) m kinds = new_sound m CountRows kind.Int kinds refl
  star_sound (Some (called.Aggregate Sum)) m kinds = refused_sound m kinds
  star_sound (Some (called.Aggregate Min)) m kinds = refused_sound m kinds
  star_sound (Some (called.Aggregate Max)) m kinds = refused_sound m kinds
  star_sound (Some called.Divide) m kinds = refused_sound m kinds
  star_sound (Some called.Modulo) m kinds = refused_sound m kinds
  star_sound (Some called.Length) m kinds = refused_sound m kinds
  star_sound (Some called.StartsWith) m kinds = refused_sound m kinds
  star_sound (Some called.If) m kinds = refused_sound m kinds
  star_sound (Some called.IfNull) m kinds = refused_sound m kinds
  star_sound (Some called.Coalesce) m kinds = refused_sound m kinds

  given_sound : (r : Result Typed Refusal) → ((types : List Kind) → Made (IsTyped types) r) → Sound (λ m. from_result r)
  given_sound r right m kinds = given_keeps From (At m) kinds r (λ later. right (row_types scope m (kinds ++ later)))

  column_sound : (c : Column) → Sound (λ m. from_result (column scope m c))
  column_sound c m kinds = given_keeps From (At m) kinds (column scope m c) (λ later. column_right scope m (kinds ++ later) c)

  -- ---- trees

  module _ (params : List Parameter) (are : AreTyped params) where
    abbrev arm_fold : Arm → Operand × Operand
    arm_fold = fold-Arm Operand (Operand × Operand) (Operator × Operand) (at_operands scope params) arm_at link_at

    abbrev link_fold : Link → Operator × Operand
    link_fold = fold-Link Operand (Operand × Operand) (Operator × Operand) (at_operands scope params) arm_at link_at

    abbrev TreeSound : Expr → Type 0
    TreeSound e = Sound (typing scope params e)

    abbrev ArmSound : Arm → Type 0
    ArmSound a = SoundArm (arm_fold a)

    abbrev LinkSound : Link → Type 0
    LinkSound l = SoundLink (link_fold l)

    -- a part of a tree, with what is known of it
    abbrev WitnessTree : Type 0
    WitnessTree = (e : Expr) × TreeSound e

    abbrev WitnessArm : Type 0
    WitnessArm = (a : Arm) × ArmSound a

    abbrev WitnessLink : Type 0
    WitnessLink = (l : Link) × LinkSound l

    abbrev tree_of : WitnessTree → Expr
    tree_of e = e.0

    abbrev arm_of : WitnessArm → Arm
    arm_of a = a.0

    abbrev link_of : WitnessLink → Link
    link_of l = l.0

    trees_sound : (es : List WitnessTree) → AllByRecursion Sound (map (typing scope params) (map tree_of es))
    trees_sound [] = tt {0}
    trees_sound (e ∷ es) = (e.1, trees_sound es)

    tree_arms_sound : (os : List WitnessArm) → AllByRecursion SoundArm (map arm_fold (map arm_of os))
    tree_arms_sound [] = tt {0}
    tree_arms_sound (a ∷ os) = (a.1, tree_arms_sound os)

    tree_links_sound : (ls : List WitnessLink) → AllByRecursion SoundLink (map link_fold (map link_of ls))
    tree_links_sound [] = tt {0}
    tree_links_sound (l ∷ ls) = (l.1, tree_links_sound ls)

    abbrev layer : Expr-F WitnessTree WitnessArm WitnessLink → Expr-F Operand (Operand × Operand) (Operator × Operand)
    layer y = map-Expr Expr Arm Link Operand (Operand × Operand) (Operator × Operand) (typing scope params) arm_fold link_fold (map-Expr WitnessTree WitnessArm WitnessLink Expr Arm Link tree_of arm_of link_of y)

    layer_sound : (y : Expr-F WitnessTree WitnessArm WitnessLink) → Sound (at_operands scope params (layer y))
    layer_sound (Expr-F.Integer n) = given_sound (Ok (integer n)) (λ types. integer_right types n)
    layer_sound (Expr-F.Str s) = given_sound (Ok (string s.text)) (λ types. string_right types s.text)
    layer_sound (Expr-F.Bytes s) = given_sound (Ok (bytes s.text)) (λ types. bytes_right types s.text)
    layer_sound (Expr-F.Truth b place) = given_sound (Ok (truth b)) (λ types. truth_right types b)
    layer_sound (Expr-F.Null place) = given_sound (Ok null) null_right
    layer_sound (Expr-F.Parameter p) = given_sound (parameter params p.text) (λ types. parameter_right types params p.text are)
    layer_sound (Expr-F.Column c) = column_sound c
    layer_sound (Expr-F.CallStar name) = star_sound (function_named name.text)
    layer_sound (Expr-F.Call name os) = call_sound (function_named name.text) (map (typing scope params) (map tree_of os)) (trees_sound os)
    layer_sound (Expr-F.Case None os None) = searched_sound (map arm_fold (map arm_of os)) None (tree_arms_sound os) (tt {0})
    layer_sound (Expr-F.Case None os (Some b)) = searched_sound (map arm_fold (map arm_of os)) (Some (typing scope params b.0)) (tree_arms_sound os) b.1
    layer_sound (Expr-F.Case (Some a) os None) = simple_sound (typing scope params a.0) (map arm_fold (map arm_of os)) None a.1 (tree_arms_sound os) (tt {0})
    layer_sound (Expr-F.Case (Some a) os (Some b)) = simple_sound (typing scope params a.0) (map arm_fold (map arm_of os)) (Some (typing scope params b.0)) a.1 (tree_arms_sound os) b.1
    layer_sound (Expr-F.Negative a) = of_one_sound unary_minus (typing scope params a.0) negative_right a.1
    layer_sound (Expr-F.Chain a ls) = chain_sound (typing scope params a.0) (map link_fold (map link_of ls)) a.1 (tree_links_sound ls)
    layer_sound (Expr-F.Compare a c b) = of_two_sound (comparison_test c) (typing scope params a.0) (typing scope params b.0) (λ types. compared_right types c) a.1 b.1
    layer_sound (Expr-F.IsNull a) = of_one_sound (λ x. Ok (null_test x)) (typing scope params a.0) null_test_right a.1
    layer_sound (Expr-F.Like a pattern) = of_one_sound (like_test pattern.text) (typing scope params a.0) (λ types. liked_right types pattern.text) a.1
    layer_sound (Expr-F.Between a low high) = of_three_sound between (typing scope params a.0) (typing scope params low.0) (typing scope params high.0) between_right a.1 low.1 high.1
    layer_sound (Expr-F.In a os) = membership_sound (typing scope params a.0) (map (typing scope params) (map tree_of os)) a.1 (trees_sound os)
    layer_sound (Expr-F.Not a) = of_one_sound logical_not (typing scope params a.0) denied_right a.1
    layer_sound (Expr-F.And a os) = junction_sound all_true (typing scope params a.0) (map (typing scope params) (map tree_of os)) all_true_right a.1 (trees_sound os)
    layer_sound (Expr-F.Or a os) = junction_sound some_true (typing scope params a.0) (map (typing scope params) (map tree_of os)) some_true_right a.1 (trees_sound os)

    pub sound : (e : Expr) → TreeSound e
    sound = ind-Expr TreeSound ArmSound LinkSound
        (λ x y is. subst (λ (z : Expr-F Expr Arm Link). TreeSound (roll-Expr z)) is
        (subst Sound (sym (fold-roll-Expr Operand (Operand × Operand) (Operator × Operand) (at_operands scope params) arm_at link_at (map-Expr WitnessTree WitnessArm WitnessLink Expr Arm Link tree_of arm_of link_of y))) (layer_sound y)))
        (λ x y is. subst (λ (z : Arm-F Expr Arm Link). ArmSound (roll-Arm z)) is
        (subst SoundArm (sym (fold-roll-Arm Operand (Operand × Operand) (Operator × Operand) (at_operands scope params) arm_at link_at (map-Arm WitnessTree WitnessArm WitnessLink Expr Arm Link tree_of arm_of link_of y))) (y.condition.1, y.value.1)))
        (λ x y is. subst (λ (z : Link-F Expr Arm Link). LinkSound (roll-Link z)) is
        (subst SoundLink (sym (fold-roll-Link Operand (Operand × Operand) (Operator × Operand) (at_operands scope params) arm_at link_at (map-Link WitnessTree WitnessArm WitnessLink Expr Arm Link tree_of arm_of link_of y))) y.operand.1))

pub types_are_right : TypesAreRight
types_are_right scope params tree m found after kinds x params_are are is =
    subst (Leads (column_types scope) (λ ks y. IsTyped (row_types scope m ks) y) found kinds) is (sound scope params params_are tree m kinds found are)
