-- Lists, or the fault: what it is to make a list of what each item of another gives.
use Rattle.std.specs.Prelude.{Bool, true, false, List, [], ◌∷◌, ◌++◌, Option, Some, None}
use Rattle.std.specs.Option.{option_map}
use Rattle.span_value.specs.declared.value.Value.{Value}
use Rattle.span_value.specs.declared.value.Value.TheVariants as value
use Rattle.span_value.specs.declared.truth.Outcome.{Outcome}
use Rattle.span_value.specs.declared.truth.Outcome.TheVariants.{Val, Fault}
use Rattle.span_expr.specs.declared.expr.Expr.{Expr}
use Rattle.span_expr.specs.Meaning.{val}

abbrev pub Row : Type 0
Row = List Value

-- something, or the fault, which None represents
abbrev pub OrFault : Type 0 → Type 0
OrFault A = Option A

-- the next step at it; a fault stays a fault
abbrev pub unless_fault : {A B : Type 0} → OrFault A → (A → OrFault B) → OrFault B
unless_fault (Some x) next = next x
unless_fault None next = None

-- the same, as an operator
infixl 10 ◌>>=◌
abbrev pub ◌>>=◌ : {A B : Type 0} → OrFault A → (A → OrFault B) → OrFault B
found >>= next = unless_fault found next

abbrev pub Rows : Type 0
Rows = OrFault (List Row)

abbrev pub value_of : Outcome → OrFault Value
value_of (Val v) = Some v
value_of Fault = None

abbrev pub is_true : Value → Bool
is_true (value.Bool b) = b
is_true v = false

-- ---- lists

-- both lists, or the fault where either is one
abbrev pub append_results : {A : Type 0} → OrFault (List A) → OrFault (List A) → OrFault (List A)
append_results a b = a >>= (λ xs. b >>= (λ ys. Some (xs ++ ys)))

-- the lists that each gives, in order
abbrev pub concat_map : {A B : Type 0} → (A → OrFault (List B)) → List A → OrFault (List B)
concat_map f [] = Some []
concat_map f (x ∷ xs) = append_results (f x) (concat_map f xs)

abbrev pub singleton : {A : Type 0} → A → List A
singleton x = x ∷ []

-- the lists one after another
abbrev pub joined : {A : Type 0} → List (List A) → List A
joined [] = []
joined (xs ∷ rest) = xs ++ joined rest

-- what each gives, in order
abbrev pub each : {A B : Type 0} → (A → OrFault B) → List A → OrFault (List B)
each f xs = concat_map (λ x. option_map singleton (f x)) xs

abbrev pub keep_if : {A : Type 0} → A → Bool → List A
keep_if x true = x ∷ []
keep_if x false = []

-- ---- conditions

-- whether the condition is TRUE at a row
abbrev pub holds : Expr → Row → OrFault Bool
holds e row = value_of (val row e) >>= (λ v. Some (is_true v))

-- the rows at which the condition is TRUE; it is evaluated at each
abbrev pub filter_rows : Expr → List Row → Rows
filter_rows e rows = concat_map (λ row. holds e row >>= (λ b. Some (keep_if row b))) rows

-- the same, where there may be no condition
abbrev pub filter_where : Option Expr → List Row → Rows
filter_where None rows = Some rows
filter_where (Some e) rows = filter_rows e rows

-- ---- the select list

abbrev pub values : List Expr → Row → OrFault Row
values es row = each (λ e. value_of (val row e)) es

-- the select list at each row
abbrev pub project_rows : List Expr → List Row → Rows
project_rows es rows = each (values es) rows
