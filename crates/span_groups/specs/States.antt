-- What holds of a state of an aggregate after the rows that it has taken.
use Rattle.std.specs.Prelude.{◌≡◌, ℕ, ◌+◌, ◌<◌, ◌^◌, List, [], ◌∷◌, ◌++◌, length, take, drop, slice_get, Option, Some, None}
use Rattle.std.specs.List.{fold}
use Rattle.span_value.specs.declared.value.Value.{Value}
use Rattle.span_value.specs.declared.value.Value.TheVariants.{Null}
use Rattle.span_expr.specs.declared.expr.Expr.{Expr}
use Rattle.span_expr.specs.Meaning.{val}
use Rattle.span_query.specs.declared.query.Aggregate.{Aggregate}
use Rattle.span_query.specs.declared.query.Aggregate.TheVariants.{CountRows, Of}
use Rattle.span_query.specs.declared.query.Function.{Function}
use Rattle.span_query.specs.declared.query.Function.TheVariants.{Count, Sum, Min, Max}
use Rattle.span_query.specs.Rows.{Row, OrFault, value_of}
use Rattle.span_query.specs.Groups.{lesser, greater, total, operands, without_nulls}
use Rattle.span_groups.specs.declared.aggregate.AggregateState.{AggregateState}
use Rattle.span_groups.specs.declared.aggregate.AggregateState.TheVariants as state

-- the number of values that it has counted
abbrev pub count_of : AggregateState → ℕ
count_of (state.Count n) = n
count_of (state.Sum s) = s.values
count_of s = 0

-- the best of the values, where there is one
abbrev pub best : (Value → Value → Value) → List Value → Option Value
best better [] = None
best better (v ∷ vs) = Some (fold better v vs)

-- the best so far, or the value after it where that is better
abbrev pub or_better : (Value → Value → Value) → Option Value → Value → Value
or_better better None v = v
or_better better (Some w) v = better w v

-- the better of two, where there are two
abbrev pub better_of : (Value → Value → Value) → Option Value → Option Value → Option Value
better_of better o None = o
better_of better o (Some v) = Some (or_better better o v)

abbrev pub or_null : Option Value → Value
or_null None = Null
or_null (Some v) = v

-- the state of a count that has come to this number
abbrev pub HasCounted : ℕ → AggregateState → Type 0
HasCounted n (state.Count m) = m ≡ n
HasCounted n s = ⊥

-- the state of a function that has taken these values, none of which is NULL
abbrev pub HasTaken : Function → List Value → AggregateState → Type 0
HasTaken Count vs s = HasCounted (length vs) s
HasTaken Sum vs (state.Sum s) = (s.values ≡ length vs) × (s.total ≡ total vs)
HasTaken Min vs (state.Least v) = v ≡ best lesser vs
HasTaken Max vs (state.Greatest v) = v ≡ best greater vs
HasTaken f vs s = ⊥

-- the state after one more value, which is passed over where it is NULL
abbrev pub TakesValue : Value → AggregateState → AggregateState → Type 0
TakesValue v old new = (f : Function) (vs : List Value) → HasTaken f vs old → HasTaken f (vs ++ without_nulls (v ∷ [])) new

-- the state after the value of an operand at one more row
abbrev pub TakesOperand : Row → Expr → AggregateState → AggregateState → Type 0
TakesOperand row e old new = (v : Value) × (value_of (val row e) ≡ Some v) × TakesValue v old new

-- the state of an aggregate that has taken these rows
abbrev pub IsStateOf : Aggregate → List Row → AggregateState → Type 0
IsStateOf CountRows rows s = HasCounted (length rows) s
IsStateOf (Of f e) rows s = (vs : List Value) × (operands e rows ≡ Some vs) × HasTaken f (without_nulls vs) s

-- what an aggregate takes of a row
abbrev pub operand_at : Row → Aggregate → OrFault Value
operand_at row CountRows = Some Null
operand_at row (Of f e) = value_of (val row e)

-- the states of aggregates that have taken these rows
pub record AreStatesOf (aggregates : List Aggregate) (rows : List Row) (states : List AggregateState) : Type 0 where
  pub long : length states ≡ length aggregates
  pub each : (k : ℕ) (a : Aggregate) (s : AggregateState) → slice_get aggregates k ≡ Some a
      → slice_get states k ≡ Some s
      → IsStateOf a rows s

-- the number of rows taken is so small that one more can be counted
pub record CanCountOne (aggregates : List Aggregate) (states : List AggregateState) : Type 0 where
  pub rows : List Row
  pub are : AreStatesOf aggregates rows states
  pub few : length rows + 1 < 2 ^ 64

-- the states of one more group, of no rows, after the others
pub record AreAdded (aggregates : List Aggregate) (old new : List AggregateState) : Type 0 where
  pub before : take (length old) new ≡ old
  pub fresh : AreStatesOf aggregates [] (drop (length old) new)
