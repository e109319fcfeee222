-- The names of functions.
use Rattle.std.specs.Prelude.{ℕ, codes, List, [], ◌∷◌, find, Option}
use Rattle.span_schema.specs.Tables.{is_same_name}
use Rattle.span_query.specs.declared.query.Function.{Function}
use Rattle.span_query.specs.declared.query.Function.TheVariants.{Count, Sum, Min, Max}
use Rattle.span_operators.specs.declared.function.CalledFunction.{CalledFunction}
use Rattle.span_operators.specs.declared.function.CalledFunction.TheVariants as called

abbrev pub aggregate_name : Function → List ℕ
aggregate_name Count = codes "COUNT"
aggregate_name Sum = codes "SUM"
aggregate_name Min = codes "MIN"
aggregate_name Max = codes "MAX"

abbrev pub name_of : CalledFunction → List ℕ
name_of (called.Aggregate f) = aggregate_name f
name_of called.Divide = codes "DIV"
name_of called.Modulo = codes "MOD"
name_of called.Length = codes "LENGTH"
name_of called.StartsWith = codes "STARTS_WITH"
name_of called.If = codes "IF"
name_of called.IfNull = codes "IFNULL"
name_of called.Coalesce = codes "COALESCE"

abbrev pub functions : List CalledFunction
functions =
    called.Aggregate Count ∷ called.Aggregate Sum ∷ called.Aggregate Min ∷ called.Aggregate Max ∷ called.Divide
    ∷ called.Modulo ∷ called.Length ∷ called.StartsWith ∷ called.If ∷ called.IfNull ∷ called.Coalesce ∷ []

abbrev pub first_named : List ℕ → List CalledFunction → Option CalledFunction
first_named name fs = find (λ (f : CalledFunction). is_same_name (name_of f) name) fs

-- the one with a name, in letters of either case
unfoldable pub function_named : List ℕ → Option CalledFunction
function_named name = first_named name functions
