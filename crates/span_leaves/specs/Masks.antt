-- Rows with NULL in place of the values of columns that a mask leaves out.
use Rattle.std.specs.Prelude.{Bool, true, false, List, [], ◌∷◌}
use Rattle.span_value.specs.declared.value.Value.{Value}
use Rattle.span_value.specs.declared.value.Value.TheVariants.{Null}

-- a row with NULL at the places that the mask does not have
abbrev pub masked : List Bool → List Value → List Value
masked ms [] = []
masked [] (v ∷ vs) = Null ∷ masked [] vs
masked (true ∷ ms) (v ∷ vs) = v ∷ masked ms vs
masked (false ∷ ms) (v ∷ vs) = Null ∷ masked ms vs
