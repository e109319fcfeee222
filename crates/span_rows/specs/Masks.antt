-- The values of a row where a mask is TRUE.
use Rattle.std.specs.Prelude.{Bool, true, false, List, [], ◌∷◌}
use Rattle.span_value.specs.declared.value.Value.{Value}

-- after the end of the mask there is none
abbrev pub values_where : List Bool → List Value → List Value
values_where [] vs = []
values_where (m ∷ ms) [] = []
values_where (true ∷ ms) (v ∷ vs) = v ∷ values_where ms vs
values_where (false ∷ ms) (v ∷ vs) = values_where ms vs
