-- Parameters, by their names.
use Rattle.std.specs.Prelude.{ℕ, List, [], ◌∷◌, find, position, Option, if◌then◌else◌}
use Rattle.span_schema.specs.Tables.{is_same_name}
use Rattle.span_params.specs.declared.params.Parameter.{Parameter}

-- the parameter with a name
abbrev pub parameter_named : List Parameter → List ℕ → Option Parameter
parameter_named params name = find (λ (p : Parameter). is_same_name p.name name) params

-- its place
abbrev pub place_of : List Parameter → List ℕ → Option ℕ
place_of params name = position (λ (p : Parameter). is_same_name p.name name) params

-- with one more; it takes the place of one with its name
abbrev pub with_parameter : Parameter → List Parameter → List Parameter
with_parameter p [] = p ∷ []
with_parameter p (q ∷ qs) = if is_same_name q.name p.name then p ∷ qs else q ∷ with_parameter p qs
