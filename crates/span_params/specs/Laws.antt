-- What adding a parameter means for those that are found by their names.
use Rattle.std.specs.Prelude.{◌≡◌, ℕ, List, [], ◌∷◌, Some, None, if◌then◌else◌}
use Rattle.span_schema.specs.Tables.{is_same_name}
use Rattle.span_params.specs.declared.params.Parameter.{Parameter}
use Rattle.span_params.specs.Parameters.{parameter_named, with_parameter}

-- by its name, in any case of its letters, the added one is found; by each other name, what was found before
abbrev pub AddedIsFound : Type 0
AddedIsFound =
    (p : Parameter) (ps : List Parameter) (name : List ℕ)
    → parameter_named (with_parameter p ps) name
    ≡ (if is_same_name p.name name then Some p else parameter_named ps name)

-- no two have one name
abbrev pub AreDistinct : List Parameter → Type 0
AreDistinct [] = Unit {0}
AreDistinct (p ∷ ps) = (parameter_named ps p.name ≡ None) × AreDistinct ps

abbrev pub StayDistinct : Type 0
StayDistinct = (p : Parameter) (ps : List Parameter) → AreDistinct ps → AreDistinct (with_parameter p ps)
