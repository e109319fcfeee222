-- Steps that may be refused, and the first cause of a refusal.
use Rattle.std.specs.Prelude.{Bool, List, [], ◌∷◌, Option, Some, None, Result, Ok, Err, if◌then◌else◌}
use Rattle.span_value.specs.declared.refusal.Refusal.{Refusal}

-- the next step at the value; a refusal stays a refusal
abbrev pub and_then : {A B : Type 0} → Result A Refusal → (A → Result B Refusal) → Result B Refusal
and_then (Ok x) next = next x
and_then (Err why) next = Err why

-- the first of these causes that holds
abbrev pub first_cause : List (Bool × Refusal) → Option Refusal
first_cause [] = None
first_cause (c ∷ cs) = (if c.0 then Some c.1 else first_cause cs)
