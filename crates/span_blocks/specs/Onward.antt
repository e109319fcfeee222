-- Along a list, from what was found before to what is found then; the first refusal ends it.
use Rattle.std.specs.Prelude.{List, [], ◌∷◌, ◌++◌, Result, Ok}
use Rattle.span_value.specs.declared.refusal.Refusal.{Refusal}
use Rattle.span_value.specs.Results.{and_then}

abbrev pub fold_results : {A X : Type 0} → (A → X → Result A Refusal) → List X → A → Result A Refusal
fold_results step [] found = Ok found
fold_results step (x ∷ xs) found = and_then (step found x) (fold_results step xs)

-- what each gives, after the others
abbrev pub append_result : {A X : Type 0} → (X → Result A Refusal) → List A → X → Result (List A) Refusal
append_result f found x = and_then (f x) (λ a. Ok (found ++ (a ∷ [])))

abbrev pub each_of : {A X : Type 0} → (X → Result A Refusal) → List X → Result (List A) Refusal
each_of f xs = fold_results (append_result f) xs []
