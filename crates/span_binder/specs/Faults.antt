-- What a tree and a text are refused for, by the numbers of the refusals.
use Rattle.std.specs.Prelude.{ℕ, ◌≤◌, ◌⊎◌}
use Rattle.span_value.specs.declared.refusal.Refusal.{Refusal}
use Rattle.span_value.specs.Refusals.{number_of}

abbrev pub IsNumbered : ℕ → ℕ → Refusal → Type 0
IsNumbered least most why = (least ≤ number_of why) × (number_of why ≤ most)

-- of a text: too long, no token, not in the grammar, too deep
abbrev pub IsTextFault : Refusal → Type 0
IsTextFault why = IsNumbered 1 4 why

-- of a tree: its names, its types, and what is grouped
abbrev pub IsTreeFault : Refusal → Type 0
IsTreeFault why = IsNumbered 10 20 why

abbrev pub IsQueryFault : Refusal → Type 0
IsQueryFault why = IsTextFault why ⊎ IsTreeFault why
