-- Steps along a query: each may be refused, and adds to what was found on the way.
use Rattle.std.specs.Prelude.{◌≡◌, ◌≢◌, List, [], ◌∷◌, ◌++◌, Result, Ok, Err}
use Rattle.std.specs.List.{fold}
use Rattle.span_value.specs.Results.{and_then}
use Rattle.span_value.specs.declared.refusal.Refusal.{Refusal}
use Rattle.span_value.specs.declared.refusal.Refusal.TheVariants as refusal

-- from what was found so far to what is found then
abbrev pub TypingStep : Type 0 → Type 0 → Type 0
TypingStep S A = S → Result (A × S) Refusal

abbrev pub pure : {S A : Type 0} → A → TypingStep S A
pure x found = Ok (x, found)

abbrev pub from_result : {S A : Type 0} → Result A Refusal → TypingStep S A
from_result r found = and_then r (λ x. Ok (x, found))

infixl 10 ◌>>=◌
abbrev pub ◌>>=◌ : {S A B : Type 0} → TypingStep S A → (A → TypingStep S B) → TypingStep S B
(step >>= next) found = and_then (step found) (λ p. next p.0 p.1)

-- the step of one more item, after the others
abbrev pub next_of : {S X A : Type 0} → (A → X → TypingStep S A) → Result (A × S) Refusal → X → Result (A × S) Refusal
next_of step so_far x = and_then so_far (λ p. step p.0 x p.1)

-- the steps of the items one after another, each from what the others made
abbrev pub fold_steps : {S X A : Type 0} → (A → X → TypingStep S A) → A → List X → TypingStep S A
fold_steps step a xs found = fold (next_of step) (Ok (a, found)) xs

-- one more in a list
abbrev pub append_step : {S X A : Type 0} → (X → TypingStep S A) → List A → X → TypingStep S (List A)
append_step step os x = step x >>= (λ a. pure (os ++ (a ∷ [])))

-- what the steps of the items give, one after another
abbrev pub all_of : {S X A : Type 0} → (X → TypingStep S A) → List X → TypingStep S (List A)
all_of step xs = fold_steps (append_step step) [] xs

-- ---- what a function answered, unless memory ran out

abbrev pub Gives : {A : Type 0} → Result A Refusal → Result A Refusal → Type 0
Gives (Ok x) o = o ≡ Ok x
Gives (Err why) o = why ≢ refusal.OutOfMemory → o ≡ Err why

-- the same of a step, after which this is found
abbrev pub Leaves : {S A : Type 0} → Result A Refusal → S → Result (A × S) Refusal → Type 0
Leaves (Ok x) found o = o ≡ Ok (x, found)
Leaves (Err why) found o = why ≢ refusal.OutOfMemory → o ≡ Err why
