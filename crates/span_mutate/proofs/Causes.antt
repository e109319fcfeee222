-- What is so where no cause refuses.
use Rattle.std.proofs.Common.{◌≡◌, Bool, true, false, List, ◌∷◌, Option, Some, None, Ok, refl}
use Rattle.std.specs.Option.{option_or}
use Rattle.span_value.specs.declared.refusal.Refusal.{Refusal}
use Rattle.span_value.specs.Results.{first_cause}
use Rattle.span_mutate.specs.Database.{unless}

pub first_none : (b : Bool) (w : Refusal) (rest : List (Bool × Refusal)) → first_cause ((b, w) ∷ rest) ≡ None → b ≡ false
first_none true w rest e = absurd cc
first_none false w rest e = refl

pub or_none : (a b : Option Refusal) → option_or a b ≡ None → a ≡ None
or_none None b e = refl
or_none (Some w) b e = absurd cc

pub rest_none : (b : Bool) (w : Refusal) (rest : List (Bool × Refusal)) → first_cause ((b, w) ∷ rest) ≡ None → first_cause rest ≡ None
rest_none true w rest e = absurd cc
rest_none false w rest e = e

pub unless_none : {A : Type 0} (w : Option Refusal) (x y : A) → unless w x ≡ Ok y → (w ≡ None) × (x ≡ y)
unless_none None x y e = (refl, cc)
unless_none (Some why) x y e = absurd cc
