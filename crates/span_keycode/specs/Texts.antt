-- Reading an escaped text.
use Rattle.std.specs.Prelude.{◌≡◌, ℕ, zero, suc, ◌<◌, ◌≤◌, List, [], ◌∷◌, ◌++◌, Bool, length, cond, eqb, Option, Some, None, drop}
use Rattle.span_keycode.specs.Coding.{in_direction}
use Rattle.span_keycode.specs.declared.text.LevelStep.{LevelStep}
use Rattle.span_keycode.specs.declared.text.LevelStep.TheVariants.{Byte, End, Bad}

abbrev pub with_first : ℕ → Option (List ℕ × List ℕ) → Option (List ℕ × List ℕ)
with_first b None = None
with_first b (Some r) = Some (b ∷ r.0, r.1)

-- the escaped text in front, if there is one, and the rest
abbrev pub text_at : List ℕ → Option (List ℕ × List ℕ)
text_at [] = None
text_at (suc b ∷ bs) = with_first (suc b) (text_at bs)
text_at (zero ∷ []) = None
text_at (zero ∷ (c ∷ bs)) = cond (eqb c 1) (Some ([], bs)) (cond (eqb c 255) (with_first 0 (text_at bs)) None)

-- what one look at the front of an escaped text says
abbrev pub AtStep : Bool → List ℕ → LevelStep → Type 0
AtStep d rest (Byte b n) =
    (text_at (in_direction d rest) ≡ with_first b (text_at (in_direction d (drop n rest))))
    × (0 < n) × (n ≤ length rest)
AtStep d rest End = (text_at (in_direction d rest) ≡ Some ([], in_direction d (drop 2 rest))) × (2 ≤ length rest)
AtStep d rest Bad = text_at (in_direction d rest) ≡ None

abbrev pub prepend : List ℕ → Option (List ℕ × List ℕ) → Option (List ℕ × List ℕ)
prepend front None = None
prepend front (Some r) = Some (front ++ r.0, r.1)
