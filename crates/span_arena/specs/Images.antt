-- How a node keeps an image.
use Rattle.std.specs.Prelude.{ℕ, List, Option, Some, None, Bool, true, false}

-- an image, if there is one
abbrev pub image_of : Bool → List ℕ → Option (List ℕ)
image_of false bytes = None
image_of true bytes = Some bytes
