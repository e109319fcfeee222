-- Rows of the columns that a mask has.
use Rattle.std.specs.Prelude.{ℕ, suc, Bool, true, false, List, [], ◌∷◌, map}
use Rattle.std.specs.Option.{option_map}
use Rattle.span_value.specs.declared.value.Value.{Value}
use Rattle.span_query.specs.Rows.{Rows}

-- the values of a row at the places that the mask has
abbrev pub picked : List Bool → List Value → List Value
picked [] vs = []
picked (m ∷ ms) [] = []
picked (true ∷ ms) (v ∷ vs) = v ∷ picked ms vs
picked (false ∷ ms) (v ∷ vs) = picked ms vs

-- how many places a mask has
abbrev pub picked_width : List Bool → ℕ
picked_width [] = 0
picked_width (true ∷ ms) = suc (picked_width ms)
picked_width (false ∷ ms) = picked_width ms

-- a mask at the places alone that another has
abbrev pub mask_among : List Bool → List Bool → List Bool
mask_among [] ms = []
mask_among (w ∷ ws) [] = []
mask_among (true ∷ ws) (m ∷ ms) = m ∷ mask_among ws ms
mask_among (false ∷ ws) (m ∷ ms) = mask_among ws ms

-- rows, each with its values at the places that the mask has, or the fault
abbrev pub pick_rows : List Bool → Rows → Rows
pick_rows ms = option_map (map (picked ms))
