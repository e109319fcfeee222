-- The leaves of an open query beside their pieces.
use Rattle.std.specs.Prelude.{◌≡◌, ℕ, Bool, ◌&&◌, not, List, length, map}
use Rattle.std.specs.List.{AllByRecursion}
use Rattle.span_keycode.specs.declared.range.KeyRange.{KeyRange}
use Rattle.span_keycode.specs.Parts.{AreApart, is_nonempty, is_covered_in_part}
use Rattle.span_fragment.specs.declared.piece.Piece.{Piece}
use Rattle.span_machine.specs.declared.query.ScanLeaf.{ScanLeaf}

-- how many pieces cover a leaf
abbrev pub count_covered : ScanLeaf → ℕ
count_covered l = length l.covered

abbrev pub count_pieces : List Piece → ℕ
count_pieces ps = length ps

-- each leaf has as many pieces as cover it
abbrev pub AreCounted : List ScanLeaf → List (List Piece) → Type 0
AreCounted leaves pieces = map count_pieces pieces ≡ map count_covered leaves

-- the pieces of each leaf are in order, and no two have keys in common
abbrev pub AreAllApart : List ScanLeaf → Type 0
AreAllApart leaves = AllByRecursion (λ (l : ScanLeaf). AreApart l.covered) leaves

-- the range has keys, and no piece of the leaf covers any of it
abbrev pub is_uncovered : ScanLeaf → KeyRange → Bool
is_uncovered l range = is_nonempty range && not (is_covered_in_part l.covered range)
