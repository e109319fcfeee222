-- Parts of ranges of coded keys: what no piece covers, and when pieces tile a range.
--
-- Pieces of a range are listed in the order of their low ends.
use Rattle.std.specs.Prelude.{◌≡◌, ℕ, ◌+◌, Bool, true, false, not, ◌&&◌, List, [], ◌∷◌, Option, Some, None, if◌then◌else◌}
use Rattle.std.specs.List.{AllByRecursion, list_any}
use Rattle.std.specs.Ordering.{is_lt}
use Rattle.std.specs.Str.{bytes_eq}
use Rattle.span_keycode.specs.Order.{byte_order}
use Rattle.span_keycode.specs.declared.range.KeyRange.{KeyRange}

-- ---- keys and ranges

-- the key is from the low end of the range on, and before the high end
abbrev pub is_within : KeyRange → List ℕ → Bool
is_within range key = not (is_lt (byte_order key range.low)) && is_lt (byte_order key range.high)

-- keys may be within the range: its low end is before its high end
abbrev pub is_nonempty : KeyRange → Bool
is_nonempty range = is_lt (byte_order range.low range.high)

-- the keys of a family: all that begin with the number of its root table
abbrev pub family : ℕ → KeyRange
family root = record { low = root ∷ []; high = (root + 1) ∷ [] }

-- the later of two keys, and the earlier
abbrev pub later : List ℕ → List ℕ → List ℕ
later a b = if is_lt (byte_order a b) then b else a

abbrev pub earlier : List ℕ → List ℕ → List ℕ
earlier a b = if is_lt (byte_order b a) then b else a

-- the later of a key and a low end, and the earlier of a key and a high end; None is an end that no key is outside of
abbrev pub later_of : Option (List ℕ) → List ℕ → List ℕ
later_of None key = key
later_of (Some lo) key = later lo key

abbrev pub earlier_of : Option (List ℕ) → List ℕ → List ℕ
earlier_of None key = key
earlier_of (Some hi) key = earlier hi key

-- the part of a range from lo on and before hi
abbrev pub part_between : Option (List ℕ) → Option (List ℕ) → KeyRange → KeyRange
part_between lo hi range = record { low = later_of lo range.low; high = earlier_of hi range.high }

-- the key is not before the low end
abbrev pub is_from : Option (List ℕ) → List ℕ → Bool
is_from None key = true
is_from (Some low) key = not (is_lt (byte_order key low))

-- the key is before the high end
abbrev pub is_upto : Option (List ℕ) → List ℕ → Bool
is_upto None key = true
is_upto (Some high) key = is_lt (byte_order key high)

-- the key is from the one end on, and before the other
unfoldable pub is_between : Option (List ℕ) → Option (List ℕ) → List ℕ → Bool
is_between lo hi key = is_from lo key && is_upto hi key

-- ---- pieces

-- the part of a range before a piece, and the part after it
abbrev pub part_before : KeyRange → KeyRange → KeyRange
part_before piece range = record { low = range.low; high = earlier piece.low range.high }

abbrev pub part_after : KeyRange → KeyRange → KeyRange
part_after piece range = record { low = later piece.high range.low; high = range.high }

-- the lowest part of a range that no piece covers, if there is one
abbrev pub lowest_gap : KeyRange → List KeyRange → Option KeyRange
lowest_gap range [] = if is_nonempty range then Some range else None
lowest_gap range (piece ∷ pieces) =
    if is_nonempty (part_before piece range) then Some (part_before piece range)
    else lowest_gap (part_after piece range) pieces

-- a key may be within both
abbrev pub overlaps : KeyRange → KeyRange → Bool
overlaps a b = is_nonempty (part_between (Some a.low) (Some a.high) b)

-- a piece overlaps the range
abbrev pub is_covered_in_part : List KeyRange → KeyRange → Bool
is_covered_in_part pieces range = list_any (overlaps range) pieces

-- the piece begins at a key, is not empty, and ends at or before another key
abbrev pub follows : List ℕ → List ℕ → KeyRange → Bool
follows low high piece = bytes_eq piece.low low && is_nonempty piece && not (is_lt (byte_order high piece.high))

-- the pieces tile the range: each begins where the one before it ends, none is empty, and the last ends where the range does
abbrev pub tiles : KeyRange → List KeyRange → Bool
tiles range [] = not (is_nonempty range)
tiles range (piece ∷ pieces) =
    bytes_eq piece.low range.low && is_nonempty piece && not (is_lt (byte_order range.high piece.high))
    && tiles (record { low = piece.high; high = range.high }) pieces

-- the place of a range among pieces in order: how many of them, from the first on, begin before it
abbrev pub place_among : List KeyRange → KeyRange → ℕ
place_among [] range = 0
place_among (piece ∷ pieces) range = if is_lt (byte_order piece.low range.low) then place_among pieces range + 1 else 0

-- each piece has keys, and ends at or before the low end of every later one
abbrev pub AreApart : List KeyRange → Type 0
AreApart [] = Unit {0}
AreApart (piece ∷ pieces) =
    (is_nonempty piece ≡ true)
    × AllByRecursion (λ (after : KeyRange). is_lt (byte_order after.low piece.high) ≡ false) pieces × AreApart pieces
