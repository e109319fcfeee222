-- Keys from one on, up to another one, which have no row.
use Rattle.std.specs.Prelude.{◌≡◌, ℕ, List, Bool, true, not, ◌&&◌, Option, Some, None}
use Rattle.std.specs.Ordering.{is_lt}
use Rattle.span_keycode.specs.Order.{byte_order}
use Rattle.span_store.specs.KeyVersions.{KeyVersions}
use Rattle.span_store.specs.KeyLists.{row_now}

-- a key is before another one, where there is one
abbrev pub is_before_end : Option (List ℕ) → List ℕ → Bool
is_before_end None k = true
is_before_end (Some high) k = is_lt (byte_order k high)

-- a key is from one on and before another one, where there is one
abbrev pub is_from_to : List ℕ → Option (List ℕ) → List ℕ → Bool
is_from_to low high k = not (is_lt (byte_order k low)) && is_before_end high k

-- no key there has a row
abbrev pub HasNoRowFrom : List KeyVersions → List ℕ → Option (List ℕ) → Type 0
HasNoRowFrom cs low high = (k : List ℕ) → is_from_to low high k ≡ true → row_now cs k ≡ None
