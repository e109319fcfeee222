-- What is written at a key.
use Rattle.std.specs.Prelude.{◌≡◌, ◌≢◌, ℕ, Bool, List, Option, Some, None}
use Rattle.std.specs.Ordering.{eq_by_cmp}
use Rattle.span_keycode.specs.Order.{byte_order}
use Rattle.span_store.specs.declared.write.Write.{Write}

-- what is written at a key is its new row, where that is another one
abbrev pub IsWrite : List ℕ → Option (List ℕ) → Option (List ℕ) → Option Write → Type 0
IsWrite key before after None = after ≡ before
IsWrite key before after (Some w) = (w.key ≡ key) × (w.row ≡ after) × (after ≢ before)

-- the write is of this key
abbrev pub is_of : List ℕ → Write → Bool
is_of key w = eq_by_cmp byte_order key w.key
