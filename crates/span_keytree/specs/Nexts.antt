-- The cells in the order of their keys: the first, and after each the next.
use Rattle.std.specs.Prelude.{◌≡◌, ℕ, ◌+◌, ◌-◌, List, [], ◌∷◌, ◌++◌, length, replicate, take, Option, Some, None, slice_index_or, slice_set, nat_eq, nat_lt, if◌then◌else◌}
use Rattle.span_keycode.specs.Order.{byte_order}
use Rattle.span_keytree.specs.Trees.{Tree, Leaf, Fork, by_side}
use Rattle.span_arena.specs.Cells.{is_past}
use Rattle.span_arena.specs.Limits.{most_chains}
use Rattle.span_keytree.specs.Entries.{KeyEntry}

-- the first cell, and the cell after each
pub record Nexts : Type 0 where
  pub first : Option ℕ
  pub next : List (Option ℕ)

-- the link to a cell as it is kept: the numbers of cells are less than the most that there may be
abbrev pub link_to : ℕ → Option ℕ
link_to number = (if nat_eq number most_chains then None else Some number)

abbrev pub next_of : Nexts → ℕ → Option ℕ
next_of n i = slice_index_or n.next i None

-- the links lead from cell to cell as the entries follow each other, and end after the last
abbrev pub IsLinked : (ℕ → Option ℕ) → Option ℕ → List KeyEntry → Type 0
IsLinked f first [] = first ≡ None
IsLinked f first (e ∷ es) = (first ≡ Some e.chain.number) × IsLinked f (f e.chain.number) es

-- one cell more, to which no link leads
abbrev pub with_empty_link : Nexts → Nexts
with_empty_link n = record { first = n.first; next = n.next ++ None ∷ [] }

-- how many places there are, with one for this number
abbrev pub places_with : ℕ → ℕ → ℕ
places_with n cell = (if nat_lt cell n then n else (n + 1))

-- with a place for the cell: its own, or one more
abbrev pub with_place : Nexts → ℕ → Nexts
with_place n cell = (if nat_lt cell (length n.next) then n else with_empty_link n)

-- the cell is after another, or first
abbrev pub with_cell : Nexts → Option ℕ → ℕ → Nexts
with_cell n None cell = record { first = Some cell; next = slice_set n.next cell n.first }
with_cell n (Some before) cell =
    record { first = n.first; next = slice_set (slice_set n.next cell (next_of n before)) before (Some cell) }

-- the cell of the last key below a key that the tree has not, or what is given where no key is below it
abbrev pub before_in : List ℕ → Option ℕ → Tree → Option ℕ
before_in key b Leaf = b
before_in key b (Fork l n k bal r) = by_side (byte_order key k) (before_in key b l) n (before_in key (Some n) r)

-- the cell of the first key that is not below a key, or what is given where all keys are below it
abbrev pub first_in : List ℕ → Option ℕ → Tree → Option ℕ
first_in key a Leaf = a
first_in key a (Fork l n k bal r) = by_side (byte_order key k) (first_in key (Some n) l) n (first_in key a r)

-- the cell of the last entry, or what is given where there is none
abbrev pub last_cell : Option ℕ → List KeyEntry → Option ℕ
last_cell b [] = b
last_cell b (e ∷ es) = last_cell (Some e.chain.number) es

-- the cell of the first entry, or what is given where there is none
abbrev pub head_cell : Option ℕ → List KeyEntry → Option ℕ
head_cell a [] = a
head_cell a (e ∷ es) = Some e.chain.number

-- further cells, to which no link leads
abbrev pub with_places : ℕ → Nexts → Nexts
with_places count n = record { first = n.first; next = n.next ++ replicate count None }

-- without the last places
abbrev pub without_places : ℕ → Nexts → Nexts
without_places count n = record { first = n.first; next = take (length n.next - count) n.next }

-- without the last place
abbrev pub without_last : Nexts → Nexts
without_last n = record { first = n.first; next = take (length n.next - 1) n.next }

abbrev pub without_first : Nexts → Nexts
without_first n = record { first = None; next = n.next }

-- the cell of the first key after all that begin with these bytes, or what is given where there is none
abbrev pub first_past : List ℕ → Option ℕ → Tree → Option ℕ
first_past front a Leaf = a
first_past front a (Fork l n k bal r) = (if is_past front k then first_past front (Some n) l else first_past front a r)
