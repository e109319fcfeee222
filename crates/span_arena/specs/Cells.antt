-- The keys of chains, each with its place in the tree of keys.
use Rattle.std.specs.Prelude.{◌≡◌, ℕ, ◌+◌, List, [], None, Bool, not, ◌&&◌, nat_eq, slice_index_or, slice_set, length, min}
use Rattle.std.specs.List.{starts_with}
use Rattle.std.specs.Ordering.{is_lt}
use Rattle.span_keycode.specs.Order.{byte_order}
use Rattle.span_arena.specs.declared.cell.Cell.{Cell}
use Rattle.span_arena.specs.declared.cell.Links.{Links}
use Rattle.span_arena.specs.declared.cell.Balance.TheVariants.{Even}
use Rattle.span_arena.specs.Counts.{Count}

abbrev pub new_cell : List ℕ → Cell
new_cell key = record { key = key; links = record { left = None; right = None; balance = Even } }

-- the cell of no chain
abbrev pub blank : Cell
blank = new_cell []

abbrev pub cell_at : List Cell → ℕ → Cell
cell_at cs i = slice_index_or cs i blank

abbrev pub with_links : List Cell → ℕ → Links → List Cell
with_links cs i l = slice_set cs i (record { key = (cell_at cs i).key; links = l })

-- the length of a cell's key as it is kept beside it, in two bytes: 65,535 where it is that or more
abbrev pub kept_length : Cell → ℕ
kept_length c = min (length c.key) 65535

-- after all keys that begin with these bytes
abbrev pub is_past : List ℕ → List ℕ → Bool
is_past front key = not (is_lt (byte_order key front)) && not (starts_with nat_eq key front)

-- ---- what the calls cost

pub record IsCompared (old new : Count) : Type 0 where
  pub compared : new.compared ≡ old.compared + 1
  pub written : new.written ≡ old.written

pub record IsWritten (old new : Count) : Type 0 where
  pub compared : new.compared ≡ old.compared
  pub written : new.written ≡ old.written + 1
