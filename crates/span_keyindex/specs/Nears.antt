-- Where a key is, by a chain near it, and what searches of several keys cost.
use Rattle.std.specs.Prelude.{◌≡◌, ◌≤◌, ◌+◌, ℕ, List, Option, Some, None}
use Rattle.std.specs.declared.cmp.Ordering.TheVariants.{Less}
use Rattle.span_keycode.specs.Order.{byte_order}
use Rattle.span_arena.specs.Cells.{cell_at}
use Rattle.span_arena.specs.Counts.{Count}
use Rattle.span_arena.specs.declared.cell.Cell.{Cell}
use Rattle.span_keyindex.specs.declared.near.Near.{Near}
use Rattle.span_keyindex.specs.declared.near.Near.TheVariants.{Here, Absent, Unknown}
use Rattle.span_keytree.specs.Entries.{KeyEntry, HasChain, IsAbsent}

-- the key is before that of the cell, if there is one
abbrev pub ComesBefore : List Cell → List ℕ → Option ℕ → Type 0
ComesBefore cs key None = Unit {0}
ComesBefore cs key (Some i) = byte_order key (cell_at cs i).key ≡ Less

abbrev pub IsNear : List KeyEntry → List ℕ → ℕ → Near → Type 0
IsNear es key near Here = HasChain es key (record { number = near })
IsNear es key near Absent = IsAbsent es key
IsNear es key near Unknown = Unit {0}

-- at most this many keys were compared, and nothing was written
pub record IsLookCost (most : ℕ) (old new : Count) : Type 0 where
  pub compared : new.compared ≤ old.compared + most
  pub written : new.written ≡ old.written
