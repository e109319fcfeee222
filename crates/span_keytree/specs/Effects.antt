-- What the calls on cells do to them.
use Rattle.std.specs.Prelude.{◌≡◌, ℕ, ◌+◌, ◌<◌, ◌≤◌, List, length, Option, Some, None}
use Rattle.span_arena.specs.declared.cell.Cell.{Cell}
use Rattle.span_arena.specs.declared.cell.Links.{Links}
use Rattle.span_arena.specs.declared.cell.Balance.{Balance}
use Rattle.span_arena.specs.declared.cell.Balance.TheVariants.{LeftHigh, Even, RightHigh}
use Rattle.span_keytree.specs.Trees.{after_left, after_right}
use Rattle.span_arena.specs.Cells.{cell_at, with_links}
use Rattle.span_arena.specs.Counts.{Count}

-- a link that leads to a cell
abbrev pub IsInside : List Cell → Option ℕ → Type 0
IsInside cs None = Unit {0}
IsInside cs (Some i) = i < length cs

abbrev pub links_with : Option ℕ → Option ℕ → Balance → Links
links_with l r b = record { left = l; right = r; balance = b }

abbrev pub links_of : List Cell → ℕ → Links
links_of cs i = (cell_at cs i).links

abbrev pub lifted_right_cells : List Cell → ℕ → ℕ → Option ℕ → Option ℕ → List Cell
lifted_right_cells cs at left right None = with_links cs at (links_with (Some left) right LeftHigh)
lifted_right_cells cs at left right (Some inner) =
    with_links
    (with_links (with_links cs left
    (links_with (links_of cs left).left (links_of cs inner).left (after_left (links_of cs inner).balance))) at
    (links_with (links_of cs inner).right right (after_right (links_of cs inner).balance)))
    inner
    (links_with (Some left) (Some at) Even)

abbrev pub lifted_root : Option ℕ → ℕ → ℕ
lifted_root None at = at
lifted_root (Some inner) at = inner

abbrev pub turned_right_by : Balance → List Cell → ℕ → ℕ → Option ℕ → List Cell
turned_right_by LeftHigh cs at left right =
    with_links (with_links cs at (links_with (links_of cs left).right right Even)) left
    (links_with (links_of cs left).left (Some at) Even)
turned_right_by Even cs at left right = with_links cs at (links_with (Some left) right LeftHigh)
turned_right_by RightHigh cs at left right = lifted_right_cells cs at left right (links_of cs left).right

abbrev pub turned_right_cells : List Cell → ℕ → ℕ → Option ℕ → List Cell
turned_right_cells cs at left right = turned_right_by (links_of cs left).balance cs at left right

abbrev pub turned_right_root_by : Balance → Option ℕ → ℕ → ℕ → ℕ
turned_right_root_by LeftHigh inner at left = left
turned_right_root_by Even inner at left = at
turned_right_root_by RightHigh inner at left = lifted_root inner at

abbrev pub turned_right_root : List Cell → ℕ → ℕ → ℕ
turned_right_root cs at left = turned_right_root_by (links_of cs left).balance (links_of cs left).right at left

abbrev pub lifted_left_cells : List Cell → ℕ → Option ℕ → ℕ → Option ℕ → List Cell
lifted_left_cells cs at left right None = with_links cs at (links_with left (Some right) RightHigh)
lifted_left_cells cs at left right (Some inner) =
    with_links
    (with_links (with_links cs right
    (links_with (links_of cs inner).right (links_of cs right).right (after_right (links_of cs inner).balance))) at
    (links_with left (links_of cs inner).left (after_left (links_of cs inner).balance)))
    inner
    (links_with (Some at) (Some right) Even)

abbrev pub turned_left_by : Balance → List Cell → ℕ → Option ℕ → ℕ → List Cell
turned_left_by RightHigh cs at left right =
    with_links (with_links cs at (links_with left (links_of cs right).left Even)) right
    (links_with (Some at) (links_of cs right).right Even)
turned_left_by Even cs at left right = with_links cs at (links_with left (Some right) RightHigh)
turned_left_by LeftHigh cs at left right = lifted_left_cells cs at left right (links_of cs right).left

abbrev pub turned_left_cells : List Cell → ℕ → Option ℕ → ℕ → List Cell
turned_left_cells cs at left right = turned_left_by (links_of cs right).balance cs at left right

abbrev pub turned_left_root_by : Balance → Option ℕ → ℕ → ℕ → ℕ
turned_left_root_by RightHigh inner at right = right
turned_left_root_by Even inner at right = at
turned_left_root_by LeftHigh inner at right = lifted_root inner at

abbrev pub turned_left_root : List Cell → ℕ → ℕ → ℕ
turned_left_root cs at right = turned_left_root_by (links_of cs right).balance (links_of cs right).left at right

-- ---- what they cost

-- no key was compared, and at most this number of cells written
pub record IsWithin (most : ℕ) (old new : Count) : Type 0 where
  pub compared : new.compared ≡ old.compared
  pub written : new.written ≤ old.written + most
