-- What joining a part to its cell again does to the cells.
use Rattle.std.specs.Prelude.{ℕ, List, Some, Bool, true, false}
use Rattle.span_arena.specs.declared.cell.Cell.{Cell}
use Rattle.span_arena.specs.declared.cell.Balance.{Balance}
use Rattle.span_arena.specs.declared.cell.Balance.TheVariants.{LeftHigh, Even, RightHigh}
use Rattle.span_keytree.specs.declared.join.GrownPart.{GrownPart}
use Rattle.span_arena.specs.Counts.{Count}
use Rattle.span_arena.specs.Cells.{with_links}
use Rattle.span_keytree.specs.Effects.{links_with, links_of, turned_right_cells, turned_right_root, turned_left_cells, turned_left_root, IsWithin}

abbrev pub part_of : GrownPart → ℕ → Bool → GrownPart
part_of p root grew = record { cell = p.cell; root = root; grew = grew }

abbrev pub higher_left_cells : Balance → List Cell → ℕ → ℕ → List Cell
higher_left_cells LeftHigh cs at root = turned_right_cells cs at root (links_of cs at).right
higher_left_cells Even cs at root = with_links cs at (links_with (Some root) (links_of cs at).right LeftHigh)
higher_left_cells RightHigh cs at root = with_links cs at (links_with (Some root) (links_of cs at).right Even)

abbrev pub joined_left_cells : Bool → List Cell → ℕ → ℕ → List Cell
joined_left_cells false cs at root =
    with_links cs at (links_with (Some root) (links_of cs at).right (links_of cs at).balance)
joined_left_cells true cs at root = higher_left_cells (links_of cs at).balance cs at root

abbrev pub higher_left_root : Balance → List Cell → ℕ → GrownPart → GrownPart
higher_left_root LeftHigh cs at part = part_of part (turned_right_root cs at part.root) false
higher_left_root Even cs at part = part_of part at true
higher_left_root RightHigh cs at part = part_of part at false

abbrev pub joined_left_root : Bool → List Cell → ℕ → GrownPart → GrownPart
joined_left_root false cs at part = part_of part at false
joined_left_root true cs at part = higher_left_root (links_of cs at).balance cs at part

abbrev pub higher_right_cells : Balance → List Cell → ℕ → ℕ → List Cell
higher_right_cells RightHigh cs at root = turned_left_cells cs at (links_of cs at).left root
higher_right_cells Even cs at root = with_links cs at (links_with (links_of cs at).left (Some root) RightHigh)
higher_right_cells LeftHigh cs at root = with_links cs at (links_with (links_of cs at).left (Some root) Even)

abbrev pub joined_right_cells : Bool → List Cell → ℕ → ℕ → List Cell
joined_right_cells false cs at root =
    with_links cs at (links_with (links_of cs at).left (Some root) (links_of cs at).balance)
joined_right_cells true cs at root = higher_right_cells (links_of cs at).balance cs at root

abbrev pub higher_right_root : Balance → List Cell → ℕ → GrownPart → GrownPart
higher_right_root RightHigh cs at part = part_of part (turned_left_root cs at part.root) false
higher_right_root Even cs at part = part_of part at true
higher_right_root LeftHigh cs at part = part_of part at false

abbrev pub joined_right_root : Bool → List Cell → ℕ → GrownPart → GrownPart
joined_right_root false cs at part = part_of part at false
joined_right_root true cs at part = higher_right_root (links_of cs at).balance cs at part

-- a part that did not grow, and one that still grows, cost one cell; a part that stops growing up to three
abbrev pub most_by : Bool → Bool → ℕ
most_by false after = 1
most_by true true = 1
most_by true false = 3

abbrev pub IsJoinCost : Bool → Bool → Count → Count → Type 0
IsJoinCost before after old new = IsWithin (most_by before after) old new
