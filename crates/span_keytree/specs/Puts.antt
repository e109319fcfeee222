-- A key put into a tree of cells.
use Rattle.std.specs.Prelude.{◌≡◌, ◌≢◌, ℕ, ◌+◌, ◌<◌, ◌≤◌, List, length, Option, Some, None, Result, Ok, Err, Bool, true, false}
use Rattle.span_arena.specs.declared.cell.Cell.{Cell}
use Rattle.span_keytree.specs.declared.join.GrownPart.{GrownPart}
use Rattle.span_value.specs.declared.refusal.Refusal.{Refusal}
use Rattle.span_keytree.specs.Trees.{Tree, root_of, IsInCells, count, height, shape, inserted, search_in}
use Rattle.span_arena.specs.Counts.{Count}
use Rattle.span_arena.specs.Cells.{cell_at}
use Rattle.span_arena.specs.Content.{Content, IsChain, IsNewChain}
use Rattle.span_keytree.specs.Nexts.{Nexts, places_with, with_place, with_cell}

-- what came of a key that was put into a tree: it is that of this chain, or it has a new one
pub data Put : Type 0 where
  Found : (cell : ℕ) → Put
  Added : (part : GrownPart) → Put

abbrev pub put_of : Bool → GrownPart → Put
put_of false part = Found part.cell
put_of true part = Added part

abbrev pub put_result : Result Bool Refusal → GrownPart → Result Put Refusal
put_result (Ok is_added) part = Ok (put_of is_added part)
put_result (Err why) part = Err why

-- the tree below a link
abbrev pub tree_at : List Cell → ℕ → Option ℕ → Tree
tree_at cs levels at = shape (cell_at cs) levels at

-- these cells hold the tree, each of its own once
pub record IsTree (cs : List Cell) (at : Option ℕ) (t : Tree) : Type 0 where
  pub in_cells : IsInCells (cell_at cs) t
  pub root : at ≡ root_of t
  pub once : (i : ℕ) → count i t ≤ 1
  pub within : (i : ℕ) → 0 < count i t → i < length cs

abbrev pub IsNotFound : List ℕ → Tree → Type 0
IsNotFound key t = search_in key t ≡ None

-- the key is in the tree, and nothing changed
pub record IsFound (old new : List Cell) (t : Tree) (key : List ℕ) (at : ℕ) : Type 0 where
  pub here : search_in key t ≡ Some at
  pub same : new ≡ old

-- the key was not there, and is now, in a new cell
pub record IsAdded (old new : List Cell) (t : Tree) (key : List ℕ) (part : GrownPart) : Type 0 where
  pub absent : search_in key t ≡ None
  pub free : count part.cell t ≡ 0
  pub number : part.cell ≤ length old
  pub one_more : length new ≡ places_with (length old) part.cell
  pub in_cells : IsInCells (cell_at new) (inserted part.cell key t).tree
  pub root : Some part.root ≡ root_of (inserted part.cell key t).tree
  pub grew : part.grew ≡ (inserted part.cell key t).grew
  pub others : (i : ℕ) → i ≢ part.cell → count i t ≡ 0 → cell_at new i ≡ cell_at old i

abbrev pub IsPut : List Cell → List Cell → Tree → List ℕ → Put → Type 0
IsPut old new t key (Found at) = IsFound old new t key at
IsPut old new t key (Added part) = IsAdded old new t key part

-- the cells of the tree are those of chains
abbrev pub AreChains : Content → Tree → Type 0
AreChains a t = (i : ℕ) → 0 < count i t → IsChain a i

-- nothing changed in the arena; or it has a new chain
abbrev pub IsPutIn : Content → Content → Put → Type 0
IsPutIn old new (Found at) = new ≡ old
IsPutIn old new (Added part) = IsNewChain old new part.cell

-- the new cell is after that of the last smaller key
abbrev pub IsNext : Nexts → Nexts → Option ℕ → Put → Type 0
IsNext old new before (Found at) = new ≡ old
IsNext old new before (Added part) = new ≡ with_cell (with_place old part.cell) before part.cell

abbrev pub extra_by : Bool → ℕ
extra_by true = 2
extra_by false = 4

abbrev pub extra_of : Put → ℕ
extra_of (Found at) = 0
extra_of (Added part) = extra_by part.grew

abbrev pub extra : Result Put Refusal → ℕ
extra (Ok p) = extra_of p
extra (Err why) = 2

-- as many keys are compared as the tree has levels at most, and as many entries written, and up to four
pub record IsPutCost (t : Tree) (r : Result Put Refusal) (old new : Count) : Type 0 where
  pub compared : new.compared ≤ old.compared + height t
  pub written : new.written ≤ old.written + (height t + extra r)

-- as many keys are compared as the tree has levels at most, and nothing is written
pub record IsSearchOf (t : Tree) (old new : Count) : Type 0 where
  pub compared : new.compared ≤ old.compared + height t
  pub written : new.written ≡ old.written
