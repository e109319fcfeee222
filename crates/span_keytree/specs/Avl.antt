-- What a key more does to the height.
use Rattle.std.specs.Prelude.{◌≡◌, ℕ, suc, Bool, true, false}
use Rattle.span_arena.specs.declared.cell.Balance.{Balance}
use Rattle.span_arena.specs.declared.cell.Balance.TheVariants.{LeftHigh, Even, RightHigh}
use Rattle.span_keytree.specs.Trees.{Tree, Leaf, Fork, Grown, height, IsAvl}

abbrev pub grown_height : Bool → ℕ → ℕ
grown_height false h = h
grown_height true h = suc h

abbrev pub IsLeanedBy : Balance → ℕ → Type 0
IsLeanedBy LeftHigh h = Unit {0}
IsLeanedBy Even h = h ≡ 0
IsLeanedBy RightHigh h = Unit {0}

-- one part is higher, or there is only one cell
abbrev pub IsLeaned : Tree → Type 0
IsLeaned Leaf = ⊥
IsLeaned (Fork l n k b r) = IsLeanedBy b (height l)

pub record IsGrown (t : Tree) (g : Grown) : Type 0 where
  pub avl : IsAvl g.tree
  pub tall : height g.tree ≡ grown_height g.grew (height t)
  pub leans : g.grew ≡ true → IsLeaned g.tree
