-- Leaves that give on masked tables their rows, masked.
use Rattle.std.specs.Prelude.{◌≡◌, ℕ, ◌+◌, true, List, [], ◌∷◌, length}
use Rattle.span_schema.specs.declared.table.Table.{Table}
use Rattle.span_columns.specs.declared.leaf.LeafJoin.{LeafJoin}
use Rattle.span_columns.specs.declared.leaf.Leaf.{Leaf}
use Rattle.span_leaves.specs.Leaves.{width_of}
use Rattle.span_columns.specs.Reads.{is_part, leaf_widths, reads_own}

-- each join states the number of columns of its table
abbrev pub AreStated : List Table → List LeafJoin → List ℕ → Type 0
AreStated schema [] [] = Unit {0}
AreStated schema [] (t ∷ ts) = ⊥
AreStated schema (j ∷ joins) [] = ⊥
AreStated schema (j ∷ joins) (t ∷ ts) = (j.width ≡ width_of schema t) × AreStated schema joins ts

-- The mask of the leaf has a place for each column of its tables, whose numbers of columns its joins state, and the leaf reads only columns that the
-- mask has, and those that leave it are among these.
pub record IsMaskable (schema : List Table) (leaf : Leaf) : Type 0 where
  pub first : ℕ
  pub rest : List ℕ
  pub tables : leaf.tables ≡ first ∷ rest
  pub stated : AreStated schema leaf.joins rest
  pub reads_len : length leaf.reads ≡ width_of schema first + leaf_widths leaf.joins
  pub own : reads_own leaf ≡ true
  pub part : is_part leaf.kept leaf.reads ≡ true
