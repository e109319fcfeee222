-- Each leaf of a plan is maskable.
use Rattle.std.proofs.Common.{◌≡◌, ◌∙◌, ℕ, ◌+◌, ◌<◌, Bool, true, List, [], ◌∷◌, map, take, drop, length, sym, subst, arith}
use Rattle.std.specs.List.{AllByRecursion}
use Rattle.span_schema.specs.declared.table.Table.{Table}
use Rattle.span_schema.specs.Numbers.{key_places}
use Rattle.span_query.specs.declared.query.BoundQuery.{BoundQuery}
use Rattle.span_query.specs.Rows.{Row}
use Rattle.span_columns.specs.declared.leaf.Leaf.{Leaf}
use Rattle.span_columns.specs.declared.leaf.LeafJoin.{LeafJoin}
use Rattle.span_leaves.specs.Leaves.{width_of}
use Rattle.span_planner.specs.Plans.{planned}
use Rattle.span_leaves.specs.Maskable.{AreStated, IsMaskable}
use Rattle.span_columns.specs.Reads.{leaf_widths, reads_own, join_masks}
use Rattle.span_planner.specs.Sizes.{is_sized}
use Rattle.span_planner.proofs.Known.{leaves_known}
use Rattle.span_planner.proofs.MaskedPlan.{AreMaskable, rest_len}
use Rattle.span_planner.proofs.OwnReads.{leaves_own}
use Rattle.span_planner.proofs.Planned.{AreRooted, IsPlanned, part_len}
use Rattle.span_leaves.proofs.Pushing.{AreOfWidth}

-- ---- leaves of plans

rooted_stated : (schema : List Table) (first at : ℕ) (joins : List LeafJoin) (ts : List ℕ) → AreRooted schema first at joins ts → AreStated schema joins ts
rooted_stated schema first at [] [] rooted = tt {0}
rooted_stated schema first at [] (t ∷ ts) rooted = absurd rooted
rooted_stated schema first at (j ∷ joins) [] rooted = absurd rooted
rooted_stated schema first at (j ∷ joins) (t ∷ ts) rooted = (rooted.2, rooted_stated schema first (at + j.width) joins ts rooted.3)

pub maskable : (schema : List Table) (leaf : Leaf) → IsPlanned schema leaf → reads_own leaf ≡ true → IsMaskable schema leaf
maskable schema leaf is own = record {
  first = is.first;
  rest = is.rest;
  tables = is.tables;
  stated = rooted_stated schema is.first (width_of schema is.first) leaf.joins is.rest is.rooted;
  reads_len = is.reads_len;
  own = own;
  part = is.part;
}

-- each leaf of a plan is maskable, where the sizes in the query are right
pub leaves_maskable : (schema : List Table) (tables : List ℕ) → ((t : ℕ) → AllByRecursion (λ (p : ℕ). p < width_of schema t) (key_places schema t)) → (q : BoundQuery) → is_sized schema tables q ≡ true
    → AllByRecursion (IsMaskable schema) (planned schema tables q).leaves
leaves_maskable schema tables keyed q sized = of_each (planned schema tables q).leaves (leaves_known schema tables keyed q sized) (leaves_own schema tables q) where
  of_each : (ls : List Leaf) → AllByRecursion (IsPlanned schema) ls → AllByRecursion (λ (l : Leaf). reads_own l ≡ true) ls → AllByRecursion (IsMaskable schema) ls
  of_each [] known own = tt {0}
  of_each (l ∷ ls) known own = (maskable schema l known.0 own.0, of_each ls known.1 own.1)

-- ---- the tables of a maskable leaf

pub front_len : (n m : ℕ) (ms : List Bool) → length ms ≡ n + m → length (take n ms) ≡ n
front_len n m ms len = part_len ms 0 n (omega arith)

module _ (schema : List Table) (w : ℕ → List Row) (wide_tables : (t : ℕ) → AreOfWidth (width_of schema t) (w t)) where
  pub tables_maskable : (joins : List LeafJoin) (ts : List ℕ) (ms : List Bool) → AreStated schema joins ts → length ms ≡ leaf_widths joins → AreMaskable joins (join_masks joins ms) (map w ts)
  tables_maskable [] ts ms stated len = tt {0}
  tables_maskable (j ∷ joins) [] ms stated len = absurd stated
  tables_maskable (j ∷ joins) (t ∷ ts) ms stated len =
      let here : length (take j.width ms) ≡ j.width = front_len j.width (leaf_widths joins) ms len in (
        sym here,
        subst (λ (n : ℕ). AreOfWidth n (w t)) (sym stated.0 ∙ sym here) (wide_tables t),
        tables_maskable joins ts (drop j.width ms) stated.1 (rest_len j.width ms (leaf_widths joins) len),
      )
