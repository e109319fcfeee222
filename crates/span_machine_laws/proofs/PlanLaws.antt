-- What a plan gives on a database is what its query means there.
use Rattle.std.proofs.Common.{◌≡◌, ℕ, zero, suc, List, [], ◌∷◌, map, Option, Some, None, refl, ap, sym, ◌∙◌, arith}
use Rattle.std.specs.Prelude.{slice_get}
use Rattle.std.specs.List.{AllByRecursion}
use Rattle.std.specs.Option.{unwrap_or, option_map}
use Rattle.std.proofs.lemmas.Option.{slice_get-map}
use Rattle.span_schema.specs.declared.table.Table.{Table}
use Rattle.span_schema.specs.Lineages.{MeetsRules}
use Rattle.span_mutate.specs.declared.row.TableRow.{TableRow}
use Rattle.span_mutate.specs.Database.{rows_of}
use Rattle.span_mutate.specs.Directories.{IsDatabase}
use Rattle.span_mutate.specs.Typed.{AreTyped}
use Rattle.span_query.specs.declared.query.Statement.{Statement}
use Rattle.span_query.specs.Rows.{Row, Rows}
use Rattle.span_query.specs.Meaning.{table_rows}
use Rattle.span_columns.specs.declared.leaf.Leaf.{Leaf}
use Rattle.span_leaves.specs.Leaves.{table_of}
use Rattle.span_planner.specs.Plannable.{IsPlannable}
use Rattle.span_leaves.specs.Results.{leaf_rows}
use Rattle.span_planner.proofs.Known.{leaves_known}
use Rattle.span_planner.proofs.Planned.{IsPlanned}
use Rattle.span_planner.proofs.MaskedPlan.{query_above_picked}
use Rattle.span_machine.specs.Machine.{statement_plan}
use Rattle.span_machine.specs.Meaning.{declared_row, whole_table, means, tables_within, plan_means}
use Rattle.span_entries.proofs.KeyPlaces.{keyed}
use Rattle.span_machine_laws.proofs.LeafWhole.{table_width, leaf_whole}
use Rattle.span_machine_laws.proofs.TableOrder.{IsOfTable, of_table}
pub use Rattle.span_machine_laws.proofs.LeafTiled.{leaf_tiled}

-- the leaves of a statement that can be planned are known
pub plan_leaves : (schema : List Table) → MeetsRules schema → (q : Statement) → IsPlannable schema q → AllByRecursion (IsPlanned schema) (statement_plan schema q).leaves
plan_leaves schema rules q can = leaves_known schema q.leaves (keyed schema) q.query can.sized

-- ---- the law

module _ (schema : List Table) (rules : MeetsRules schema) (db : List TableRow) (typed : AreTyped schema db) where
  abbrev whole : ℕ → List Row
  whole t = whole_table schema db t

  -- what a leaf gives in all columns of its tables
  abbrev on_range : Leaf → Rows
  on_range l = leaf_rows l (tables_within schema db l.tables l.range)

  leaves_whole : (ls : List Leaf) → AllByRecursion (IsPlanned schema) ls → AllByRecursion (λ (l : Leaf). on_range l ≡ leaf_rows l (map whole l.tables)) ls
  leaves_whole [] known = tt {0}
  leaves_whole (l ∷ ls) known = (leaf_whole schema rules db typed l known.0, leaves_whole ls known.1)

  -- no row is of table 0
  none_of_zero : whole 0 ≡ []
  none_of_zero = ap (map (declared_row schema)) (nothing (rows_of 0 db) (of_table schema 0 db typed))
    where
      nothing : (rows : List TableRow) → AllByRecursion (IsOfTable schema 0) rows → rows ≡ []
      nothing [] are = refl
      nothing (r ∷ rows) are = absurd (omega (arith, are.0.1, are.0.0.0.0.0.0))

  table_given : (tables : List ℕ) (n : ℕ) → ◌≡◌ {A = Rows} (Some (table_rows (map whole tables) n)) (Some (whole (table_of tables n)))
  table_given tables zero = ap (λ (rows : List Row). Some rows) (sym none_of_zero)
  table_given tables (suc n) = ap (λ (o : Option (List Row)). Some (unwrap_or o [])) (slice_get-map whole tables n) ∙ of_found (slice_get tables n)
    where
      of_found : (o : Option ℕ) → ◌≡◌ {A = Rows} (Some (unwrap_or (option_map whole o) [])) (Some (whole (unwrap_or o 0)))
      of_found None = ap (λ (rows : List Row). Some rows) (sym none_of_zero)
      of_found (Some t) = refl

  meaning_of_plan : (q : Statement) → IsPlannable schema q → plan_means schema (statement_plan schema q) db ≡ means schema q.query q.leaves db
  meaning_of_plan q can =
      query_above_picked schema whole (table_width schema db typed) q.leaves (λ (n : ℕ). Some (table_rows (map whole q.leaves) n)) (table_given q.leaves) (keyed schema) q.query can.sized on_range
      (leaves_whole (statement_plan schema q).leaves (plan_leaves schema rules q can))

-- THE LAW OF A PLAN: what the plan of a statement gives on a database is what its query means there
pub planned_meaning : (schema : List Table) → MeetsRules schema → (q : Statement) → IsPlannable schema q → (db : List TableRow) → IsDatabase schema db → AreTyped schema db → plan_means schema (statement_plan schema q) db ≡ means schema q.query q.leaves db
planned_meaning schema rules q can db is_db typed = meaning_of_plan schema rules db typed q can
