-- What leaves a leaf of the rows that it gives.
use Rattle.std.proofs.Common.{◌≡◌, ◌∙◌, Bool, true, List, [], ◌++◌, map, Some, Result, Ok, Err, ap, sym, subst}
use Rattle.std.specs.Option.{option_map}
use Rattle.span_schema.specs.declared.table.Table.{Table}
use Rattle.span_shard.specs.Shard.{KeyRow}
use Rattle.span_expr.specs.declared.cell.Failure.{Failure}
use Rattle.span_expr.specs.declared.cell.Failure.TheVariants.{Fault, OutOfMemory}
use Rattle.span_query.specs.Rows.{Row, Rows, append_results}
use Rattle.span_query.proofs.Results.{nil-append_results}
use Rattle.span_conditions.specs.Answers.{Adds}
use Rattle.span_rows.specs.Masks.{values_where}
use Rattle.span_columns.specs.declared.leaf.Leaf.{Leaf}
use Rattle.span_columns.specs.Picks.{mask_among, pick_rows}
use Rattle.span_columns.specs.Reads.{is_part}
use Rattle.span_tablescan.specs.Given.{rows_given, picked_given, IsAddedOn, AreKeptAdded}
use Rattle.span_onepass.proofs.Picked.{kept_moved}

module _ (schema : List Table) (leaf : Leaf) (entries : List KeyRow) where
  pub moved_added : (part : is_part leaf.kept leaf.reads ≡ true) (rows old new : List Row) → IsAddedOn schema leaf entries (Ok tt) [] rows
      → new ≡ old ++ map (values_where (mask_among leaf.reads leaf.kept)) rows → AreKeptAdded schema leaf entries (Ok tt) old new
  moved_added part rows old new added is = record {
    of = λ all typed coded.
        let o : Rows = picked_given schema leaf all in
        let gives : o ≡ Some rows = sym (nil-append_results o) ∙ added.of all typed coded in
        let move : List Row → List Row = map (values_where (mask_among leaf.reads leaf.kept)) in
        ap (append_results (Some old)) (kept_moved leaf.kept leaf.reads part (rows_given schema leaf all) ∙ ap (option_map move) gives) ∙ ap (λ (l : List Row). Some l) (sym is);
  }

  pub kept_fails : (part : is_part leaf.kept leaf.reads ≡ true) (why : Failure) (before after old new : List Row) → IsAddedOn schema leaf entries (Err why) before after → AreKeptAdded schema leaf entries (Err why) old new
  kept_fails part Fault before after old new added = record {
    of = λ all typed coded.
        let move : List Row → List Row = map (values_where (mask_among leaf.reads leaf.kept)) in
        kept_moved leaf.kept leaf.reads part (rows_given schema leaf all) ∙ ap (option_map move) (added.of all typed coded);
  }
  kept_fails part OutOfMemory before after old new added = record { of = λ all typed coded. tt {0} }

  -- where all columns that something reads leave the leaf
  pub all_kept : leaf.kept ≡ leaf.reads → (done : Result (Unit {0}) Failure) (old new : List Row) → IsAddedOn schema leaf entries done old new → AreKeptAdded schema leaf entries done old new
  all_kept same done old new added = record {
    of = λ all typed coded. subst (λ (ms : List Bool). Adds done (pick_rows ms (rows_given schema leaf all)) old new) (sym same) (added.of all typed coded);
  }
