use Rattle.std.proofs.Common.{◌≡◌, ◌++◌, Bool, List, drop}
use Rattle.std.specs.List.{AllByRecursion}
use Rattle.span_query.specs.declared.query.SortKey.{SortKey}
use Rattle.span_rows.specs.RowPlaces.{rows_at}
use Rattle.span_sorting.specs.Codes.{IsCodedAs, uncoded}
use Rattle.span_sorting.specs.PlacesInOrder.{IsCodedPlace, without_codes}
use Rattle.span_sorting.proofs.rows_with_order.lend_places.Given as goal

-- the rows so far, and those at the places that are left
abbrev pub invariant-loop-place : goal.invariant-loop-place
invariant-loop-place l = record {
  rows : uncoded l.fn.all.items ++ rows_at l.rows (without_codes l.places) ≡ uncoded l.all.items ++ rows_at l.rows (without_codes (drop l.place-index l.places));
  coded : (keys : List SortKey) (exact : Bool) → AllByRecursion (IsCodedPlace l.rows keys exact) l.places
      → AllByRecursion (IsCodedAs keys exact) l.fn.all.items → AllByRecursion (IsCodedAs keys exact) l.all.items;
}
