-- Values of records, and the cells that they are under the names of their columns.
use Rattle.std.proofs.Common.{ℕ, List, [], ◌∷◌, Option, refl, sym, subst}
use Rattle.std.specs.List.{AllZip}
use Rattle.span_value.specs.declared.value.Value.{Value}
use Rattle.span_mutate.specs.Batches.{named_cells, with_cell}
use Rattle.span_records.specs.declared.layout.CellField.{CellField}
use Rattle.span_records.specs.Layouts.{IsColumnCell, IsColumnValue, column_names}

pub named_values : (fields : List (List ℕ)) (parts : List CellField) (values : List (Option Value)) → AllZip (IsColumnValue fields) parts values → AllZip (IsColumnCell fields) parts (named_cells values (column_names parts))
named_values fields [] [] h = tt
named_values fields [] (v ∷ vs) h = absurd h
named_values fields (p ∷ ps) [] h = absurd h
named_values fields (p ∷ ps) (v ∷ vs) h =
    subst (λ (o : Option Value). AllZip (IsColumnCell fields) (p ∷ ps) (with_cell p.column o (named_cells vs (column_names ps)))) (sym h.0.1) ((refl, h.0.2), named_values fields ps vs h.1)
