-- Batches of mutations, whose kind, table and names of columns are written once.
use Rattle.std.specs.Prelude.{ℕ, List, [], ◌∷◌, ◌++◌, map, Option, Some, None}
use Rattle.span_value.specs.declared.value.Value.{Value}
use Rattle.span_mutate.specs.declared.mutation.NamedValue.{NamedValue}
use Rattle.span_mutate.specs.declared.mutation.Mutation.{Mutation}
use Rattle.span_mutate.specs.declared.batch.Heading.{Heading}
use Rattle.span_mutate.specs.declared.batch.BatchRow.{BatchRow}

-- with a cell of the column in front, where there is a value
abbrev pub with_cell : List ℕ → Option Value → List NamedValue → List NamedValue
with_cell name None cells = cells
with_cell name (Some v) cells = record { column = name; value = v } ∷ cells

-- the cells of values, each of the column with the name at its place
abbrev pub named_cells : List (Option Value) → List (List ℕ) → List NamedValue
named_cells [] names = []
named_cells (v ∷ vs) [] = []
named_cells (v ∷ vs) (name ∷ names) = with_cell name v (named_cells vs names)

-- the mutation that a row is
abbrev pub row_mutation : Heading → BatchRow → Mutation
row_mutation heading row =
    record {
      kind = heading.kind;
      table = heading.table;
      key = row.key;
      cells = named_cells row.cells heading.columns;
    }

abbrev pub row_mutations : Heading → List BatchRow → List Mutation
row_mutations heading rows = map (row_mutation heading) rows

-- the mutations of batches, one after another
abbrev pub batch_mutations : List (List Mutation) → List Mutation
batch_mutations [] = []
batch_mutations (batch ∷ batches) = batch ++ batch_mutations batches
