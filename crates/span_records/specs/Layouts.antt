-- Which field of a record is for which column, and the mutation that a record's fields make.
use Rattle.std.specs.Prelude.{◌≡◌, ◌⊎◌, ℕ, ◌==◌, ◌<◌, List, Option, Some, None, not, map, filter, position, length, get_or, slice_get}
use Rattle.std.specs.List.{list_any, AllZip, enumerate_from}
use Rattle.csv.specs.Records.{field_at}
use Rattle.span_value.specs.declared.value.Kind.{Kind}
use Rattle.span_value.specs.declared.value.Value.{Value}
use Rattle.span_value.specs.Cells.{IsCell}
use Rattle.span_schema.specs.declared.table.Column.{Column}
use Rattle.span_schema.specs.declared.table.Table.{Table}
use Rattle.span_schema.specs.Tables.{kind_of}
use Rattle.span_schema.specs.Numbers.{number_named, columns_of, key_places}
use Rattle.span_mutate.specs.declared.mutation.NamedValue.{NamedValue}
use Rattle.span_mutate.specs.declared.mutation.Mutation.{Mutation}
use Rattle.span_mutate.specs.declared.mutation.MutationKind.{MutationKind}
use Rattle.span_mutate.specs.declared.batch.Heading.{Heading}
use Rattle.span_mutate.specs.declared.batch.BatchRow.{BatchRow}
use Rattle.span_mutate.specs.Batches.{row_mutation}
use Rattle.span_records.specs.declared.layout.RecordLayout.{RecordLayout}
use Rattle.span_records.specs.declared.layout.KeyField.{KeyField}
use Rattle.span_records.specs.declared.layout.CellField.{CellField}
use Rattle.span_value.specs.declared.refusal.Refusal.{Refusal}
use Rattle.span_value.specs.declared.refusal.Refusal.TheVariants as refusal
use Rattle.span_records.specs.Columns.{ArePlaces, NamesNone}

-- ---- what a layout says of records

-- the field at a place is the cell of a value of the kind
abbrev pub IsFieldCell : List (List ℕ) → ℕ → Kind → Value → Type 0
IsFieldCell fields at kind value = (text : List ℕ) × (field_at fields at ≡ Some text) × IsCell kind value text

abbrev pub IsKeyCell : List (List ℕ) → KeyField → Value → Type 0
IsKeyCell fields part value = IsFieldCell fields part.at part.kind value

abbrev pub IsColumnCell : List (List ℕ) → CellField → NamedValue → Type 0
IsColumnCell fields part cell = (cell.column ≡ part.column) × IsFieldCell fields part.at part.kind cell.value

-- the value of a column's field
abbrev pub IsColumnValue : List (List ℕ) → CellField → Option Value → Type 0
IsColumnValue fields part cell = (value : Value) × (cell ≡ Some value) × IsFieldCell fields part.at part.kind value

abbrev pub column_names : List CellField → List (List ℕ)
column_names parts = map (λ (part : CellField). part.column) parts

-- what the mutations of records have in common
abbrev pub heading_of : RecordLayout → MutationKind → Heading
heading_of layout kind =
    record { kind = kind; table = layout.table; columns = column_names layout.cells.items }

-- the mutation of a record: as many fields as the layout has, and the values are those of their cells
abbrev pub IsOfRecord : RecordLayout → MutationKind → List (List ℕ) → Mutation → Type 0
IsOfRecord layout kind fields m = (length fields ≡ layout.fields) × (m.kind ≡ kind) × (m.table ≡ layout.table)
    × AllZip (IsKeyCell fields) layout.key.items m.key × AllZip (IsColumnCell fields) layout.cells.items m.cells

-- the row of a record: under the layout's heading it is the mutation of the record, whatever that does
abbrev pub IsRowOf : RecordLayout → List (List ℕ) → BatchRow → Type 0
IsRowOf layout fields row =
    (kind : MutationKind) → IsOfRecord layout kind fields (row_mutation (heading_of layout kind) row)

-- ---- which layout names of columns have

-- the column at a place is this one
abbrev pub IsColumnAt : List Column → ℕ → Column → Type 0
IsColumnAt columns place column = slice_get columns place ≡ Some column

-- the field for the key's column at a place: the first that is for it
abbrev pub IsKeyField : List Column → List ℕ → ℕ → KeyField → Type 0
IsKeyField columns places place part =
    (position (λ p. p == place) places ≡ Some part.at)
    × ((column : Column) × IsColumnAt columns place column × (part.kind ≡ kind_of column.kind))

-- the field for a column outside the key
abbrev pub IsCellField : List Column → ℕ × ℕ → CellField → Type 0
IsCellField columns (at, place) part =
    (part.at ≡ at) × ((column : Column) × IsColumnAt columns place column × (part.kind ≡ kind_of column.kind)
    × (part.column ≡ column.name))

-- the fields whose columns are not in the key, each with its column's place
abbrev pub outside_key : List ℕ → List ℕ → List (ℕ × ℕ)
outside_key key places = filter (λ field. not (list_any (λ place. place == field.1) key)) (enumerate_from 0 places)

-- the layout of records of a table whose fields are for the columns at these places
abbrev pub IsLayout : List Table → ℕ → List ℕ → RecordLayout → Type 0
IsLayout tables n places layout = (layout.fields ≡ length places)
    × AllZip (IsKeyField (columns_of tables n) places) (key_places tables n) layout.key.items
    × AllZip (IsCellField (columns_of tables n)) (outside_key (key_places tables n) places) layout.cells.items

-- a column of the key is at none of the places
abbrev pub LacksKey : List ℕ → List ℕ → Type 0
LacksKey key places = (i : ℕ) × (i < length key) × (position (λ p. p == get_or key i 0) places ≡ None)

-- ---- the layouts of commands

-- each is the place of a column
abbrev pub AreWithin : List Column → List ℕ → Type 0
AreWithin columns places = (i : ℕ) → i < length places → get_or places i 0 < length columns

-- the columns that a text names are none, or do not have all of the key
abbrev pub HasNoPlaces : List Column → List ℕ → List ℕ → Refusal → Type 0
HasNoPlaces columns key text why = ((why ≡ refusal.NoColumn) × NamesNone columns text)
    ⊎ ((why ≡ refusal.WrongType) × ((places : List ℕ) × ArePlaces columns text places × LacksKey key places))

-- the layout of the columns that a text names, of the table with a name
abbrev pub IsLayoutOf : List Table → List ℕ → List ℕ → RecordLayout → Type 0
IsLayoutOf tables table text layout =
    (n : ℕ) × (number_named tables table ≡ Some n) × ((places : List ℕ) × ArePlaces (columns_of tables n) text places
    × (layout.table ≡ table) × IsLayout tables n places layout)

-- the layout of the key's columns alone
abbrev pub IsKeyLayoutOf : List Table → List ℕ → RecordLayout → Type 0
IsKeyLayoutOf tables table layout =
    (n : ℕ) × (number_named tables table ≡ Some n) × (layout.table ≡ table)
    × IsLayout tables n (key_places tables n) layout

-- Why there is no layout: no table has the name, else the text names no columns, else a column of the key is not among
-- them.
abbrev pub HasNoLayout : List Table → List ℕ → List ℕ → Refusal → Type 0
HasNoLayout tables table text why = ((why ≡ refusal.NoTable) × (number_named tables table ≡ None))
    ⊎ ((n : ℕ) × (number_named tables table ≡ Some n)
    × HasNoPlaces (columns_of tables n) (key_places tables n) text why)
