-- What is asked of a table again and again.
use Rattle.std.specs.Prelude.{ℕ, ◌+◌, List, [], ◌∷◌, Option, if◌then◌else◌}
use Rattle.std.specs.List.{filter_map}
use Rattle.std.specs.Option.{option_map}
use Rattle.span_value.specs.declared.value.ColumnType.{ColumnType}
use Rattle.span_value.specs.declared.value.Kind.{Kind}
use Rattle.span_schema.specs.declared.table.Table.{Table}
use Rattle.span_schema.specs.declared.table.Column.{Column}
use Rattle.span_schema.specs.declared.table.KeyColumn.{KeyColumn}
use Rattle.span_schema.specs.declared.layout.KeyPart.{KeyPart}
use Rattle.span_schema.specs.declared.layout.Layout.{Layout}
use Rattle.span_schema.specs.declared.lineage.Lineage.{Lineage}
use Rattle.span_schema.specs.Tables.{kind_of, type_named, column_place, is_key_name}
use Rattle.span_schema.specs.Lineages.{is_parent}

-- a key column's kind and direction
abbrev pub key_part : List Column → KeyColumn → Option KeyPart
key_part columns k =
    option_map (λ (type : ColumnType). record { kind = kind_of type; desc = k.desc }) (type_named columns k.name)

abbrev pub key_parts : List Column → List KeyColumn → List KeyPart
key_parts columns key = filter_map (key_part columns) key

-- the places of the key's columns
abbrev pub key_places : List Column → List KeyColumn → List ℕ
key_places columns key = filter_map (λ (k : KeyColumn). column_place columns k.name) key

-- the places of the other columns, in order, the first of these columns being at place i
abbrev pub other_places : List KeyColumn → ℕ → List Column → List ℕ
other_places key i [] = []
other_places key i (c ∷ cs) =
    (if is_key_name key c.name then other_places key (i + 1) cs else i ∷ other_places key (i + 1) cs)

-- the kinds of the other columns, in order
abbrev pub other_kinds : List KeyColumn → List Column → List Kind
other_kinds key [] = []
other_kinds key (c ∷ cs) = (if is_key_name key c.name then other_kinds key cs else kind_of c.kind ∷ other_kinds key cs)

abbrev pub layout_of : Table → Layout
layout_of t =
    record {
      other_kinds = other_kinds t.key t.columns;
      key = key_parts t.columns t.key;
      key_places = key_places t.columns t.key;
      other_places = other_places t.key 0 t.columns;
    }

-- the numbers of the lines with a parent, the first of these lines having number n
abbrev pub children_in : ℕ → ℕ → List Lineage → List ℕ
children_in parent n [] = []
children_in parent n (l ∷ ls) =
    (if is_parent parent l.parent then n ∷ children_in parent (n + 1) ls else children_in parent (n + 1) ls)
