-- What a schema keeps.
use Rattle.std.specs.Prelude.{◌≡◌, List, length, map}
use Rattle.std.specs.List.{range_with_len}
use Rattle.span_schema.specs.declared.table.Table.{Table}
use Rattle.span_schema.specs.declared.schema.Schema.TheInside.{Inside}
use Rattle.span_schema.specs.Lineages.{MeetsRules, lineage_at, children_at}
use Rattle.span_schema.specs.Layouts.{layout_of}

abbrev pub tables_of : Inside → List Table
tables_of a = a.tables.items

-- the tables meet the rules, and what is asked of them is worked out
pub record IsWorkedOut (a : Inside) : Type 0 where
  pub rules : MeetsRules a.tables.items
  pub lines : a.lines.items ≡ map (lineage_at a.tables.items) (range_with_len 0 (length a.tables.items))
  pub layouts : a.layouts.items ≡ map layout_of a.tables.items
  pub children : a.children.items ≡ map (children_at a.tables.items) (range_with_len 0 (length a.tables.items))
