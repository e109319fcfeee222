-- Queries where each derived table is replaced by something made of its query, such as what it means.
use Rattle.std.specs.Prelude.{map}
use Rattle.span_query.specs.declared.query.BoundQuery.TheOpen.{BoundQuery-F}
use Rattle.span_query.specs.declared.query.Block.{Block}
use Rattle.span_query.specs.declared.query.Item.{Item}
use Rattle.span_query.specs.declared.query.Item.TheVariants as item
use Rattle.span_query.specs.declared.query.Join.{Join}

abbrev pub map_item : {P Q : Type 0} → (P → Q) → Item P → Item Q
map_item g (item.Table n) = item.Table n
map_item g (item.Derived q) = item.Derived (g q)

abbrev pub map_join : {P Q : Type 0} → (P → Q) → Join P → Join Q
map_join g j = record { is_left = j.is_left; item = map_item g j.item; width = j.width; on = j.on }

abbrev pub map_block : {P Q : Type 0} → (P → Q) → Block P → Block Q
map_block g b =
    record {
      from = map_item g b.from;
      joins = map (map_join g) b.joins;
      filter = b.filter;
      grouping = b.grouping;
      outputs = b.outputs;
      is_distinct = b.is_distinct;
    }

abbrev pub map_layer : {P Q : Type 0} → (P → Q) → BoundQuery-F P → BoundQuery-F Q
map_layer g d =
    record { first = map_block g d.first; others = map (map_block g) d.others; order = d.order; limit = d.limit }
