-- Queries whose tables have numbers of the statement's tables.
use Rattle.std.specs.Prelude.{ℕ, nat_le, Bool, ◌&&◌, List, length}
use Rattle.std.specs.List.{list_all}
use Rattle.span_query.specs.declared.query.BoundQuery.{BoundQuery}
use Rattle.span_query.specs.declared.query.BoundQuery.TheOpen.{BoundQuery-F}
use Rattle.span_query.specs.declared.query.BoundQuery.TheFolds.{fold-BoundQuery}
use Rattle.span_query.specs.declared.query.Block.{Block}
use Rattle.span_query.specs.declared.query.Item.{Item}
use Rattle.span_query.specs.declared.query.Item.TheVariants as item
use Rattle.span_query.specs.declared.query.Join.{Join}
use Rattle.span_query.specs.Layers.{map_item, map_join}

-- the number of a table of the statement
abbrev pub is_number : List ℕ → ℕ → Bool
is_number tables n = nat_le 1 n && nat_le n (length tables)

abbrev pub numbered_item : List ℕ → Item Bool → Bool
numbered_item tables (item.Table n) = is_number tables n
numbered_item tables (item.Derived q) = q

abbrev pub numbered_join : List ℕ → Join Bool → Bool
numbered_join tables j = numbered_item tables j.item

abbrev pub numbered_block : List ℕ → Block Bool → Bool
numbered_block tables b = numbered_item tables b.from && list_all (numbered_join tables) b.joins

abbrev pub numbered_query : List ℕ → BoundQuery-F Bool → Bool
numbered_query tables q = numbered_block tables q.first && list_all (numbered_block tables) q.others

-- the tables of the query, and of its derived tables, have such numbers
abbrev pub is_numbered : List ℕ → BoundQuery → Bool
is_numbered tables = fold-BoundQuery Bool (numbered_query tables)

-- the same of parts of a query
abbrev pub is_numbered_item : List ℕ → Item BoundQuery → Bool
is_numbered_item tables i = numbered_item tables (map_item (is_numbered tables) i)

abbrev pub is_numbered_join : List ℕ → Join BoundQuery → Bool
is_numbered_join tables j = numbered_join tables (map_join (is_numbered tables) j)

abbrev pub are_numbered_joins : List ℕ → List (Join BoundQuery) → Bool
are_numbered_joins tables joins = list_all (is_numbered_join tables) joins

abbrev pub is_numbered_block : List ℕ → Block BoundQuery → Bool
is_numbered_block tables b = is_numbered_item tables b.from && are_numbered_joins tables b.joins

abbrev pub are_numbered_blocks : List ℕ → List (Block BoundQuery) → Bool
are_numbered_blocks tables blocks = list_all (is_numbered_block tables) blocks
