-- The tables of a query have numbers of the statement's tables where those of its parts have.
use Rattle.std.proofs.Common.{◌≡◌, ◌∙◌, ℕ, zero, suc, ◌<◌, Bool, true, ◌&&◌, List, [], ◌∷◌, map, length, refl, ap, sym, arith}
use Rattle.std.specs.Prelude.{nat_le, slice_get}
use Rattle.std.specs.Option.{unwrap_or}
use Rattle.std.specs.List.{list_all, AllByRecursion}
use Rattle.std.proofs.lemmas.Bool.Decides.{nat_tests}
use Rattle.std.proofs.lemmas.Bool.{and_parts}
use Rattle.std.proofs.lemmas.List.Folds.{list_all-map}
use Rattle.span_schema.specs.declared.table.Table.{Table}
use Rattle.span_schema.specs.Numbers.{IsTable}
use Rattle.span_query.specs.declared.query.BoundQuery.{BoundQuery}
use Rattle.span_query.specs.declared.query.BoundQuery.TheFolds.{fold_out-BoundQuery}
use Rattle.span_query.specs.declared.query.BoundQuery.TheOpen.{BoundQuery-F}
use Rattle.span_query.specs.declared.query.BoundQuery.TheViews.{out-BoundQuery}
use Rattle.span_query.specs.declared.query.Block.{Block}
use Rattle.span_query.specs.Layers.{map_join, map_block}
use Rattle.span_query.proofs.Layers.{layer_mapped}
use Rattle.span_leaves.specs.Numbered.{is_number, numbered_join, numbered_block, numbered_query, is_numbered, is_numbered_item, is_numbered_block, are_numbered_blocks}
use Rattle.span_leaves.specs.Leaves.{table_of}

module _ (tables : List ℕ) where
  abbrev test : BoundQuery → Bool
  test = is_numbered tables

  block_is : (b : Block BoundQuery) → numbered_block tables (map_block test b) ≡ is_numbered_block tables b
  block_is b = ap (λ (t : Bool). is_numbered_item tables b.from && t) (list_all-map (numbered_join tables) (map_join test) b.joins)

  blocks_are : (bs : List (Block BoundQuery)) → list_all (numbered_block tables) (map (map_block test) bs) ≡ are_numbered_blocks tables bs
  blocks_are [] = refl
  blocks_are (b ∷ bs) =
      ap (λ (t : Bool). t && list_all (numbered_block tables) (map (map_block test) bs)) (block_is b)
      ∙ ap (λ (t : Bool). is_numbered_block tables b && t) (blocks_are bs)

  query_is : (q : BoundQuery) → is_numbered tables q ≡ (is_numbered_block tables (out-BoundQuery q).first && are_numbered_blocks tables (out-BoundQuery q).others)
  query_is q =
      let d : BoundQuery-F BoundQuery = out-BoundQuery q in
      fold_out-BoundQuery Bool (numbered_query tables) q
      ∙ ap (numbered_query tables) (layer_mapped test d)
      ∙ ap (λ (t : Bool). t && list_all (numbered_block tables) (map (map_block test) d.others)) (block_is d.first)
      ∙ ap (λ (t : Bool). is_numbered_block tables d.first && t) (blocks_are d.others)

  pub numbered_blocks : (q : BoundQuery) → is_numbered tables q ≡ true → (is_numbered_block tables (out-BoundQuery q).first ≡ true) × (are_numbered_blocks tables (out-BoundQuery q).others ≡ true)
  numbered_blocks q is = and_parts (is_numbered_block tables (out-BoundQuery q).first) (are_numbered_blocks tables (out-BoundQuery q).others) (sym (query_is q) ∙ is)

-- the table with a number of the statement's tables is one of the schema
pub table_is : (schema : List Table) (tables : List ℕ) (n : ℕ) → AllByRecursion (IsTable schema) tables → is_number tables n ≡ true → IsTable schema (table_of tables n)
table_is schema tables zero all is = cc
table_is schema tables (suc n) all is = at tables n all (let below : nat_le (suc n) (length tables) ≡ true = (and_parts (nat_le 1 (suc n)) (nat_le (suc n) (length tables)) is).1 in grind (arith, nat_tests)) where
  at : (ts : List ℕ) (k : ℕ) → AllByRecursion (IsTable schema) ts → k < length ts → IsTable schema (unwrap_or (slice_get ts k) 0)
  at [] k all below = absurd (omega arith)
  at (t ∷ ts) zero all below = all.0
  at (t ∷ ts) (suc k) all below = at ts k all.1 (omega arith)
