-- What a query means, by what the queries of its derived tables mean.
use Rattle.std.proofs.Common.{◌≡◌, List, [], ◌∷◌, map, drop, get_or, length, ℕ, ◌+◌, ◌<◌, Some, None, Err, ap, sym, ◌∙◌, refl}
use Rattle.std.specs.List.{fold}
use Rattle.span_value.proofs.Lists.{drop_read}
use Rattle.span_query.specs.declared.query.BoundQuery.{BoundQuery}
use Rattle.span_query.specs.declared.query.BoundQuery.TheFolds.{fold_out-BoundQuery}
use Rattle.span_query.specs.declared.query.BoundQuery.TheViews.{out-BoundQuery}
use Rattle.span_query.specs.declared.query.Join.{Join}
use Rattle.span_query.specs.Rows.{Row, Rows, ◌>>=◌}
use Rattle.span_query.specs.Layers.{map_item, map_join, map_layer}
use Rattle.span_query.proofs.Layers.{layer_mapped}
use Rattle.span_query.specs.Meaning.{meaning_over, item_rows, join_rows, join_next, query_rows}
use Rattle.span_expr.specs.declared.cell.Failure.{Failure}
use Rattle.span_expr.specs.declared.cell.Failure.TheVariants.{Fault, OutOfMemory}
use Rattle.span_conditions.specs.Answers.{Gives}
use Rattle.span_algebra.specs.Sources.{GivesRows}

pub meaning_is : (tables : ℕ → Rows) (q : BoundQuery) → meaning_over tables q ≡ query_rows tables (map_layer (meaning_over tables) (out-BoundQuery q))
meaning_is tables q = fold_out-BoundQuery Rows (query_rows tables) q ∙ ap (query_rows tables) (layer_mapped (meaning_over tables) (out-BoundQuery q))

-- a fault stays one along the joins
pub joins-none : (tables : ℕ → Rows) (js : List (Join Rows)) → fold (join_next tables) None js ≡ None
joins-none tables [] = refl
joins-none tables (j ∷ js) = joins-none tables js

pub ruleset query_laws = (meaning_is, joins-none)

pub joins-fail : (why : Failure) (tables : ℕ → Rows) (o : Rows) (js : List (Join Rows)) → Gives {A = List Row} (Err why) o → GivesRows (Err why) (fold (join_next tables) o js)
joins-fail Fault tables o js gives = ap (λ (p : Rows). fold (join_next tables) p js) gives ∙ joins-none tables js
joins-fail OutOfMemory tables o js gives = tt {0}

-- the join at a place, and the joins after it
pub joins_at : (tables : ℕ → Rows) (js : List (Join BoundQuery)) (k : ℕ) (j : Join BoundQuery) (rows seen : List Row) → k < length js → j ≡ get_or js k j → seen ≡ rows → fold (join_next tables) (Some rows) (map (map_join (meaning_over tables)) (drop k js)) ≡ fold (join_next tables) (item_rows tables (map_item (meaning_over tables) j.item) >>= join_rows j seen) (map (map_join (meaning_over tables)) (drop (k + 1) js))
joins_at tables js k j rows seen below is same =
    ap (λ (l : List (Join BoundQuery)). fold (join_next tables) (Some rows) (map (map_join (meaning_over tables)) l)) (drop_read js k j below is)
    ∙ ap (λ (r : List Row). fold (join_next tables) (item_rows tables (map_item (meaning_over tables) j.item) >>= join_rows j r) (map (map_join (meaning_over tables)) (drop (k + 1) js))) (sym same)
