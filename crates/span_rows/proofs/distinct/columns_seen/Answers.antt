use Rattle.std.proofs.Common.{rules, ◌≡◌, ◌∙◌, ◌∷◌, ◌++◌, ◌+◌, ◌<◌, [], ap, sym, length, map, get_or, take, List}
use Rattle.std.proofs.lemmas.List.{take_more, map-append}
use denote.Ref.{Bor}
use Rattle.indexmap.specs.IndexSet.{insert_key}
use Rattle.span_query.specs.Rows.{Row}
use Rattle.span_query.specs.Groups.{are_equal, columns_at, distinct}
use Rattle.span_rows.specs.LentRows.{lent_rows}
use Rattle.span_rows.proofs.Firsts.{distinct-inserted}
use Rattle.span_rows.proofs.distinct.columns_seen.Goals as goal

pub loop-row-preserved : goal.loop-row-preserved
loop-row-preserved c =
    let columns = c.args.columns.now in
    let rows : List (Bor Row) = c.args.rows.now in
    let i = c.loop-row.row-index in
    let x : Bor Row = c.row-item.result in
    let row : Row = x.now in
    let key : Row = columns_at columns row in
    let taken : List (Bor Row) → List Row = λ (l : List (Bor Row)). map (columns_at columns) (lent_rows l) in
    let within : i < length rows = search rules in
    let is : x ≡ get_or rows i x = search rules in
    let inserted : c.insert.new.self.keys ≡ insert_key are_equal c.loop-row.seen.keys key = search rules in
    let more : take (i + 1) rows ≡ take i rows ++ x ∷ [] = take_more rows i x within ∙ ap (λ (y : Bor Row). take i rows ++ y ∷ []) (sym is) in
    let one : taken (take i rows ++ x ∷ []) ≡ taken (take i rows) ++ key ∷ [] =
    ap (map (columns_at columns)) (map-append (λ (r : Bor Row). r.now) (take i rows) (x ∷ [])) ∙ map-append (columns_at columns) (lent_rows (take i rows)) (row ∷ []) in
    distinct-inserted c.loop-row.seen.keys c.insert.new.self.keys (taken (take i rows)) key c.loop-row.invariant inserted
    ∙ ap (λ (l : List Row). distinct l) (sym one)
    ∙ ap (λ (l : List (Bor Row)). distinct (taken l)) (sym more)
