use Rattle.std.proofs.Common.{◌≡◌, ◌∙◌, ◌-◌, sym, ap, rules, min, length, take, drop, List, Option}
use denote.Ref.{Bor}
use Rattle.span_query.specs.Rows.{Row}
use Rattle.span_query.specs.declared.query.Limit.{Limit}
use Rattle.span_query.specs.Meaning.{limit_rows}
use Rattle.span_rows.specs.LentRows.{lent_rows}
use Rattle.span_sorting.proofs.Limits.{part_is}
use Rattle.span_rows.proofs.LentRows.{lent_part}
use Rattle.span_sorting.proofs.sort.limit_rows.Goals as goal

pub returns : goal.returns
returns c =
    let rows : List (Bor Row) = c.args.rows.now in
    let skip = c.in-Some.limit.skip in
    let count = c.in-Some.limit.rows in
    let first : c.min.result ≡ min (length rows) skip = search rules in
    let rest : List (Bor Row) = take (length rows - c.min.result) (drop c.min.result rows) in
    let second : c.min-2.result ≡ min (length rest) count = search rules in
    ap (λ n. lent_rows (take n rest)) second
    ∙ ap (λ m. lent_rows (take (min (length (take (length rows - m) (drop m rows))) count) (take (length rows - m) (drop m rows)))) first
    ∙ ap lent_rows (part_is count skip rows)
    ∙ lent_part rows skip count
    ∙ ap (λ (l : Option Limit). limit_rows l (lent_rows rows)) (sym c.in-Some.is)
