use Rattle.std.proofs.Common.{◌≡◌, ◌∙◌, ◌+◌, ◌++◌, ◌∷◌, ◌&&◌, [], ap, sym, subst, append_assoc, drop, List, rules}
use denote.Ref.{Bor}
use Rattle.std.specs.List.{AllByRecursion}
use Rattle.span_value.proofs.Lists.{drop_read}
use Rattle.span_query.specs.Rows.{Row}
use Rattle.span_sorting.specs.declared.coded.CodedRow.{CodedRow}
use Rattle.span_sorting.specs.Codes.{IsCodedAs, are_exact, uncoded}
use Rattle.span_rows.specs.LentRows.{lent_rows}
use Rattle.span_sorting.proofs.CodedRows.{uncoded_more, coded_more}
use Rattle.span_sorting.proofs.coded.code_rows.Goals as goal

pub loop-row-preserved : goal.loop-row-preserved
loop-row-preserved c =
    let keys = c.args.keys.now in
    let rows : List (Bor Row) = c.args.rows.now in
    let i = c.loop-row.row-index in
    let row : Bor Row = c.row-item.result in
    let xs : List CodedRow = c.loop-row.all.items in
    let x : CodedRow = c.code_row.result in
    let rest : List Row = lent_rows (drop (i + 1) rows) in
    let items : c.push.new.self.items ≡ xs ++ x ∷ [] = search rules in
    let left : drop i rows ≡ row ∷ drop (i + 1) rows = drop_read rows i row c.loop-row-test.true c.row-item.is in
    let is : x.row.now ≡ row.now = c.code_row.ensures.row in
    let both : c.exact_with-exact.result ≡ (c.loop-row.exact && are_exact keys x.row.now) =
    c.exact_with-exact.ensures ∙ ap (λ (r : Row). c.loop-row.exact && are_exact keys r) (sym is) in
    record {
      rows = c.loop-row.invariant.rows
          ∙ ap (λ (l : List (Bor Row)). uncoded xs ++ lent_rows l) left
          ∙ ap (λ (r : Row). uncoded xs ++ r ∷ rest) (sym is)
          ∙ sym (append_assoc (uncoded xs) (x.row.now ∷ []) rest)
          ∙ ap (λ (l : List Row). l ++ rest) (sym (uncoded_more xs x))
          ∙ ap (λ (l : List CodedRow). uncoded l ++ rest) (sym items);
      coded = subst (AllByRecursion (IsCodedAs keys c.exact_with-exact.result)) (sym items)
          (coded_more keys c.loop-row.exact c.exact_with-exact.result xs x c.loop-row.invariant.coded c.code_row.ensures.coded both);
    }
