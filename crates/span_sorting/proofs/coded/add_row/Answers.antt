use Rattle.std.proofs.Common.{rules, ◌≡◌, ◌∙◌, ◌++◌, ◌∷◌, ◌&&◌, [], ap, sym, subst, List}
use Rattle.std.specs.List.{AllByRecursion}
use Rattle.span_query.specs.Rows.{Row}
use Rattle.span_sorting.specs.declared.coded.CodedRow.{CodedRow}
use Rattle.span_sorting.specs.Codes.{IsCodedAs, are_exact, uncoded}
use Rattle.span_sorting.proofs.CodedRows.{uncoded_more, coded_more}
use Rattle.span_sorting.proofs.coded.add_row.Goals as goal

pub returns-clause-rows : goal.returns-clause-rows
returns-clause-rows c =
    let xs : List CodedRow = c.args.all.now.rows.items in
    let x : CodedRow = c.code_row.result in
    let items : c.push.new.self.items ≡ xs ++ x ∷ [] = search rules in
    ap uncoded items ∙ uncoded_more xs x ∙ ap (λ (r : Row). uncoded xs ++ r ∷ []) c.code_row.ensures.row

pub returns-clause-coded : goal.returns-clause-coded
returns-clause-coded c =
    let keys = c.args.keys.now in
    let old = c.args.all.now.are_exact in
    let both = c.exact_with-all.result in
    let xs : List CodedRow = c.args.all.now.rows.items in
    let x : CodedRow = c.code_row.result in
    let items : c.push.new.self.items ≡ xs ++ x ∷ [] = search rules in
    let is : both ≡ (old && are_exact keys x.row.now) =
    c.exact_with-all.ensures ∙ ap (λ (r : Row). old && are_exact keys r) (sym c.code_row.ensures.row) in
    subst (AllByRecursion (IsCodedAs keys both)) (sym items) (coded_more keys old both xs x c.requires c.code_row.ensures.coded is)
