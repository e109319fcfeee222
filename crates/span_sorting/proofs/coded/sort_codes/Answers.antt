use Rattle.std.proofs.Common.{rules, ◌≡◌, sym, subst, List}
use Rattle.std.specs.List.{AllByRecursion}
use Rattle.span_query.specs.Sorting.{insertion_sort}
use Rattle.span_sorting.specs.declared.coded.CodedRow.{CodedRow}
use Rattle.span_sorting.specs.Codes.{IsCodedAs, code_before}
use Rattle.span_sorting.proofs.CodedRows.{in_code_order, sorted_by_codes}
use Rattle.span_sorting.proofs.Sorting.{all_in_order}
use Rattle.span_sorting.proofs.coded.sort_codes.Goals as goal

pub returns-clause-rows : goal.returns-clause-rows
returns-clause-rows c =
    let keys = c.args.keys.now in
    let exact = c.args.rows.are_exact in
    sorted_by_codes keys exact c.args.rows.rows.items c.sort_by.new.self.items c.in_ok-sort_by.ensures.sorted c.sort_by.ensures.stable c.requires (λ a r q k. search rules)

pub returns-clause-coded : goal.returns-clause-coded
returns-clause-coded c =
    let keys = c.args.keys.now in
    let exact = c.args.rows.are_exact in
    let xs : List CodedRow = c.args.rows.rows.items in
    let ys : List CodedRow = c.sort_by.new.self.items in
    let order : ys ≡ insertion_sort (code_before keys exact) xs =
    in_code_order keys exact (λ (x : CodedRow). x) xs ys c.in_ok-sort_by.ensures.sorted c.sort_by.ensures.stable (λ a r q k. search rules) in
    subst (AllByRecursion (IsCodedAs keys exact)) (sym order) (all_in_order (code_before keys exact) (IsCodedAs keys exact) xs c.requires)
