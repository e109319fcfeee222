use Rattle.std.proofs.Common.{rules, ◌≡◌, ◌∙◌, List, ap, length, subst, sym, take_at}
use Rattle.std.specs.List.{AllByRecursion}
use Rattle.span_query.specs.Sorting.{sorted}
use Rattle.span_sorting.specs.declared.coded.CodedRow.{CodedRow}
use Rattle.span_sorting.specs.Codes.{IsCodedAs, uncoded}
use Rattle.span_sorting.proofs.CodedRows.{sorted_by_codes}
use Rattle.span_sorting.proofs.in_threads.sort_codes.Goals as goal

pub returns : goal.returns
returns g c =
    let keys = c.args.keys.now in
    let exact = c.args.rows.are_exact in
    let xs : List CodedRow = c.as_mut_slice.result.now in
    let ys : List CodedRow = c.par_sort_by.new.s in
    let same : xs ≡ c.args.rows.rows.items = search rules in
    let all : AllByRecursion (IsCodedAs keys exact) xs = subst (AllByRecursion (IsCodedAs keys exact)) (sym same) c.requires in
    let done : uncoded ys ≡ sorted keys (uncoded xs) = sorted_by_codes keys exact xs ys c.in_ok-par_sort_by.ensures.sorted c.in_ok-par_sort_by.ensures.stable all (λ a r q k. search rules) in
    let answer : uncoded ys ≡ sorted keys (uncoded c.args.rows.rows.items) = done ∙ ap (λ (l : List CodedRow). sorted keys (uncoded l)) same in
    let size : c.args.rows.rows.len ≡ length ys = search rules in
    ap uncoded (take_at ys _ _ (sym size)) ∙ answer
