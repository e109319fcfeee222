use Rattle.std.proofs.Common.{◌≡◌, ◌∙◌, ap, length, Option, rules}
use Rattle.span_query.specs.declared.query.Limit.{Limit}
use Rattle.span_query.specs.Sorting.{sorted}
use Rattle.span_query.specs.Meaning.{limit_rows}
use Rattle.span_sorting.proofs.RowOrder.{sorted_by_none}
use Rattle.span_sorting.proofs.sort.is_as_it_is.Goals as goal

pub returns-in-None : goal.returns-in-None
returns-in-None c = λ yes rows.
    let none : length c.args.keys.now ≡ 0 = search (rules, yes) in
    ap (λ (l : Option Limit). limit_rows l (sorted c.args.keys.now rows)) c.in-None.is ∙ sorted_by_none c.args.keys.now rows none
