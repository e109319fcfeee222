use Rattle.std.proofs.Common.{rules, ◌≡◌, ◌∙◌, Err, List, ap, subst}
use Rattle.std.specs.Prelude.{MatchResult}
use Rattle.std.specs.List.{AllZip}
use Rattle.span_conditions.specs.Answers.{Gives}
use Rattle.span_expr.specs.declared.expr.Expr.{Expr}
use Rattle.span_query.specs.Rows.{Row, filter_rows, holds}
use Rattle.span_rows.specs.LentRows.{lent_rows}
use Rattle.rayon.proofs.ToStd.{slice-AllZip}
use Rattle.span_algebra.proofs.Marks.{IsMark, found_marks, judged_rows}
use Rattle.span_algebra.proofs.kept.judge_rows.Goals as goal

pub returns : goal.returns
returns g c =
    let condition : Expr = c.map.result.f.1.now in
    let same : condition ≡ c.args.condition.now = search rules in
    let rows = c.args.rows.now in
    let found = c.in_ok-collect.ensures in
    let chain = found.1 in
    let slice = ap (λ it. it.slice.now) c.map.ensures.base ∙ c.par_iter.ensures in
    let each = slice-AllZip chain.0 rows (chain.1 ∙ slice) (λ row r. Gives r (holds condition row.now)) found.0 chain.2 in
    let marks = found_marks condition (λ made. made.items) (lent_rows rows) found.0 c.in_ok-collect.field-0 (judged_rows condition rows found.0 each) found.2 in
    subst (λ (e : Expr). MatchResult c.in_ok-collect.field-0 (λ made. AllZip (IsMark e) (lent_rows rows) made.items) (λ why. Gives {A = List Row} (Err why) (filter_rows e (lent_rows rows)))) same marks
