use Rattle.std.proofs.Common.{rules, ◌≡◌, ◌∙◌, Err, List, Some, ap, subst, sym}
use Rattle.span_query.specs.Rows.{Row, Rows}
use Rattle.span_query.specs.Meaning.{given, meaning_over}
use Rattle.span_conditions.specs.Answers.{Gives}
use Rattle.span_gather.proofs.finish.rows_in_order.Goals as goal

pub returns-in_err-rows : goal.returns-in_err-rows
returns-in_err-rows g c =
    let why = c.in_err-rows.field-0.0 in
    let answer = subst (λ (tables : List Rows). Gives {A = List Row} (Err why) (meaning_over (given tables) c.args.top.now)) c.in_ok-tables.ensures c.in_err-rows.ensures in
    search (rules, answer)

pub returns-in-Some : goal.returns-in-Some
returns-in-Some g c =
    let found : meaning_over (given c.in_ok-tables.tables) c.args.top.now ≡ Some c.in-Some.rows = search rules in
    ap (λ (tables : List Rows). meaning_over (given tables) c.args.top.now) (sym c.in_ok-tables.ensures)
    ∙ found
    ∙ ap (λ (rows : List Row). Some rows) (sym c.of_list.ensures)
