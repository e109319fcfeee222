use Rattle.std.proofs.Common.{rules, ◌≡◌, ◌∷◌, ◌++◌, [], ◌+◌, drop, Some, Err, sym, ap, ◌∙◌, arith}
use Rattle.span_query.specs.Rows.{Row, append_results, each}
use Rattle.span_query.specs.Groups.{aggregate, columns_at}
use Rattle.span_conditions.specs.Answers.{Gives}
use Rattle.span_groups.proofs.Together.{outcome_more, outcome_fails, outcomes_end}
use Rattle.span_groups.proofs.states.put_row.Goals as goal

pub returns-in_err-outcome : goal.returns-in_err-outcome
returns-in_err-outcome c all rows h =
    let key : Row = columns_at c.args.places.now c.args.first.now in
    let fails : Gives (Err c.in_err-outcome.field-0.0) (append_results (Some key) (each (aggregate rows) all)) =
    outcome_fails key all rows c.args.states.now h c.loop-state.state-index c.loop-state.values.items (c.loop-state.invariant all rows h) c.state-item.result c.loop-state-test.true c.state-item.is c.in_err-outcome.field-0.0 c.in_err-outcome.ensures in
    search (rules, fails)

pub loop-state-preserved : goal.loop-state-preserved
loop-state-preserved c all rows h =
    let key : Row = columns_at c.args.places.now c.args.first.now in
    let more : append_results (Some key) (each (aggregate rows) all) ≡ append_results (Some (c.loop-state.values.items ++ c.in_ok-outcome.field-0 ∷ [])) (each (aggregate rows) (drop (c.loop-state.state-index + 1) all)) =
    outcome_more key all rows c.args.states.now h c.loop-state.state-index c.loop-state.values.items (c.loop-state.invariant all rows h) c.state-item.result c.loop-state-test.true c.state-item.is c.in_ok-outcome.field-0 c.in_ok-outcome.ensures in
    more ∙ ap (λ (out : Row). append_results (Some out) (each (aggregate rows) (drop (c.loop-state.state-index + 1) all))) (sym {A = Row} c.in_ok-add.ensures)

pub returns : goal.returns
returns c all rows h =
    outcomes_end (columns_at c.args.places.now c.args.first.now) all rows c.args.states.now h c.loop-state.state-index c.loop-state.values.items (c.loop-state.invariant all rows h) (omega arith)
