use Rattle.std.proofs.Common.{◌≡◌, ◌∙◌, Bool, true, ap, sym}
use Rattle.std.proofs.lemmas.Result.{IfOk-weaker}
use Rattle.span_expr.specs.declared.expr.Expr.{Expr}
use Rattle.span_expr.specs.declared.expr.Expr.TheVariants.{Between}
use Rattle.span_celltests.specs.CellTests.{AddsNeeded, AddsTests, between_at, condition_at}
use Rattle.span_celltests.proofs.CellTests.{at_between, same_added, same_needed}
use Rattle.span_celltests.proofs.cell_test.add_test.Goals as goal

pub returns-in-Between-clause-all : goal.returns-in-Between-clause-all
returns-in-Between-clause-all c =
    let schema = c.args.schema.now in
    let n = c.args.table in
    let e : Expr = c.args.condition.now in
    let operand : Expr = c.get-in-Between.result.now in
    let low : Expr = c.get-in-Between-2.result.now in
    let high : Expr = c.get-in-Between-3.result.now in
    let old = c.args.tests.now.items in
    let new = c.add_between.new.tests.items in
    let is : e ≡ Between operand low high =
    c.in-Between.is
    ∙ ap (λ (x : Expr). Between x c.in-Between.low c.in-Between.high) (sym c.get-in-Between.ensures)
    ∙ ap (λ (x : Expr). Between operand x c.in-Between.high) (sym c.get-in-Between-2.ensures)
    ∙ ap (λ (x : Expr). Between operand low x) (sym c.get-in-Between-3.ensures) in
    IfOk-weaker c.add_between.result (λ (all : Bool). all ≡ true → AddsTests schema n (between_at schema operand low high) old new) (λ (all : Bool). all ≡ true → AddsTests schema n (condition_at schema e) old new)
    (λ all so is_all. same_added schema n (between_at schema operand low high) (condition_at schema e) old new (at_between schema e operand low high is) (so is_all))
    c.add_between.ensures.all

pub returns-in-Between-clause-some : goal.returns-in-Between-clause-some
returns-in-Between-clause-some c =
    let schema = c.args.schema.now in
    let n = c.args.table in
    let e : Expr = c.args.condition.now in
    let operand : Expr = c.get-in-Between.result.now in
    let low : Expr = c.get-in-Between-2.result.now in
    let high : Expr = c.get-in-Between-3.result.now in
    let old = c.args.tests.now.items in
    let new = c.add_between.new.tests.items in
    let is : e ≡ Between operand low high =
    c.in-Between.is
    ∙ ap (λ (x : Expr). Between x c.in-Between.low c.in-Between.high) (sym c.get-in-Between.ensures)
    ∙ ap (λ (x : Expr). Between operand x c.in-Between.high) (sym c.get-in-Between-2.ensures)
    ∙ ap (λ (x : Expr). Between operand low x) (sym c.get-in-Between-3.ensures) in
    IfOk-weaker c.add_between.result (λ (all : Bool). AddsNeeded schema n (between_at schema operand low high) old new) (λ (all : Bool). AddsNeeded schema n (condition_at schema e) old new)
    (λ all so. same_needed schema n (between_at schema operand low high) (condition_at schema e) old new (at_between schema e operand low high is) so)
    c.add_between.ensures.some
