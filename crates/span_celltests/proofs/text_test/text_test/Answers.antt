use Rattle.std.proofs.Common.{◌≡◌, ◌∙◌, List, ℕ, ap, rules, sym}
use Rattle.span_value.specs.declared.value.Value.TheVariants.{Str}
use Rattle.span_expr.specs.declared.expr.Expr.TheVariants.{Literal}
use Rattle.span_celltests.proofs.CellTests.{text_tested}
use Rattle.span_celltests.proofs.text_test.text_test.Goals as goal

pub returns : goal.returns
returns c =
    let items : c.in_ok-bytes.bytes.items ≡ c.as_bytes.result.now = search rules in
    let text : c.from_vec.result ≡ c.in-Some.text.now = c.from_vec.ensures ∙ items ∙ c.as_bytes.ensures.value in
    text_tested c.args.schema.now c.args.table c.in-Column.place c.args.left.now c.args.right.now (record { cell = c.in-Some-column_cell.cell; comparison = c.args.comparison; text = c.from_vec.result })
    c.in-Column.is (c.in-Some.ensures ∙ ap (λ (t : List ℕ). Literal (Str t)) (sym text)) c.in-Some-column_cell.ensures
