use Rattle.std.proofs.Common.{ℕ, Bool, true, List, Option, subst}
use Rattle.std.proofs.lemmas.Result.{IfOk-weaker}
use Rattle.span_expr.specs.declared.expr.Expr.{Expr}
use Rattle.span_query.specs.Rows.{Row}
use Rattle.span_entries.specs.Entries.{IsWhetherOf}
use Rattle.span_tablescan.specs.Scans.{IsTestOf, IsAddedWhere}
use Rattle.span_tablescan.proofs.ScannedRows.{own_taken}
use Rattle.span_tablescan.proofs.scan.take_entry.Goals as goal

pub returns-in-OnColumns-clause-ok : goal.returns-in-OnColumns-clause-ok
returns-in-OnColumns-clause-ok c =
    let schema = c.args.schema.now in
    let scan = c.args.scan.now in
    let n : ℕ = scan.reader.table in
    let kept : List Bool = scan.leaf.now.kept in
    let w : Option Expr = scan.leaf.now.filter in
    let key : List ℕ = c.args.entry.now.key.now in
    let cells : List ℕ = c.args.entry.now.row.now in
    let old : List Row = c.args.rows.now in
    let new : List Row = c.add_row_after.new.rows in
    let whether : IsWhetherOf schema n key true = subst (IsWhetherOf schema n key) c.if-not-is_own_key.false c.is_own_key.ensures in
    let test = subst (IsTestOf schema n kept w scan.needed) c.in-OnColumns.is c.requires.scan.test in
    IfOk-weaker c.add_row_after.result _ _ (λ found added. own_taken schema n kept w key cells found old new whether (subst (λ (ms : List Bool). IsAddedWhere schema n ms w key cells found old new) c.requires.scan.mask (added w test.2))) c.add_row_after.ensures.ok
