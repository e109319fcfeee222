use Rattle.std.proofs.Common.{◌≡◌, ◌∙◌, ◌<◌, ◌++◌, [], ℕ, List, Ok, Result, ap, arith, length, sym, subst}
use Rattle.std.specs.Prelude.{filter}
use Rattle.std.proofs.lemmas.Result.{err_from_is_err_and}
use Rattle.span_shard.specs.Shard.{KeyRow}
use Rattle.span_shard.specs.Reading.{has_short_key}
use Rattle.span_expr.specs.declared.cell.Failure.{Failure}
use Rattle.span_query.specs.Rows.{Row}
use Rattle.span_columns.specs.declared.leaf.Leaf.{Leaf}
use Rattle.span_tablescan.specs.Given.{IsEnoughOn}
use Rattle.span_tablescan.specs.Scans.{IsTakenBy}
use Rattle.span_collected.specs.KeptGroups.{grouped_rows}
use Rattle.span_collected.specs.declared.reduction.Reduction.{Reduction}
use Rattle.span_tablescan.proofs.ScannedRows.{EnoughBefore, enough_first, enough_after, enough_kept, scan_enough, scan_fails, scan_refused}
use Rattle.span_tablescan.proofs.scan.scan_rows.Goals as goal

pub loop-late-init : goal.loop-late-init
loop-late-init c =
    let schema = c.args.schema.now in
    let scan = c.args.scan.now in
    let leaf : Leaf = scan.leaf.now in
    let r : Reduction = c.args.reduction.now in
    let n : ℕ = scan.reader.table in
    let short : List KeyRow = filter (has_short_key scan.reader.most) c.args.snapshot in
    let none : grouped_rows c.in_ok-groups.groups ++ c.new-rows.result ≡ [] =
    ap (λ (l : List Row). l ++ c.new-rows.result) c.in_ok-groups.ensures ∙ c.new-rows.ensures in
    subst (λ (es : List KeyRow). EnoughBefore schema n leaf.kept leaf.filter r short es (grouped_rows c.in_ok-groups.groups ++ c.new-rows.result)) (sym c.with_short_keys-late_rows.ensures)
    (subst (λ (rows : List Row). EnoughBefore schema n leaf.kept leaf.filter r short short rows) (sym none) (enough_first schema n leaf.kept leaf.filter r short))

pub loop-late-preserved : goal.loop-late-preserved
loop-late-preserved c =
    let schema = c.args.schema.now in
    let scan = c.args.scan.now in
    let leaf : Leaf = scan.leaf.now in
    let r : Reduction = c.args.reduction.now in
    let n : ℕ = scan.reader.table in
    let short : List KeyRow = filter (has_short_key scan.reader.most) c.args.snapshot in
    let x : KeyRow = c.in-Some.late in
    let front : List Row = grouped_rows c.loop-late.groups in
    let old : List Row = c.loop-late.rows in
    let new : List Row = c.take_late.new.rows in
    let Q : Result (Unit {0}) Failure → Type 0 = λ found. IsTakenBy schema scan x.key x.row found old new in
    let last : List Row = grouped_rows c.keep_counted.new.groups ++ c.keep_counted.new.rows in
    subst (λ (es : List KeyRow). EnoughBefore schema n leaf.kept leaf.filter r short es last) (sym c.look_where_due-has_keys.ensures)
    (enough_kept schema n leaf.kept leaf.filter r short c.next_late.new.self (front ++ new) last
    (enough_after schema n leaf.kept leaf.filter r short c.loop-late.late_rows c.next_late.new.self x front old new c.in-Some.ensures c.loop-late.invariant (subst Q c.in-Ok.is c.in_ok-taken.ensures.ok))
    c.in_ok-keep_counted.ensures)

pub loop-late-smaller : goal.loop-late-smaller
loop-late-smaller c =
    let x : KeyRow = c.in-Some.late in
    let rest : List KeyRow = c.next_late.new.self in
    subst (λ (es : List KeyRow). length es < length c.loop-late.late_rows) (sym c.look_where_due-has_keys.ensures)
    (subst (λ (es : List KeyRow). length rest < length es) (sym c.in-Some.ensures) (omega arith))

pub returns-in_err-taken-clause-refused : goal.returns-in_err-taken-clause-refused
returns-in_err-taken-clause-refused c =
    let scan = c.args.scan.now in
    let is = c.requires.scan in
    let p = err_from_is_err_and c.from_residual-in_err-taken.result c.from_residual-in_err-taken.ensures.1 in
    rw (p.1, p.2)
    (scan_refused c.args.schema.now scan.leaf.now scan.reader.table scan.reader.most is.tables is.joins is.reader.longest c.args.snapshot c.args.reduction.now c.loop-late.late_rows c.next_late.new.self c.in-Some.late (grouped_rows c.loop-late.groups) c.loop-late.rows
    c.in-Some.ensures c.loop-late.invariant c.in_err-taken.ensures.refused)

pub returns-in-Err-clause-ok : goal.returns-in-Err-clause-ok
returns-in-Err-clause-ok c =
    let schema = c.args.schema.now in
    let scan = c.args.scan.now in
    let is = c.requires.scan in
    let x : KeyRow = c.in-Some.late in
    let old : List Row = c.loop-late.rows in
    let new : List Row = c.take_late.new.rows in
    let Q : Result (Unit {0}) Failure → Type 0 = λ found. IsTakenBy schema scan x.key x.row found old new in
    scan_fails schema scan.leaf.now scan.reader.table scan.reader.most is.tables is.joins is.reader.longest c.args.snapshot c.args.reduction.now c.loop-late.late_rows c.next_late.new.self x (grouped_rows c.loop-late.groups) old new c.in-Err.failure c.in-Some.ensures
    c.loop-late.invariant (subst Q c.in-Err.is c.in_ok-taken.ensures.ok)

pub returns-clause-ok : goal.returns-clause-ok
returns-clause-ok c =
    let scan = c.args.scan.now in
    let is = c.requires.scan in
    let found : List Row = grouped_rows c.loop-late.groups ++ c.loop-late.rows in
    subst (λ (l : List Row). IsEnoughOn c.args.schema.now scan.leaf.now c.args.reduction.now c.args.snapshot (Ok l)) (sym {A = List Row} c.new.ensures)
    (scan_enough c.args.schema.now scan.leaf.now scan.reader.table scan.reader.most is.tables is.joins is.reader.longest c.args.snapshot c.args.reduction.now c.loop-late.late_rows found c.in_default.ensures.0 c.loop-late.invariant)
