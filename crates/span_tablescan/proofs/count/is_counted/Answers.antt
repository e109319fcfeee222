use Rattle.std.proofs.Common.{rules, ◌≡◌, ◌∙◌, ℕ, true, List, ap, subst, sym}
use Rattle.std.specs.List.{list_all}
use Rattle.span_value.specs.declared.value.Value.{Value}
use Rattle.span_schema.specs.Numbers.{other_kinds}
use Rattle.span_columns.specs.declared.leaf.Leaf.{Leaf}
use Rattle.span_columns.specs.Picks.{picked_width}
use Rattle.span_celltests.specs.CellTests.{meets, IsWhetherPass}
use Rattle.span_tablescan.specs.Scans.{AreTestsWhere, IsTestOf}
use Rattle.span_tablescan.proofs.ScannedRows.{counted_taken}
use Rattle.span_tablescan.proofs.count.is_counted.Goals as goal

pub returns : goal.returns
returns c = λ rows.
    let schema = c.args.schema.now in
    let scan = c.args.scan.now in
    let leaf : Leaf = scan.leaf.now in
    let n : ℕ = scan.reader.table in
    let row : List ℕ = c.args.entry.now.row in
    let none : picked_width leaf.kept ≡ 0 = ap picked_width (sym c.requires.scan.mask) ∙ c.requires.count.width in
    let of : AreTestsWhere schema n leaf.filter scan.needed = subst (IsTestOf schema n leaf.kept leaf.filter scan.needed) c.requires.count.test c.requires.scan.test in
    let met : IsWhetherPass (other_kinds schema n) row (λ (cells : List Value). list_all (meets cells) scan.needed) true = search rules in
    counted_taken schema n leaf.kept leaf.filter c.args.entry.now.key row scan.needed rows c.is_own.result none of met c.is_own.ensures
