use Rattle.std.proofs.Common.{◌≡◌, ◌==◌, ◌∙◌, ◌+◌, ◌++◌, ◌∷◌, [], ℕ, List, Ok, ap, replicate, subst, sym, if◌then◌else◌}
use Rattle.span_query.specs.Rows.{Row}
use Rattle.span_shard.specs.Shard.{KeyRow}
use Rattle.span_columns.specs.declared.leaf.Leaf.{Leaf}
use Rattle.span_columns.specs.Picks.{picked_width}
use Rattle.span_entries.specs.Entries.{IsWhetherOf}
use Rattle.span_entries.specs.WholeKeys.{IsWhetherOfLength}
use Rattle.span_entries.proofs.WholeKeys.{whether_decided}
use Rattle.span_tablescan.specs.Scans.{AreTestsWhere, IsTaken, IsTestOf}
use Rattle.span_tablescan.proofs.ScannedRows.{both_false, counted_own, found_given, kept_more, one_counted}
use Rattle.span_tablescan.proofs.count.count_found.Goals as goal

pub loop-entry-preserved : goal.loop-entry-preserved
loop-entry-preserved c = λ sure.
    let schema = c.args.schema.now in
    let scan = c.args.scan.now in
    let own = c.args.own.now in
    let leaf : Leaf = scan.leaf.now in
    let n : ℕ = scan.reader.table in
    let x : KeyRow = c.in-Some.entry in
    let len : ℕ = c.key_len-len.result in
    let old : List Row = replicate c.loop-entry.count [] in
    let each = both_false c.loop-entry.is_unsure c.is_undecided-is_unsure.result sure in
    let none : picked_width leaf.kept ≡ 0 = ap picked_width (sym c.requires.scan.mask) ∙ c.requires.count.width in
    let of : AreTestsWhere schema n leaf.filter scan.needed = subst (IsTestOf schema n leaf.kept leaf.filter scan.needed) c.requires.count.test c.requires.scan.test in
    let decided : IsWhetherOfLength schema n len (len == own.len) = whether_decided schema c.meets_rules.ensures n own c.requires.own len (sym c.is_undecided-is_unsure.ensures ∙ each.1) in
    let whether : IsWhetherOf schema n x.key (len == own.len) = decided.of x.key (sym c.key_len-len.ensures) in
    let taken = counted_own schema n leaf.kept leaf.filter x.key x.row scan.needed old (len == own.len) c.requires.none none of whether in
    let same : (if len == own.len then old ++ [] ∷ [] else old) ≡ replicate c.in_ok-count.count [] = one_counted (len == own.len) c.loop-entry.count ∙ ap (λ (k : ℕ). replicate {A = Row} k []) (sym (c.in_ok-count.ensures ∙ ap (λ (k : ℕ). c.loop-entry.count + k) c.from.ensures)) in
    kept_more schema n leaf.kept leaf.filter c.args.rows c.loop-entry.rows c.next_late.new.self x old (replicate c.in_ok-count.count []) c.in-Some.ensures (c.loop-entry.invariant each.0)
    (subst (λ (l : List Row). IsTaken schema n leaf.kept leaf.filter x.key x.row (Ok tt) old l) same taken)

pub returns : goal.returns
returns c =
    let scan = c.args.scan.now in
    let is = c.requires.scan in
    found_given c.args.schema.now scan.leaf.now scan.reader.table is.tables is.joins c.args.rows c.loop-entry.rows (replicate c.loop-entry.count []) c.in_default.ensures.0 (c.loop-entry.invariant c.if-is_unsure.false)
