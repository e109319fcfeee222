use Rattle.std.proofs.Common.{◌∙◌, ◌<◌, [], ℕ, List, arith, length, replicate, sym, subst}
use Rattle.std.specs.Prelude.{filter}
use Rattle.span_shard.specs.Shard.{KeyRow}
use Rattle.span_shard.specs.Reading.{has_short_key}
use Rattle.span_query.specs.Rows.{Row}
use Rattle.span_columns.specs.declared.leaf.Leaf.{Leaf}
use Rattle.span_tablescan.proofs.ScannedRows.{KeptBefore, kept_first, kept_more, scan_given}
use Rattle.span_tablescan.proofs.count.count_rows.Goals as goal

pub loop-entry-init : goal.loop-entry-init
loop-entry-init c =
    let schema = c.args.schema.now in
    let scan = c.args.scan.now in
    let leaf : Leaf = scan.leaf.now in
    let n : ℕ = scan.reader.table in
    let short : List KeyRow = filter (has_short_key scan.reader.most) c.args.snapshot in
    subst (λ (es : List KeyRow). KeptBefore schema n leaf.kept leaf.filter short es []) (sym (c.look_at_keys.ensures ∙ c.with_short_keys-entries.ensures))
    (kept_first schema n leaf.kept leaf.filter short)

pub loop-entry-preserved : goal.loop-entry-preserved
loop-entry-preserved c =
    let schema = c.args.schema.now in
    let scan = c.args.scan.now in
    let leaf : Leaf = scan.leaf.now in
    let n : ℕ = scan.reader.table in
    let short : List KeyRow = filter (has_short_key scan.reader.most) c.args.snapshot in
    let old : List Row = replicate c.loop-entry.count [] in
    let new : List Row = replicate c.in_ok-count-2.count [] in
    kept_more schema n leaf.kept leaf.filter short c.loop-entry.entries c.next_late.new.self c.in-Some-next_late.entry old new c.in-Some-next_late.ensures c.loop-entry.invariant c.in_ok-count-2.ensures

pub loop-entry-smaller : goal.loop-entry-smaller
loop-entry-smaller c =
    let rest : List KeyRow = c.next_late.new.self in
    subst (λ (es : List KeyRow). length rest < length es) (sym c.in-Some-next_late.ensures) (omega arith)

pub returns : goal.returns
returns c =
    let scan = c.args.scan.now in
    let is = c.requires.scan in
    scan_given c.args.schema.now scan.leaf.now scan.reader.table scan.reader.most is.tables is.joins is.reader.longest c.args.snapshot c.loop-entry.entries (replicate c.loop-entry.count []) c.in_default-next_late.ensures.0 c.loop-entry.invariant
