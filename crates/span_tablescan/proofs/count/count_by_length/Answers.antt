use Rattle.std.proofs.Common.{◌≡◌, ◌∙◌, ◌+◌, ◌≤◌, [], ℕ, List, Ok, Option, ap, replicate, subst, sym}
use Rattle.std.specs.Prelude.{filter, IfSome}
use Rattle.std.proofs.lemmas.List.{replicate-append-replicate}
use mir.Val.{bool_byte}
use Rattle.span_query.specs.Rows.{Row}
use Rattle.span_shard.specs.Shard.{KeyRow}
use Rattle.span_shard.specs.Reading.{has_short_key}
use Rattle.span_columns.specs.declared.leaf.Leaf.{Leaf}
use Rattle.span_columns.specs.Picks.{picked_width}
use Rattle.span_tablescan.specs.Given.{IsKeptOn}
use Rattle.span_tablescan.specs.Scans.{AreTestsWhere, IsTaken, IsTestOf}
use Rattle.span_tablescan.proofs.ScannedRows.{counted_own, kept_more, no_tests, one_counted, part_more, scan_given, KeptBefore}
use Rattle.span_tablescan.proofs.count.count_by_length.Goals as goal

pub loop-entry-preserved : goal.loop-entry-preserved
loop-entry-preserved c =
    let schema = c.args.schema.now in
    let scan = c.args.scan.now in
    let leaf : Leaf = scan.leaf.now in
    let n : ℕ = scan.reader.table in
    let is = c.requires.scan in
    let short : List KeyRow = filter (has_short_key scan.reader.most) c.args.snapshot.now in
    let x : KeyRow = c.in-Some-next_late.entry in
    let is_own = c.in-Some-is_own_of_length.is_own in
    let more : ℕ = c.in-Some-2.more in
    let first : ℕ = c.loop-entry.count + bool_byte is_own in
    let old : List Row = replicate c.loop-entry.count [] in
    let none : picked_width leaf.kept ≡ 0 = ap picked_width (sym is.mask) ∙ c.requires.count.width in
    let of : AreTestsWhere schema n leaf.filter scan.needed = subst (IsTestOf schema n leaf.kept leaf.filter scan.needed) c.requires.count.test is.test in
    let whether = c.in-Some-is_own_of_length.ensures.of x.key (sym c.key_len.ensures) in
    let taken = counted_own schema n leaf.kept leaf.filter x.key x.row scan.needed old is_own (no_tests scan.needed (subst (λ (k : ℕ). k ≤ 0) c.len.ensures c.if-len-gt0.false)) none of whether in
    let one : IsTaken schema n leaf.kept leaf.filter x.key x.row (Ok tt) old (replicate first []) = subst (λ (l : List Row). IsTaken schema n leaf.kept leaf.filter x.key x.row (Ok tt) old l) (one_counted is_own c.loop-entry.count) taken in
    let before : KeptBefore schema n leaf.kept leaf.filter short c.next_late.new.self (replicate first []) = kept_more schema n leaf.kept leaf.filter short c.loop-entry.entries c.next_late.new.self x old (replicate first []) c.in-Some-next_late.ensures c.loop-entry.invariant one in
    let found : IsKeptOn schema leaf c.take_found.result (Ok (replicate more [])) = subst (λ (o : Option ℕ). IfSome o (λ k. IsKeptOn schema leaf c.take_found.result (Ok (replicate k [])))) c.in-Some-2.is c.in_ok-more.ensures in
    let sum : first + more ≡ c.in_ok-count.count = sym (c.in_ok-count.ensures ∙ ap (λ (k : ℕ). k + more) (c.in_ok-sum_of.ensures ∙ ap (λ (k : ℕ). c.loop-entry.count + k) c.from.ensures)) in
    subst (λ (l : List Row). KeptBefore schema n leaf.kept leaf.filter short c.take_found.new.self l) (replicate-append-replicate {A = Row} first more [] ∙ ap (λ (k : ℕ). replicate {A = Row} k []) sum)
    (part_more schema leaf n is.tables is.joins short c.next_late.new.self c.take_found.new.self c.take_found.result (replicate first []) (replicate more []) c.take_found.ensures before found)

pub returns : goal.returns
returns c =
    let scan = c.args.scan.now in
    let is = c.requires.scan in
    scan_given c.args.schema.now scan.leaf.now scan.reader.table scan.reader.most is.tables is.joins is.reader.longest c.args.snapshot.now c.loop-entry.entries (replicate c.loop-entry.count []) c.in_default-next_late.ensures.0 c.loop-entry.invariant
