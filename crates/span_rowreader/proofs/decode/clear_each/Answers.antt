use Rattle.std.proofs.Common.{◌≡◌, ◌∙◌, List, ℕ, arith, length, length-set}
use Rattle.span_query.specs.Rows.{Row}
use Rattle.span_rowreader.proofs.ReadTables.{cleared_next, all_cleared}
use Rattle.span_rowreader.proofs.decode.clear_each.Goals as goal

pub loop-at-preserved : goal.loop-at-preserved
loop-at-preserved c =
    let found : List (List Row) = c.loop-at.lists.items in
    let at : ℕ = c.loop-at.at in
    let y : List Row = c.clear.new.self in
    let inside = c.loop-at-test.true in
    record {
      long = length-set found at y ∙ c.loop-at.invariant.long;
      cleared = cleared_next c.args.lists.now.items found at y (omega arith) c.clear.ensures c.loop-at.invariant.cleared;
    }

pub returns : goal.returns
returns c =
    let past = c.loop-at-test.false in
    let most = c.loop-at.auto.at-end in
    let all : c.loop-at.at ≡ length c.args.lists.now.items = omega arith in
    all_cleared c.args.lists.now.items c.loop-at.lists.items c.loop-at.at all c.loop-at.invariant.cleared
