use Rattle.std.proofs.Common.{sym, ◌∙◌, arith, ◌<◌, length}
use Rattle.std.proofs.lemmas.List.{get_or_default}
use Rattle.span_arena.specs.Runs.{blank}
use Rattle.span_arena.proofs.Cutting.{cut_in_range, cut_here, cut_more, cut_after, cut_before}
use Rattle.span_arena.proofs.cut.cut_at.Goals as goal

pub index-node-requires : goal.index-node-requires
index-node-requires c =
    let lt : c.loop-kept.at < length c.args.nodes.now.items = cut_in_range _ _ _ c.args.horizon c.requires _ _ c.loop-kept-test.true c.loop-kept.invariant.here in
    omega (arith, c.args.nodes.now.ok)

pub returns-then-not-node : goal.returns-then-not-node
returns-then-not-node c =
    let lt : c.loop-kept.at < length c.args.nodes.now.items = cut_in_range _ _ _ c.args.horizon c.requires _ _ c.loop-kept-test.true c.loop-kept.invariant.here in
    let e = c.index-node.ensures ∙ get_or_default c.args.nodes.now.items c.loop-kept.at c.index-node.result.now blank lt in
    record {
      within = omega (arith, c.loop-kept-test.true);
      here = c.loop-kept.invariant.here;
      same = cut_before _ _ _ c.args.horizon c.requires _ _ c.loop-kept-test.true c.loop-kept.invariant.here c.loop-kept.invariant.same (rw e at c.if-node-horizon.true) (rw e at c.if-not-node.true);
    }

pub returns-then-node-horizon : goal.returns-then-node-horizon
returns-then-node-horizon c =
    let lt : c.loop-kept.at < length c.args.nodes.now.items = cut_in_range _ _ _ c.args.horizon c.requires _ _ c.loop-kept-test.true c.loop-kept.invariant.here in
    let e = c.index-node.ensures ∙ get_or_default c.args.nodes.now.items c.loop-kept.at c.index-node.result.now blank lt in
    record {
      within = omega (arith, c.loop-kept-test.true);
      here = rw e (sym (cut_here _ _ _ c.args.horizon c.requires _ _ c.loop-kept-test.true c.loop-kept.invariant.here));
      same = cut_after _ _ _ c.args.horizon c.requires _ _ c.loop-kept-test.true c.loop-kept.invariant.here c.loop-kept.invariant.same (rw e at c.if-node-horizon.true) (rw e at c.if-not-node.false);
    }

pub loop-kept-preserved : goal.loop-kept-preserved
loop-kept-preserved c =
    let lt : c.loop-kept.at < length c.args.nodes.now.items = cut_in_range _ _ _ c.args.horizon c.requires _ _ c.loop-kept-test.true c.loop-kept.invariant.here in
    let e = c.index-node.ensures ∙ get_or_default c.args.nodes.now.items c.loop-kept.at c.index-node.result.now blank lt in
    record {
      within = omega (arith, c.loop-kept-test.true);
      here = rw e (sym (cut_here _ _ _ c.args.horizon c.requires _ _ c.loop-kept-test.true c.loop-kept.invariant.here));
      same = rw e (cut_more _ _ _ c.args.horizon c.requires _ _ c.loop-kept-test.true c.loop-kept.invariant.here c.loop-kept.invariant.same (rw e at c.if-node-horizon.false));
    }
