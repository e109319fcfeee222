use Rattle.std.proofs.Common.{◌<◌, length, arith, sym, ◌∙◌}
use Rattle.span_store.proofs.Preparing.{none_more, place_found, none_at_all}
use Rattle.span_store.proofs.node.place_for.Goals as goal

pub loop-at-preserved : goal.loop-at-preserved
loop-at-preserved c =
    let ps = c.args.prepared.now in
    let lt : c.loop-at.at < length ps.items = omega (arith, c.loop-at-test.true, c.len-at-end.ensures, ps.ok) in
    none_more ps.items c.loop-at.at c.args.chain.number c.index.result.now lt c.index.ensures (sym c.eq.ensures ∙ c.if-eq.false) c.loop-at.invariant

pub returns-then-eq : goal.returns-then-eq
returns-then-eq c =
    let ps = c.args.prepared.now in
    let lt : c.loop-at.at < length ps.items = omega (arith, c.loop-at-test.true, c.len-at-end.ensures, ps.ok) in
    place_found ps.items c.loop-at.at c.args.chain.number c.index.result.now lt c.index.ensures (sym c.eq.ensures ∙ c.if-eq.true)

pub unreachable-requires : goal.unreachable-requires
unreachable-requires c =
    let ps = c.args.prepared.now in
    none_at_all ps.items c.loop-at.at c.args.chain.number _ (omega (arith, c.loop-at-test.false, c.len-at-end.ensures, ps.ok)) c.loop-at.invariant c.requires
