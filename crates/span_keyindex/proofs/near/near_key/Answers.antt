use Rattle.std.proofs.Common.{◌∙◌, subst, sym}
use Rattle.span_keyindex.specs.Nears.{ComesBefore}
use Rattle.span_keyindex.proofs.Nearby.{near_here, near_absent}
use Rattle.span_keyindex.proofs.near.near_key.Goals as goal

pub returns-in-Equal : goal.returns-in-Equal
returns-in-Equal c = near_here c.args.index.now c.args.arena.now c.requires c.args.near (sym c.is_chain.ensures ∙ c.if-not-is_chain.false) c.args.key.now (sym c.order.ensures ∙ c.in-Equal.is)

pub returns-then-is_before : goal.returns-then-is_before
returns-then-is_before c =
    near_absent c.args.index.now c.args.arena.now c.requires c.args.near (sym c.is_chain.ensures ∙ c.if-not-is_chain.false) c.args.key.now (sym c.order.ensures ∙ c.in-Greater.is)
    (subst (ComesBefore c.args.arena.now.cells c.args.key.now) c.after.ensures (c.is_before.ensures c.if-is_before.true))
