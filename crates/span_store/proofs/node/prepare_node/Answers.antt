use Rattle.std.proofs.Common.{◌<◌, ◌∙◌, ◌++◌, ◌∷◌, [], List, ap, sym, subst}
use Rattle.span_store.specs.Stored.{count_for}
use Rattle.span_store.specs.declared.node.PreparedNode.{PreparedNode}
use Rattle.span_store.proofs.Preparing.{prepared_push, some_for}
use Rattle.span_store.proofs.node.prepare_node.Goals as goal

pub prepare_again-requires-clause-again : goal.prepare_again-requires-clause-again
prepare_again-requires-clause-again c =
    subst (λ (l : List PreparedNode). 0 < count_for c.args.chain.number l) (sym c.reserve.ensures.items)
    (some_for c.args.arena.now c.args.prepared.now.items c.args.chain.number c.requires.owned (sym c.is_prepared.ensures ∙ c.if-is_prepared.true))

pub returns-clause-ok : goal.returns-clause-ok
returns-clause-ok c =
    let p : PreparedNode = record { txn = c.args.txn; chain = c.args.chain; node = c.in_ok-node.node } in
    prepared_push c.args.arena.now c.reserve_node.new.self c.args.prepared.now.items c.push_reserved.new.self.items p c.args.row c.requires.owned (sym c.is_prepared.ensures ∙ c.if-is_prepared.false) c.requires.is_chain c.in_ok-node.ensures.ok
    (c.push_reserved.ensures.items ∙ ap (λ (l : List PreparedNode). l ++ p ∷ []) c.reserve.ensures.items)
