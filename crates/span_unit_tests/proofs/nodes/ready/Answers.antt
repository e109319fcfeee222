use Rattle.std.proofs.Common.{[], None, Option, subst, sym}
use Rattle.span_arena.specs.Content.{Prepared, IsSomePrepared}
use Rattle.span_arena.proofs.Keeping.{is_new_chain, chain_stays, prepared_now}
use Rattle.span_unit_tests.proofs.nodes.ready.Goals as goal

pub returns : goal.returns
returns c =
    let a = c.new_chain.new.arena in
    let b = c.reserve_node.new.self in
    let chain = c.in_ok-chain.chain.number in
    let node = c.in_ok-first.first.number in
    let reserved = c.in_ok-first.ensures.ok in
    record {
      is_chain = chain_stays a b chain node chain None reserved ([], is_new_chain c.args.arena.now a chain c.in_ok-chain.ensures);
      is_prepared = subst (λ (p : Option Prepared). IsSomePrepared p (λ _. Unit {0})) (sym (prepared_now a b chain node None reserved)) tt;
    }
