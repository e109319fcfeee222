use Rattle.std.proofs.Common.{◌≡◌, ◌∙◌, ap, length, sym, subst}
use Rattle.span_arena.specs.Content.{with_free_chains, with_free_nodes}
use Rattle.span_keyindex.specs.Indexes.{IsIndexOf, entries_of}
use Rattle.span_store.proofs.FreeNumbers.{IsReadAlike, alike_chains, alike_nodes, alike_same, entries_nodes, index_nodes, kept_after, view_after}
use Rattle.span_store.proofs.store.Store.add_free.Goals as goal

pub invariant_of-self-in_err-add_free_nodes : goal.invariant_of-self-in_err-add_free_nodes
invariant_of-self-in_err-add_free_nodes c =
    let i = c.self.inside in
    let e = c.add_free_chains in
    let more : e.new.arena ≡ with_free_chains (length c.args.order.now) i.arena = c.in_ok-add_free_chains.ensures.arena in
    let last : c.add_free_nodes.new.self ≡ e.new.arena = c.in_err-add_free_nodes.ensures.err in
    let chains : IsReadAlike i.arena e.new.arena = rw more (alike_chains (length c.args.order.now) i.arena) in
    kept_after i.index e.new.self i.arena e.new.arena c.add_free_nodes.new.self i.prepared.items chains (alike_same e.new.arena c.add_free_nodes.new.self last)
    (ap (entries_of e.new.self) last ∙ e.ensures.entries) (subst (IsIndexOf e.new.self) (sym last) e.ensures.own) c.self.invariant

pub returns-in_err-add_free_nodes : goal.returns-in_err-add_free_nodes
returns-in_err-add_free_nodes c =
    let i = c.self.inside in
    let e = c.add_free_chains in
    let more : e.new.arena ≡ with_free_chains (length c.args.order.now) i.arena = c.in_ok-add_free_chains.ensures.arena in
    let last : c.add_free_nodes.new.self ≡ e.new.arena = c.in_err-add_free_nodes.ensures.err in
    let chains : IsReadAlike i.arena e.new.arena = rw more (alike_chains (length c.args.order.now) i.arena) in
    view_after i.index e.new.self i.arena e.new.arena c.add_free_nodes.new.self i.prepared.items chains (alike_same e.new.arena c.add_free_nodes.new.self last)
    (ap (entries_of e.new.self) last ∙ e.ensures.entries) ∙ c.self.view_is

pub invariant_of-self-2 : goal.invariant_of-self-2
invariant_of-self-2 c =
    let i = c.self.inside in
    let e = c.add_free_chains in
    let n = length c.args.order.now in
    let more : e.new.arena ≡ with_free_chains n i.arena = c.in_ok-add_free_chains.ensures.arena in
    let last : c.add_free_nodes.new.self ≡ with_free_nodes n e.new.arena = c.in_ok-add_free_nodes.ensures.ok in
    let chains : IsReadAlike i.arena e.new.arena = rw more (alike_chains n i.arena) in
    let nodes : IsReadAlike e.new.arena c.add_free_nodes.new.self = rw last (alike_nodes n e.new.arena) in
    kept_after i.index e.new.self i.arena e.new.arena c.add_free_nodes.new.self i.prepared.items chains nodes
    (entries_nodes e.new.self n e.new.arena c.add_free_nodes.new.self last ∙ e.ensures.entries) (index_nodes e.new.self n e.new.arena c.add_free_nodes.new.self last e.ensures.own) c.self.invariant

pub returns : goal.returns
returns c =
    let i = c.self.inside in
    let e = c.add_free_chains in
    let n = length c.args.order.now in
    let more : e.new.arena ≡ with_free_chains n i.arena = c.in_ok-add_free_chains.ensures.arena in
    let last : c.add_free_nodes.new.self ≡ with_free_nodes n e.new.arena = c.in_ok-add_free_nodes.ensures.ok in
    let chains : IsReadAlike i.arena e.new.arena = rw more (alike_chains n i.arena) in
    let nodes : IsReadAlike e.new.arena c.add_free_nodes.new.self = rw last (alike_nodes n e.new.arena) in
    view_after i.index e.new.self i.arena e.new.arena c.add_free_nodes.new.self i.prepared.items chains nodes
    (entries_nodes e.new.self n e.new.arena c.add_free_nodes.new.self last ∙ e.ensures.entries) ∙ c.self.view_is
