use Rattle.std.proofs.Common.{◌∙◌, List, map, ap, sym, subst, rules}
use Rattle.std.proofs.lemmas.Fn.{filter_same}
use Rattle.std.specs.Prelude.{filter}
use Rattle.span_keyindex.specs.Indexes.{entries_of}
use Rattle.span_keyindex.proofs.Owning.{entries_stay, index_stays}
use Rattle.span_store.specs.declared.node.PreparedNode.{PreparedNode}
use Rattle.span_store.specs.Versions.{applied_to_key}
use Rattle.span_store.specs.Stored.{AreOwned, all_kept, is_other}
use Rattle.span_store.proofs.Ending.{ended_list}
use Rattle.span_store.specs.KeyLists.{IsLaterCommit}
use Rattle.span_store.proofs.Later.{later_ends}
use Rattle.span_store.proofs.store.Store.end.Goals as goal

pub end_nodes-requires-clause-later : goal.end_nodes-requires-clause-later
end_nodes-requires-clause-later c =
    let i = c.self.inside in
    later_ends c.args.txn c.args.committed (entries_of i.index i.arena) i.arena i.prepared.items c.self.invariant.index.own (subst (IsLaterCommit c.args.txn c.args.committed) (sym c.self.view_is) c.requires)

pub invariant_of-self : goal.invariant_of-self
invariant_of-self c =
    let i = c.self.inside in
    let left = filter_same _ (is_other c.args.txn) _ (λ x b f' k. search rules) _ _ c.retain.ensures.filtered in
    record {
      index = index_stays i.index i.arena c.end_nodes.new.arena c.self.invariant.index c.end_nodes.ensures.cells c.end_nodes.ensures.same;
      most = c.end_nodes.ensures.most ∙ c.self.invariant.most;
      owned = subst (AreOwned c.end_nodes.new.arena) (sym left) c.end_nodes.ensures.owned;
    }

pub returns : goal.returns
returns c =
    let i = c.self.inside in
    let left = filter_same _ (is_other c.args.txn) _ (λ x b f' k. search rules) _ _ c.retain.ensures.filtered in
    ap (λ (ps : List PreparedNode). all_kept c.end_nodes.new.arena ps (entries_of i.index c.end_nodes.new.arena)) left
    ∙ ap (all_kept c.end_nodes.new.arena (filter (is_other c.args.txn) i.prepared.items)) (entries_stay i.index i.arena c.end_nodes.new.arena c.end_nodes.ensures.cells)
    ∙ ended_list c.args.txn c.args.committed i.arena c.end_nodes.new.arena i.prepared.items (entries_of i.index i.arena) c.end_nodes.ensures
    ∙ ap (map (applied_to_key c.args.txn c.args.committed)) c.self.view_is
