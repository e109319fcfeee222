use Rattle.std.proofs.Common.{◌∙◌, map, ap}
use Rattle.span_keyindex.specs.Indexes.{entries_of}
use Rattle.span_keyindex.proofs.Owning.{entries_stay, index_stays}
use Rattle.span_store.specs.KeyLists.{trimmed_key}
use Rattle.span_store.specs.Stored.{all_kept}
use Rattle.span_store.proofs.Cutting.{stored_after, keys_after}
use Rattle.span_store.proofs.Owned.{stored}
use Rattle.span_store.proofs.store.Store.trim.Goals as goal

pub invariant_of-self : goal.invariant_of-self
invariant_of-self c =
    let i = c.self.inside in
    let after = stored_after c.args.h (entries_of i.index i.arena) i.arena c.trim_chains.new.arena i.prepared.items (stored i.index i.arena i.prepared.items c.self.invariant) c.trim_chains.ensures in
    record {
      index = index_stays i.index i.arena c.trim_chains.new.arena c.self.invariant.index c.trim_chains.ensures.so_far.cells c.trim_chains.ensures.so_far.same;
      owned = after.owned;
      most = after.most;
    }

pub returns : goal.returns
returns c =
    let i = c.self.inside in
    ap (all_kept c.trim_chains.new.arena i.prepared.items) (entries_stay i.index i.arena c.trim_chains.new.arena c.trim_chains.ensures.so_far.cells)
    ∙ keys_after c.args.h (entries_of i.index i.arena) i.arena c.trim_chains.new.arena i.prepared.items (stored i.index i.arena i.prepared.items c.self.invariant) c.trim_chains.ensures ∙ ap (map (trimmed_key c.args.h)) c.self.view_is
