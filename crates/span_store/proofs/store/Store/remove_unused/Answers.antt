use Rattle.std.proofs.Common.{◌∙◌, ap}
use Rattle.std.specs.Prelude.{filter}
use Rattle.span_keyindex.specs.Indexes.{entries_of}
use Rattle.span_store.specs.Versions.{is_used}
use Rattle.span_store.specs.Stored.{all_kept}
use Rattle.span_arena.specs.Content.{Content}
use Rattle.span_store.proofs.Unused.{keys_used, owned_used}
use Rattle.span_store.proofs.store.Store.remove_unused.Goals as goal

pub invariant_of-self : goal.invariant_of-self
invariant_of-self c =
    let i = c.self.inside in
    record { index = c.remove_empty.ensures.own; most = ap (λ (x : Content). x.most) (c.remove_empty.ensures.arena.others) ∙ c.self.invariant.most; owned = owned_used (entries_of i.index i.arena) i.arena c.remove_empty.new.arena i.prepared.items c.self.invariant.owned c.remove_empty.ensures.arena }

pub returns : goal.returns
returns c =
    let i = c.self.inside in
    ap (all_kept c.remove_empty.new.arena i.prepared.items) c.remove_empty.ensures.index
    ∙ keys_used (entries_of i.index i.arena) i.arena c.remove_empty.new.arena i.prepared.items c.self.invariant.owned c.remove_empty.ensures.arena ∙ ap (filter is_used) c.self.view_is
