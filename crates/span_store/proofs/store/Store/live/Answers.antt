use Rattle.std.proofs.Common.{◌∙◌, ap, arith, subst}
use Rattle.span_store.specs.KeyLists.{live, HaveFallingVersions}
use Rattle.span_keyindex.specs.Indexes.{entries_of}
use Rattle.span_store.proofs.Later.{keys_fall}
use Rattle.span_store.proofs.Owned.{stored}
use Rattle.span_store.proofs.Counting.{live_is}
use Rattle.span_store.proofs.store.Store.live.Goals as goal

pub returns-clause-live : goal.returns-clause-live
returns-clause-live c =
    let i = c.self.inside in
    c.live.ensures.live ∙ live_is (entries_of i.index i.arena) i.arena i.prepared.items (stored i.index i.arena i.prepared.items c.self.invariant) c.live.ensures.order ∙ ap live c.self.view_is

pub returns-clause-most : goal.returns-clause-most
returns-clause-most c =
    let i = c.self.inside in
    let same = live_is (entries_of i.index i.arena) i.arena i.prepared.items (stored i.index i.arena i.prepared.items c.self.invariant) c.live.ensures.order ∙ ap live c.self.view_is in
    omega (arith, same, c.live.ensures.order.placed, c.live.ensures.order.bounded, c.self.invariant.most)

pub returns-clause-falling : goal.returns-clause-falling
returns-clause-falling c = let i = c.self.inside in subst HaveFallingVersions c.self.view_is (keys_fall i.arena i.prepared.items (entries_of i.index i.arena) c.live.ensures.falling)
