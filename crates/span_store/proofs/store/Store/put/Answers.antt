use Rattle.std.proofs.Common.{◌∙◌, refl, sym, ap, subst, List}
use Rattle.std.specs.List.{AllByRecursion}
use Rattle.span_arena.specs.Content.{Content}
use Rattle.span_keytree.specs.Arenas.{in_use}
use Rattle.span_keyindex.specs.Indexes.{IsIndexOf, entries_of}
use Rattle.span_keyindex.specs.declared.index.KeyIndex.{KeyIndex}
use Rattle.span_keyindex.proofs.Owning.{entries_stay, index_stays}
use Rattle.span_store.specs.KeyVersions.{KeyVersions}
use Rattle.span_store.specs.KeyLists.{AreInOrder, IsInUse, IsPutRefused, with_write}
use Rattle.span_store.specs.Stored.{IsKept, all_kept}
use Rattle.span_store.specs.declared.write.Write.{Write}
use Rattle.span_keyindex.proofs.Keeping.{same-equal}
use Rattle.span_store.proofs.Slots.{slot_is, put_done, undone_owned, undone_keys}
use Rattle.span_store.proofs.Full.{refused_there}
use Rattle.span_store.proofs.store.Store.put.Goals as goal

pub prepare_node-requires-clause-owned : goal.prepare_node-requires-clause-owned
prepare_node-requires-clause-owned c =
    let i = c.self.inside in
    (slot_is (entries_of i.index i.arena) (entries_of c.slot_near.new.index c.slot_near.new.arena) i.arena c.slot_near.new.arena i.prepared.items c.write.inside.write.key c.in_ok-chain.chain c.self.invariant.owned (subst AreInOrder (sym c.self.view_is) c.requires.order) c.in_ok-chain.ensures.ok).owned

pub invariant_of-self : goal.invariant_of-self
invariant_of-self c =
    let i = c.self.inside in
    let P : KeyIndex → Type 0 = λ x. IsKept x i.arena i.prepared.items in
    let Q : Content → Type 0 = λ a. IsKept c.slot_near.new.index a i.prepared.items in
    subst Q (sym c.in_err-chain.ensures.arena) (subst P (sym c.in_err-chain.ensures.index) c.self.invariant)

pub invariant_of-self-in-Ok : goal.invariant_of-self-in-Ok
invariant_of-self-in-Ok c =
    let ok = c.in-Ok.ensures.ok in
    let i = c.self.inside in
    let slot = slot_is (entries_of i.index i.arena) (entries_of c.slot_near.new.index c.slot_near.new.arena) i.arena c.slot_near.new.arena i.prepared.items c.write.inside.write.key c.in_ok-chain.chain c.self.invariant.owned (subst AreInOrder (sym c.self.view_is) c.requires.order) c.in_ok-chain.ensures.ok in
    record { index = index_stays c.slot_near.new.index c.slot_near.new.arena c.prepare_node.new.arena c.slot_near.ensures.own ok.cells (same-equal c.slot_near.new.arena c.prepare_node.new.arena ok.chains); owned = ok.owned; most = ok.most ∙ slot.most ∙ c.self.invariant.most }

pub invariant_of-self-in-Err : goal.invariant_of-self-in-Err
invariant_of-self-in-Err c =
    let i = c.self.inside in
    let slot = slot_is (entries_of i.index i.arena) (entries_of c.slot_near.new.index c.slot_near.new.arena) i.arena c.slot_near.new.arena i.prepared.items c.write.inside.write.key c.in_ok-chain.chain c.self.invariant.owned (subst AreInOrder (sym c.self.view_is) c.requires.order) c.in_ok-chain.ensures.ok in
    record {
      index = c.remove_empty.ensures.own;
      owned = undone_owned (entries_of i.index i.arena) (entries_of c.slot_near.new.index c.slot_near.new.arena) (entries_of c.remove_empty.new.self c.remove_empty.new.arena) i.arena c.slot_near.new.arena c.prepare_node.new.arena c.remove_empty.new.arena i.prepared.items c.prepare_node.new.prepared.items c.write.inside.write.key c.in_ok-chain.chain
          slot c.in-Err.ensures.arena c.in-Err.ensures.nodes c.remove_empty.ensures.arena;
      most = ap (λ (x : Content). x.most) (c.remove_empty.ensures.arena.others) ∙ ap (λ (x : Content). x.most) c.in-Err.ensures.arena ∙ slot.most ∙ c.self.invariant.most;
    }

pub returns-in-Ok-clause-ok : goal.returns-in-Ok-clause-ok
returns-in-Ok-clause-ok c =
    let i = c.self.inside in
    let slot = slot_is (entries_of i.index i.arena) (entries_of c.slot_near.new.index c.slot_near.new.arena) i.arena c.slot_near.new.arena i.prepared.items c.write.inside.write.key c.in_ok-chain.chain c.self.invariant.owned (subst AreInOrder (sym c.self.view_is) c.requires.order) c.in_ok-chain.ensures.ok in
    ap (all_kept c.prepare_node.new.arena c.prepare_node.new.prepared.items) (entries_stay c.slot_near.new.index c.slot_near.new.arena c.prepare_node.new.arena c.in-Ok.ensures.ok.cells)
    ∙ put_done (entries_of i.index i.arena) (entries_of c.slot_near.new.index c.slot_near.new.arena) i.arena c.slot_near.new.arena c.prepare_node.new.arena i.prepared.items c.prepare_node.new.prepared.items c.write.inside.write.key c.in_ok-chain.chain c.args.txn c.write.inside.write slot c.slot_near.ensures.own.own c.in-Ok.ensures.ok refl
    ∙ ap (with_write c.args.txn c.write.inside.write) c.self.view_is
    ∙ ap (λ (w : Write). with_write c.args.txn w c.args.self.now) c.write.view_is

pub returns-in-Err-clause-err : goal.returns-in-Err-clause-err
returns-in-Err-clause-err c =
    let i = c.self.inside in
    let slot = slot_is (entries_of i.index i.arena) (entries_of c.slot_near.new.index c.slot_near.new.arena) i.arena c.slot_near.new.arena i.prepared.items c.write.inside.write.key c.in_ok-chain.chain c.self.invariant.owned (subst AreInOrder (sym c.self.view_is) c.requires.order) c.in_ok-chain.ensures.ok in
    undone_keys (entries_of i.index i.arena) (entries_of c.slot_near.new.index c.slot_near.new.arena) (entries_of c.remove_empty.new.self c.remove_empty.new.arena) i.arena c.slot_near.new.arena c.prepare_node.new.arena c.remove_empty.new.arena i.prepared.items c.prepare_node.new.prepared.items c.write.inside.write.key c.in_ok-chain.chain
    slot c.in-Err.ensures.arena c.in-Err.ensures.nodes c.remove_empty.ensures.arena (c.remove_empty.ensures.index ∙ ap (λ (x : Content). in_use c.prepare_node.new.arena (entries_of c.slot_near.new.index x)) c.in-Err.ensures.arena) (subst (AllByRecursion IsInUse) (sym c.self.view_is) c.requires.used) ∙ c.self.view_is

pub returns-in-Err-clause-refused : goal.returns-in-Err-clause-refused
returns-in-Err-clause-refused c =
    let i = c.self.inside in
    let slot = slot_is (entries_of i.index i.arena) (entries_of c.slot_near.new.index c.slot_near.new.arena) i.arena c.slot_near.new.arena i.prepared.items c.write.inside.write.key c.in_ok-chain.chain c.self.invariant.owned (subst AreInOrder (sym c.self.view_is) c.requires.order) c.in_ok-chain.ensures.ok in
    subst (λ (w : Write). IsPutRefused c.args.self.now w.key c.in-Err.why) c.write.view_is
    (subst (λ (cs : List KeyVersions). IsPutRefused cs c.write.inside.write.key c.in-Err.why) c.self.view_is
    (refused_there (entries_of i.index i.arena) (entries_of c.slot_near.new.index c.slot_near.new.arena) i.arena c.slot_near.new.arena i.prepared.items c.write.inside.write.key c.in_ok-chain.chain slot c.slot_near.ensures.own.own c.self.invariant.most (subst (AllByRecursion IsInUse) (sym c.self.view_is) c.requires.used) c.in-Err.why c.in-Err.ensures.refused))

pub remove_empty-requires : goal.remove_empty-requires
remove_empty-requires c = subst (λ (a : Content). IsIndexOf c.slot_near.new.index a) (sym c.in-Err.ensures.arena) c.slot_near.ensures.own
