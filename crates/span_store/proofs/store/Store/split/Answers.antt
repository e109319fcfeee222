use Rattle.std.proofs.Common.{◌∙◌, List, [], ap, sym, arith, subst}
use Rattle.std.specs.Prelude.{filter}
use Rattle.std.specs.List.{AllByRecursion}
use Rattle.span_arena.specs.Content.{Content}
use Rattle.span_keytree.specs.Entries.{KeyEntry, entries_from, keys_of}
use Rattle.span_keyindex.specs.Indexes.{entries_of}
use Rattle.span_keyindex.proofs.Keeping.{same-equal}
use Rattle.span_keyindex.proofs.Owning.{entries_stay, index_stays}
use Rattle.span_store.specs.declared.node.PreparedNode.{PreparedNode}
use Rattle.span_store.specs.Versions.{is_used}
use Rattle.span_store.specs.KeyLists.{IsIdle, IsInUse, keys_before, keys_from}
use Rattle.span_store.specs.Stored.{IsKept, all_kept, versions_count}
use Rattle.span_store.proofs.Parting.{none_still, owned_still, old_keys, part_keys, part_kept}
use Rattle.span_store.proofs.Unused.{keys_used, owned_used}
use Rattle.span_store.proofs.store.Store.split.Goals as goal

pub move_versions-requires-clause-part : goal.move_versions-requires-clause-part
move_versions-requires-clause-part c =
    let reserved = c.in_ok-reserve_versions.ensures.ok in
    index_stays c.in_ok-part.part.0 c.in_ok-part.part.1 c.reserve_versions.new.room c.in_ok-part.ensures.ok.own reserved.cells (same-equal c.in_ok-part.part.1 c.reserve_versions.new.room reserved.chains)

pub move_versions-requires-clause-keys : goal.move_versions-requires-clause-keys
move_versions-requires-clause-keys c = ap keys_of (entries_stay c.in_ok-part.part.0 c.in_ok-part.part.1 c.reserve_versions.new.room c.in_ok-reserve_versions.ensures.ok.cells) ∙ c.in_ok-part.ensures.ok.keys

pub move_versions-requires-clause-none : goal.move_versions-requires-clause-none
move_versions-requires-clause-none c = none_still c.in_ok-part.part.1 c.reserve_versions.new.room c.in_ok-reserve_versions.ensures.ok.chains c.in_ok-part.ensures.ok.none

pub move_versions-requires-clause-room : goal.move_versions-requires-clause-room
move_versions-requires-clause-room c = omega (arith, c.in_ok-reserve_versions.ensures.ok.free, c.in_ok-part.ensures.ok.free)

pub remove_empty-requires : goal.remove_empty-requires
remove_empty-requires c =
    let i = c.self.inside in
    let from = c.move_versions.ensures.from in
    index_stays i.index i.arena c.move_versions.new.arena c.self.invariant.index from.cells from.same

pub invariant_of-self : goal.invariant_of-self
invariant_of-self c =
    let i = c.self.inside in
    let from = c.move_versions.ensures.from in
    record {
      index = c.remove_empty.ensures.own;
      most = ap (λ (x : Content). x.most) c.remove_empty.ensures.arena.others ∙ from.most ∙ c.self.invariant.most;
      owned = owned_used (entries_of i.index c.move_versions.new.arena) c.move_versions.new.arena c.remove_empty.new.arena i.prepared.items (owned_still i.arena c.move_versions.new.arena from i.prepared.items c.self.invariant.owned) c.remove_empty.ensures.arena;
    }

pub invariant_of-result : goal.invariant_of-result
invariant_of-result c =
    let i = c.self.inside in
    subst (λ (ps : List PreparedNode). IsKept c.in_ok-part.part.0 c.move_versions.new.to ps) (sym c.new.ensures.items) (part_kept c.args.key.now (entries_of i.index i.arena) (entries_of c.in_ok-part.part.0 c.reserve_versions.new.room) (versions_count i.arena (entries_from c.args.key.now (entries_of i.index i.arena)))
    c.in_ok-part.part.0 i.arena c.move_versions.new.arena c.in_ok-part.part.1 c.reserve_versions.new.room c.move_versions.new.to c.in_ok-part.ensures.ok c.in_ok-reserve_versions.ensures.ok c.move_versions.ensures c.self.invariant.most)

pub returns-clause-before : goal.returns-clause-before
returns-clause-before c =
    let i = c.self.inside in
    let b = c.move_versions.new.arena in
    let moved = c.move_versions.ensures in
    ap (all_kept c.remove_empty.new.arena i.prepared.items) c.remove_empty.ensures.index
    ∙ keys_used (entries_of i.index b) b c.remove_empty.new.arena i.prepared.items (owned_still i.arena b moved.from i.prepared.items c.self.invariant.owned) c.remove_empty.ensures.arena
    ∙ ap (λ (es : List KeyEntry). filter is_used (all_kept b i.prepared.items es)) (entries_stay i.index i.arena b moved.from.cells)
    ∙ old_keys c.args.key.now i.arena b c.reserve_versions.new.room c.move_versions.new.to i.prepared.items (entries_of i.index i.arena) (entries_of c.in_ok-part.part.0 c.reserve_versions.new.room) c.self.invariant.index.index.search.rising c.self.invariant.index.own moved
    (subst IsIdle (sym c.self.view_is) c.requires.idle) (subst (AllByRecursion IsInUse) (sym c.self.view_is) c.requires.used)
    ∙ ap (keys_before c.args.key.now) c.self.view_is

pub returns-clause-part : goal.returns-clause-part
returns-clause-part c =
    let i = c.self.inside in
    let moved = c.move_versions.ensures in
    ap (λ (ps : List PreparedNode). all_kept c.move_versions.new.to ps (entries_of c.in_ok-part.part.0 c.move_versions.new.to)) c.new.ensures.items
    ∙ ap (all_kept c.move_versions.new.to []) (entries_stay c.in_ok-part.part.0 c.reserve_versions.new.room c.move_versions.new.to moved.to.cells)
    ∙ part_keys c.args.key.now i.arena c.move_versions.new.arena c.reserve_versions.new.room c.move_versions.new.to i.prepared.items (entries_of i.index i.arena) (entries_of c.in_ok-part.part.0 c.reserve_versions.new.room)
    (ap keys_of (entries_stay c.in_ok-part.part.0 c.in_ok-part.part.1 c.reserve_versions.new.room c.in_ok-reserve_versions.ensures.ok.cells) ∙ c.in_ok-part.ensures.ok.keys) moved (subst IsIdle (sym c.self.view_is) c.requires.idle)
    ∙ ap (keys_from c.args.key.now) c.self.view_is
