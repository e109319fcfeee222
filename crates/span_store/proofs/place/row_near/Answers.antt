use Rattle.std.proofs.Common.{◌∙◌, Option, sym, ap, subst, List}
use Rattle.span_keyindex.specs.Indexes.{entries_of}
use Rattle.span_store.specs.KeyVersions.{KeyVersions}
use Rattle.span_store.specs.Versions.{row_at}
use Rattle.span_store.specs.KeyLists.{AreInOrder, row_now, versions_of, end_of_time}
use Rattle.span_store.proofs.Slots.{found_there, found_none}
use Rattle.span_store.proofs.place.row_near.Goals as goal

pub returns-in-Some : goal.returns-in-Some
returns-in-Some c =
    let i = c.store.inside in
    let key = c.args.key.now in
    c.row_in.ensures
    ∙ sym (ap (λ (o : Option KeyVersions). row_at (versions_of o) end_of_time) (found_there (entries_of i.index i.arena) i.arena i.prepared.items key c.in-Some.chain c.store.invariant.owned (subst AreInOrder (sym c.store.view_is) c.requires) c.in-Some.ensures.cases))
    ∙ ap (λ (cs : List KeyVersions). row_now cs key) c.store.view_is

pub returns-in-None : goal.returns-in-None
returns-in-None c =
    let i = c.store.inside in
    let key = c.args.key.now in
    sym (ap (λ (o : Option KeyVersions). row_at (versions_of o) end_of_time) (found_none (entries_of i.index i.arena) i.arena i.prepared.items key c.in-None.ensures.cases))
    ∙ ap (λ (cs : List KeyVersions). row_now cs key) c.store.view_is
