use Rattle.std.proofs.Common.{◌≡◌, ℕ, List, None, Some, subst, sym}
use Rattle.span_keytree.specs.Entries.{entry_of}
use Rattle.span_keyindex.specs.Indexes.{entries_of}
use Rattle.span_store.specs.Ends.{HasNoRowFrom}
use Rattle.span_store.specs.KeyVersions.{KeyVersions}
use Rattle.span_store.specs.Stored.{all_kept}
use Rattle.span_store.proofs.Apart.{no_row_after, no_row_before}
use Rattle.span_store.proofs.place.first_from.Goals as goal

pub returns-in-None : goal.returns-in-None
returns-in-None c =
    let i = c.store.inside in
    subst (λ (cs : List KeyVersions). HasNoRowFrom cs c.args.low.now None) c.store.view_is
    (no_row_after i.arena i.prepared.items (entries_of i.index i.arena) c.walk_from-walk.result c.args.low.now c.walk_from-walk.ensures.entries c.in-None.ensures.steps.0)

pub returns-in_ok-from_slice-in-Some : goal.returns-in_ok-from_slice-in-Some
returns-in_ok-from_slice-in-Some c =
    let i = c.store.inside in
    let key : c.in_ok-from_slice-in-Some.field-0 ≡ c.in-Some.key.now = c.in_ok-from_slice-in-Some.ensures.bytes in
    subst (λ (cs : List KeyVersions). HasNoRowFrom cs c.args.low.now (Some c.in_ok-from_slice-in-Some.field-0)) c.store.view_is
    (subst (λ (k : List ℕ). HasNoRowFrom (all_kept i.arena i.prepared.items (entries_of i.index i.arena)) c.args.low.now (Some k)) (sym key)
    (no_row_before i.arena i.prepared.items (entries_of i.index i.arena) c.walk_from-walk.result c.next.new.self c.args.low.now (entry_of (c.in-Some.key, c.in-Some._chain)) c.walk_from-walk.ensures.rising c.walk_from-walk.ensures.entries c.in-Some.ensures.steps))
