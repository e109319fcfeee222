use Rattle.std.proofs.Common.{◌≡◌, ◌∙◌, ◌++◌, List, map, filter, ap, subst}
use Rattle.std.specs.Prelude.{OnOk}
use Rattle.span_keyindex.specs.Indexes.{entries_of}
use Rattle.span_maderows.specs.Made.{begins_with}
use Rattle.span_store.specs.KeyVersions.{KeyVersions}
use Rattle.span_store.specs.Reads.{versions_alone}
use Rattle.span_store.proofs.Seeing.{under_is}
use Rattle.span_store.proofs.place.push_beginning.Goals as goal

pub returns : goal.returns
returns c =
    let i = c.store.inside in
    let front = c.args.front.now in
    let same = under_is i.arena i.prepared.items (entries_of i.index i.arena) c.walk_under.result front c.walk_under.ensures.entries ∙ ap (λ (cs : List KeyVersions). map versions_alone (filter (λ (k : KeyVersions). begins_with k.key front) cs)) c.store.view_is in
    subst (λ (l : List KeyVersions). OnOk c.push_keys.result (c.push_keys.new.found.items ≡ c.args.found.now.items ++ l)) same c.push_keys.ensures
