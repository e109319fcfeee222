use Rattle.std.proofs.Common.{◌≡◌, ◌++◌, ℕ, List, map, ap, sym, subst, ◌∙◌}
use Rattle.std.specs.List.{filter}
use Rattle.span_maderows.specs.Made.{begins_with}
use Rattle.span_store.specs.KeyVersions.{KeyVersions}
use Rattle.span_shard.specs.Overlay.{is_unchanged, AreUnchangedUnder}
use Rattle.span_store.specs.Reads.{versions_alone}
use Rattle.std.proofs.lemmas.Result.{IfOk-weaker}
use Rattle.span_shard.proofs.Overlays.{unchanged_found}
use Rattle.span_shard.proofs.overlay.unchanged_under.Goals as goal

pub returns : goal.returns
returns c =
    let cs = c.args.store.now in
    let es = c.args.changes.now in
    let front = c.args.front.now in
    let found : c.push_beginning.new.found.items ≡ map versions_alone (filter (λ (d : KeyVersions). begins_with d.key front) cs) =
    c.in_ok-push_beginning.ensures
    ∙ ap (λ (l : List KeyVersions). l ++ map versions_alone (filter (λ (d : KeyVersions). begins_with d.key c.as_slice.result.now) cs)) c.new-found.ensures.items
    ∙ ap (λ (l : List ℕ). map versions_alone (filter (λ (d : KeyVersions). begins_with d.key l) cs)) c.as_slice.ensures in
    IfOk-weaker c.unchanged_keys.result _ _
    (λ keys e. subst (AreUnchangedUnder cs es front) (sym (e ∙ ap (λ (l : List KeyVersions). map (λ (d : KeyVersions). d.key) (filter (is_unchanged es) l)) (c.as_slice-2.ensures.value ∙ found))) (unchanged_found cs c.requires.order es front))
    c.unchanged_keys.ensures
