use Rattle.std.proofs.Common.{◌∙◌, All, List, ap, subst, sym}
use Rattle.span_arena.specs.Content.{IsChain}
use Rattle.span_keytree.specs.Entries.{KeyEntry}
use Rattle.span_keyindex.specs.Indexes.{entries_of}
use Rattle.span_store.specs.Reads.{snapshot}
use Rattle.span_store.proofs.Seeing.{within_is}
use Rattle.span_store.proofs.snapshot.snapshot_of.Goals as goal

pub invariant_of-result : goal.invariant_of-result
invariant_of-result c =
    subst (λ (es : List KeyEntry). All (λ (e : KeyEntry). IsChain c.store.inside.arena e.chain.number) es) {x = c.walk-walk.result} {y = c.look_at_rows.new.self} (sym c.look_at_rows.ensures) c.walk-walk.ensures.chains

pub returns : goal.returns
returns c =
    let i = c.store.inside in
    within_is i.arena i.prepared.items (entries_of i.index i.arena) c.look_at_rows.new.self c.args.range.now c.args.s (c.look_at_rows.ensures ∙ c.walk-walk.ensures.entries) ∙ ap (snapshot c.args.range.now c.args.s) c.store.view_is
