use Rattle.std.proofs.Common.{◌∙◌, List, ap, subst, sym}
use Rattle.std.specs.Prelude.{All, nat_le, length, filter}
use Rattle.std.specs.List.{filter_map}
use Rattle.std.proofs.lemmas.List.Elements.{All-filter}
use Rattle.span_arena.specs.Content.{IsChain}
use Rattle.span_keytree.specs.Entries.{KeyEntry}
use Rattle.span_store.specs.Reads.{seen_entry, has_short_key}
use Rattle.span_store.proofs.Seeing.{short_seen}
use Rattle.span_store.proofs.snapshot.Snapshot.with_short_keys.Goals as goal

pub invariant_of-result : goal.invariant_of-result
invariant_of-result c =
    let a = c.self.inside.arena.now in
    subst (λ (es : List KeyEntry). All (λ (e : KeyEntry). IsChain a e.chain.number) es) (sym c.with_short_keys.ensures) (All-filter (λ (e : KeyEntry). nat_le (length e.key) c.args.most) (λ (e : KeyEntry). IsChain a e.chain.number) c.self.inside.walk c.self.invariant)

pub returns : goal.returns
returns c =
    let v = c.self.inside in
    ap (filter_map (seen_entry v.arena.now v.s)) c.with_short_keys.ensures ∙ short_seen v.arena.now v.s c.args.most v.walk ∙ ap (filter (has_short_key c.args.most)) c.self.view_is
