use Rattle.std.proofs.Common.{◌∙◌, All, List, ap, subst, sym}
use Rattle.std.specs.List.{filter_map}
use Rattle.std.proofs.lemmas.List.Elements.{filter_map-append}
use Rattle.span_arena.specs.Content.{IsChain}
use Rattle.span_keytree.specs.Entries.{KeyEntry}
use Rattle.span_store.specs.Reads.{seen_entry}
use Rattle.span_store.proofs.Seeing.{chains_found, chains_after}
use Rattle.span_store.proofs.snapshot.ShortRows.take_found.Goals as goal

pub invariant_of-self : goal.invariant_of-self
invariant_of-self c =
    let a = c.self.inside.arena.now in
    chains_after a c.take_found.result c.take_found.new.self
    (subst (λ (es : List KeyEntry). All (λ (e : KeyEntry). IsChain a e.chain.number) es) c.take_found.ensures c.self.invariant)

pub invariant_of-result : goal.invariant_of-result
invariant_of-result c =
    let a = c.self.inside.arena.now in
    chains_found a c.take_found.result c.take_found.new.self
    (subst (λ (es : List KeyEntry). All (λ (e : KeyEntry). IsChain a e.chain.number) es) c.take_found.ensures c.self.invariant)

pub returns : goal.returns
returns c =
    let seen = seen_entry c.self.inside.arena.now c.self.inside.s in
    sym c.self.view_is ∙ ap (filter_map seen) c.take_found.ensures ∙ filter_map-append seen c.take_found.result c.take_found.new.self
