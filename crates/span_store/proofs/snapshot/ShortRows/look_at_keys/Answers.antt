use Rattle.std.proofs.Common.{All, List, subst, sym}
use Rattle.span_arena.specs.Content.{IsChain}
use Rattle.span_keytree.specs.Entries.{KeyEntry}
use Rattle.span_store.proofs.snapshot.ShortRows.look_at_keys.Goals as goal

pub invariant_of-self : goal.invariant_of-self
invariant_of-self c =
    let a = c.self.inside.arena.now in
    subst (λ (es : List KeyEntry). All (λ (e : KeyEntry). IsChain a e.chain.number) es) {x = c.self.inside.walk} {y = c.look_at_keys.new.self} (sym c.look_at_keys.ensures) c.self.invariant
