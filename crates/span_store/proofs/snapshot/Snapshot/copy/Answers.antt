use Rattle.std.proofs.Common.{List, subst, sym}
use Rattle.std.specs.Prelude.{All}
use Rattle.span_arena.specs.Content.{IsChain}
use Rattle.span_keytree.specs.Entries.{KeyEntry}
use Rattle.span_store.proofs.snapshot.Snapshot.copy.Goals as goal

pub invariant_of-result : goal.invariant_of-result
invariant_of-result c =
    let a = c.self.inside.arena.now in
    subst (λ (es : List KeyEntry). All (λ (e : KeyEntry). IsChain a e.chain.number) es) (sym c.copy.ensures) c.self.invariant
