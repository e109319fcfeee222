use Rattle.std.proofs.Common.{ℕ, List, inl, refl, subst}
use Rattle.span_keytree.specs.Entries.{HasChain}
use Rattle.span_keyindex.specs.Indexes.{entries_of}
use Rattle.span_store.proofs.search.slot_near.Goals as goal

pub returns-in-Some-clause-ok : goal.returns-in-Some-clause-ok
returns-in-Some-clause-ok c =
    let has = subst (λ (k : List ℕ). HasChain (entries_of c.args.index.now c.args.arena.now) k c.in-Some.chain) c.as_slice.ensures c.in-Some.ensures.own in
    inl (has, refl, refl)
