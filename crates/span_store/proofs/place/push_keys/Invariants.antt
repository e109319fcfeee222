use Rattle.std.proofs.Common.{◌≡◌, ◌++◌, map}
use Rattle.std.specs.Prelude.{All}
use Rattle.span_arena.specs.Content.{IsChain}
use Rattle.span_keytree.specs.Entries.{KeyEntry}
use Rattle.span_store.specs.Reads.{versions_alone_at}
use Rattle.span_store.proofs.place.push_keys.Given as goal

-- the keys so far, and those that are left
abbrev pub invariant-loop-key : goal.invariant-loop-key
invariant-loop-key l = record {
  can_next : (goal.iterator-loop-key).can_next l.walk;
  is_finite : (goal.iterator-loop-key).is_finite l.walk;
  chains : All (λ (e : KeyEntry). IsChain l.arena e.chain.number) l.walk;
  so_far : l.found.items ++ map (versions_alone_at l.arena) l.walk ≡ l.fn.found.items ++ map (versions_alone_at l.arena) l.initial.walk;
}
