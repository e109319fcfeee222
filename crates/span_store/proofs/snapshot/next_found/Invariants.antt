use Rattle.std.proofs.Common.{◌≡◌, length}
use Rattle.std.specs.Prelude.{All}
use Rattle.std.specs.List.{filter_map}
use Rattle.span_arena.specs.Content.{IsChain}
use Rattle.span_keytree.specs.Entries.{KeyEntry}
use Rattle.span_store.specs.Reads.{seen_entry}
use Rattle.span_store.proofs.snapshot.next_found.Given as goal

-- the rows are all left
abbrev pub invariant-loop-key : goal.invariant-loop-key
invariant-loop-key l = record {
  chains : All (λ (e : KeyEntry). IsChain l.arena e.chain.number) l.keys;
  left : filter_map (seen_entry l.arena l.s) l.initial.keys ≡ filter_map (seen_entry l.arena l.s) l.keys;
}

abbrev pub decreases-loop-key : goal.decreases-loop-key
decreases-loop-key l = length l.keys
