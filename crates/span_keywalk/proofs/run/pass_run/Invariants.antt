use Rattle.std.proofs.Common.{◌≡◌, ℕ, ◌+◌, ◌-◌, ◌≤◌, List, length, take, Option, Some}
use Rattle.span_keytree.specs.Entries.{KeyEntry}
use Rattle.span_keytree.specs.Nexts.{Nexts}
use Rattle.span_keywalk.specs.Walks.{AreShortOf, IsRun}
use Rattle.span_keywalk.proofs.run.pass_run.Given as goal

-- what was right before the run is right after the keys so far
abbrev pub invariant-loop-i : goal.invariant-loop-i
invariant-loop-i l = record {
  room : l.count ≤ l.fn.count + l.i;
  places : length l.numbers ≡ 64;
  passed : (ns : Nexts) (stop : Option ℕ) (left : ℕ) (es : List KeyEntry) → IsRun ns (length l.arena.cells) stop l.number → 8 ≤ left
      → AreShortOf l.arena.cells ns l.most stop es (take l.fn.count l.fn.numbers) left (Some l.number) → AreShortOf l.arena.cells ns l.most stop es (take l.count l.numbers) (left - l.i) (Some (l.number + l.i));
}
