use Rattle.std.proofs.Common.{◌≡◌, ◌++◌, map}
use Rattle.std.specs.Prelude.{filter}
use Rattle.span_shard.specs.Reading.{entry_row, has_short_key}
use Rattle.span_fragment.proofs.short.short_entries.Given as goal

-- the entries so far, and the rows that are left
abbrev pub invariant-loop-entry : goal.invariant-loop-entry
invariant-loop-entry l = record {
  can_next : (goal.iterator-loop-entry).can_next l.entry-iterator;
  is_finite : (goal.iterator-loop-entry).is_finite l.entry-iterator;
  so_far : map entry_row l.entries.items ++ l.entry-iterator ≡ filter (has_short_key l.most) l.fn.snapshot;
}
