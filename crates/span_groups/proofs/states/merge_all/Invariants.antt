use Rattle.std.proofs.Common.{length}
use Rattle.span_groups.specs.StateLists.{states_from, IsChangedAt}
use Rattle.span_groups.proofs.Merging.{TakesBefore}
use Rattle.span_groups.proofs.states.merge_all.Given as goal

abbrev pub invariant-loop-at : goal.invariant-loop-at
invariant-loop-at l = record {
  taken : TakesBefore (states_from l.start (length l.more) l.fn.states.items) l.more (states_from l.start (length l.more) l.states.items) l.at;
  others : IsChangedAt l.start (length l.more) l.fn.states.items l.states.items;
}
