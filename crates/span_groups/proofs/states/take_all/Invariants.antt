use Rattle.std.proofs.Common.{length}
use Rattle.span_groups.specs.StateLists.{states_from, IsChangedAt}
use Rattle.span_groups.proofs.Together.{Takes}
use Rattle.span_groups.proofs.states.take_all.Given as goal

abbrev pub invariant-loop-at : goal.invariant-loop-at
invariant-loop-at l = record {
  taken : Takes l.aggregates l.row (states_from l.start (length l.aggregates) l.fn.states.items) (states_from l.start (length l.aggregates) l.states.items) l.at;
  others : IsChangedAt l.start (length l.aggregates) l.fn.states.items l.states.items;
}
