use Rattle.std.proofs.Common.{◌≡◌, map, drop}
use Rattle.span_blocks.specs.Onward.{fold_results}
use Rattle.span_blocks.specs.Sources.{AreTables}
use Rattle.span_binder.specs.Queries as spec
use Rattle.span_binder.proofs.binding.Binder.+binding.Given as goal

abbrev pub invariant-join_items-loop-join : goal.invariant-join_items-loop-join
invariant-join_items-loop-join l =
    record {
      meant : fold_results (spec.next_join l.self.params.now) (map (spec.join_step l.self.schema.now l.self.params.now) l.joins) l.fn.first
          ≡ fold_results (spec.next_join l.self.params.now) (map (spec.join_step l.self.schema.now l.self.params.now) (drop l.join-index l.joins)) l.so_far;
      tables : AreTables l.self.schema.now l.fn.first.1 → AreTables l.self.schema.now l.so_far.1;
    }

abbrev pub invariant-others-loop-other : goal.invariant-others-loop-other
invariant-others-loop-other l =
    record {
      meant : fold_results spec.next_block (map (spec.block_step l.self.schema.now l.self.params.now) l.others) l.fn.first
          ≡ fold_results spec.next_block (map (spec.block_step l.self.schema.now l.self.params.now) (drop l.other-index l.others)) l.so_far;
      tables : AreTables l.self.schema.now l.fn.first.1 → AreTables l.self.schema.now l.so_far.1;
    }
