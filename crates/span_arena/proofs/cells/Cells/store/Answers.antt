use Rattle.std.proofs.Common.{◌∙◌, ap, sym}
use Rattle.std.proofs.Math.Seq.{map-set_same}
use Rattle.span_arena.specs.Cells.{kept_length}
use Rattle.span_arena.proofs.cells.Cells.store.Goals as goal

pub invariant_of-self : goal.invariant_of-self
invariant_of-self c = c.self.invariant ∙ sym (map-set_same kept_length c.self.inside.cells.items c.args.number _ c.index_mut.result.now (ap kept_length c.index_mut.ensures.value))
