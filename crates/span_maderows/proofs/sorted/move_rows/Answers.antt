use Rattle.std.proofs.lemmas.List.Sorted.{IsPermutation-trans}
use Rattle.span_maderows.proofs.sorted.move_rows.Goals as goal

pub loop-start-preserved : goal.loop-start-preserved
loop-start-preserved c = IsPermutation-trans c.args.rows.now.items c.loop-start.rows.items c.move_circle.new.rows.items c.loop-start.invariant c.move_circle.ensures
