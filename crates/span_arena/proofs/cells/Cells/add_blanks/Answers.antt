use Rattle.std.proofs.Common.{◌∙◌}
use Rattle.span_arena.proofs.Blanks.{lengths_more}
use Rattle.span_arena.proofs.cells.Cells.add_blanks.Goals as goal

pub invariant_of-self-2 : goal.invariant_of-self-2
invariant_of-self-2 c =
    let i = c.self.inside in
    let lengths = c.reserve_more-2.new.items in
    rw (c.put_blanks.ensures, c.reserve_more.ensures.items) (c.in_ok-resize.ensures.items ∙ lengths_more i.cells.items lengths.items c.args.count c.len-len.result _ (c.reserve_more-2.ensures.items ∙ c.self.invariant) (c.len-len.ensures ∙ i.cells.ok.0) lengths.ok.0)
