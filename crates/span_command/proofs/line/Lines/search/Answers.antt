use Rattle.std.proofs.Common.{◌≡◌, ◌-◌, length, slice_range, ap, arith}
use Rattle.span_command.proofs.Ranges.{length_of_range, none_so_far, none_at_all}
use Rattle.span_command.proofs.Steps.{fits}
use Rattle.span_command.proofs.line.Lines.search.Goals as goal

pub invariant_of-self-clause-no_lf : goal.invariant_of-self-clause-no_lf
invariant_of-self-clause-no_lf c =
    let lines = c.args.self.now in
    let same = c.as_slice.ensures.value in
    let long : length (slice_range c.as_slice.result.now lines.searched lines.end) ≡ lines.end - lines.searched =
    length_of_range c.as_slice.result.now lines.searched lines.end (omega (arith, fits lines, ap length same)) in
    none_so_far lines.buffer.items c.as_slice.result.now lines.start lines.searched lines.end c.in-Some.at same lines.in_order (fits lines)
    (omega (arith, long, c.in-Some.ensures.0.high, lines.searched_within)) lines.no_lf c.in-Some.ensures.0.before

pub invariant_of-self-in-None-clause-no_lf : goal.invariant_of-self-in-None-clause-no_lf
invariant_of-self-in-None-clause-no_lf c =
    let lines = c.args.self.now in
    none_at_all lines.buffer.items c.as_slice.result.now lines.start lines.searched lines.end c.as_slice.ensures.value lines.in_order lines.searched_within (fits lines)
    lines.no_lf c.in-None.ensures
