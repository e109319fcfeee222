use Rattle.std.proofs.Common.{◌≡◌, ◌+◌, arith, length}
use Rattle.span_keywalk.proofs.Runs.{goes_past, links_length, next_kept}
use Rattle.span_keywalk.proofs.run.has_run.Goals as goal

pub returns-clause-run : goal.returns-clause-run
returns-clause-run c = λ is stop end.
    let links = c.numbers-2.result.now in
    let cells = length c.args.arena.now.cells in
    let all : length links ≡ cells = links_length links c.args.nexts.now cells c.numbers-2.ensures c.requires in
    record {
      within = omega (arith, c.if-number-numbers.false, c.numbers.ensures.len);
      next = λ k few. next_kept links c.args.nexts.now (c.args.number + k) c.numbers-2.ensures (omega (arith, all, few, c.if-number-numbers.false, c.numbers.ensures.len)) (omega (arith, all, c.numbers.ensures.few)) (c.are_next_numbers.ensures is k few);
      goes_on = λ k few. goes_past stop (c.args.number + k) c.args.end end (c.is_apart.ensures c.if-not-is_apart.false k few);
    }
