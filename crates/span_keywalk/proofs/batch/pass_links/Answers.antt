use Rattle.std.proofs.Common.{◌∙◌, ◌<◌, sym, arith, length, length-set, Some, None}
use Rattle.span_keywalk.proofs.Batches.{below_next, counted_left, found_step}
use Rattle.span_keywalk.proofs.Runs.{ends_there}
use Rattle.span_keywalk.proofs.batch.pass_links.Goals as goal

pub is_end-requires : goal.is_end-requires
is_end-requires c =
    ends_there c.args.arena.now.cells c.args.nexts.now c.loop-left.left c.loop-left.here c.args.stop c.end_of-end.result c.end_of-end.ensures.end c.end_of-end.ensures.none c.numbers-numbers.ensures.few
    (omega arith) c.loop-left.invariant.below

pub returns-in_default-clause-short : goal.returns-in_default-clause-short
returns-in_default-clause-short c = λ es before.
    let l = c.loop-left in
    let fits : l.count < length l.numbers = omega (arith, l.invariant.places, l.invariant.room, l.invariant.last, c.requires.room) in
    found_step c.args.arena.now.cells c.args.nexts.now c.args.most l.here l.left l.count c.args.stop l.numbers c.is_short_length.result None es (omega arith) (sym c.is_end.ensures ∙ c.if-is_end.false) fits c.is_short_length.ensures c.in_default.ensures (l.invariant.short es before)

pub loop-left-preserved : goal.loop-left-preserved
loop-left-preserved c =
    let cs = c.args.arena.now.cells in
    let ns = c.args.nexts.now in
    let l = c.loop-left in
    let fits : l.count < length l.numbers = omega (arith, l.invariant.places, l.invariant.room, l.invariant.last, c.requires.room) in
    record {
      below = below_next cs ns l.left l.here c.args.stop (Some c.in-Some.next) (omega arith) (sym c.is_end.ensures ∙ c.if-is_end.false) c.in-Some.ensures l.invariant.below;
      short = λ es before. found_step cs ns c.args.most l.here l.left l.count c.args.stop l.numbers c.is_short_length.result (Some c.in-Some.next) es (omega arith) (sym c.is_end.ensures ∙ c.if-is_end.false) fits c.is_short_length.ensures c.in-Some.ensures (l.invariant.short es before);
      room = counted_left c.is_short_length.result l.count l.left _ (omega arith) l.invariant.room;
      left = omega (arith, l.invariant.left);
      last = omega (arith, c.loop-left-test.true);
      places = length-set l.numbers l.count l.here ∙ l.invariant.places;
      first = λ all. absurd (omega (arith, all, l.invariant.left));
    }

pub returns-clause-room : goal.returns-clause-room
returns-clause-room c = omega (arith, c.loop-left.invariant.room, c.loop-left.invariant.last, c.requires.room, c.requires.left)
