use Rattle.std.proofs.Common.{◌<◌, length, arith}
use Rattle.std.proofs.lemmas.List.Sorted.{IsPermutation-swap, IsPermutation-trans}
use Rattle.span_maderows.proofs.sorted.move_circle.Goals as goal

pub loop-preserved : goal.loop-preserved
loop-preserved c =
    let rows = c.loop.rows.items in
    let from = c.take_place-from.result in
    let to = c.loop.to in
    let within = c.is_move.ensures c.if-not-is_move.false in
    let from_within : from < length rows = omega (arith, within.0, c.len.ensures, c.loop.rows.ok) in
    let to_within : to < length rows = omega (arith, within.1, c.len.ensures, c.loop.rows.ok) in
    IsPermutation-trans c.args.rows.now.items rows c.swap.new.self.items c.loop.invariant (IsPermutation-swap rows c.swap.new.self.items from to from_within to_within c.swap.ensures.items)
