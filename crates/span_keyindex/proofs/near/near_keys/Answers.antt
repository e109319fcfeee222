use Rattle.std.proofs.Common.{◌*◌, arith}
use Rattle.span_keyindex.specs.Limits.{search_lanes}
use Rattle.span_keyindex.proofs.Looking.{few_looked, look_cost}
use Rattle.span_keyindex.proofs.near.near_keys.Goals as goal

pub returns-then-keys-eq1 : goal.returns-then-keys-eq1
returns-then-keys-eq1 g c =
    let levels = c.args.index.now.tree.levels in
    look_cost c.args.arena.now.cells c.args.index.now.tree c.args.steps.now c.near_one.new.steps c.requires.index.search
    (few_looked levels (search_lanes * levels) c.args.steps.now c.near_one.new.steps (omega arith) c.near_one.ensures)

pub returns : goal.returns
returns g c = look_cost c.args.arena.now.cells c.args.index.now.tree c.args.steps.now c.search_all.new.steps c.requires.index.search c.search_all.ensures
