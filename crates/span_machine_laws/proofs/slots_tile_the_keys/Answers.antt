use Rattle.span_machine_laws.proofs.Ranges.{run_tiles}
use Rattle.span_machine_laws.proofs.slots_tile_the_keys.Goals as goal

pub returns : goal.returns
returns g c = run_tiles g.U.Understanding.understands
