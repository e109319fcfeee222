use Rattle.std.proofs.Common.{◌-◌, length}
use Rattle.span_schema.specs.Lineages.{MeetsRules}
use Rattle.span_keycode.proofs.KeyReading.{IsRead}
use Rattle.span_keycode.proofs.decode.read_key.Given as goal

abbrev pub invariant-loop-at : goal.invariant-loop-at
invariant-loop-at l = record {
  rules : MeetsRules l.schema;
  read : IsRead l.schema l.bytes l.above l.values.items l.at;
}

abbrev pub decreases-loop-at : goal.decreases-loop-at
decreases-loop-at l = length l.bytes - l.at
