use Rattle.std.proofs.Common.{refl}
use Rattle.span_command.specs.Words.{spaced}
use Rattle.span_command.proofs.Refusing.{numbered}
use Rattle.span_command.proofs.command.read_named.Goals as goal

pub returns-in_default : goal.returns-in_default
returns-in_default c = numbered (spaced c.args.word.now c.args.rest.now) c.args.word.now c.args.rest.now c.requires refl (record {
  param = c.in_default.not-param;
  insert = c.in_default.not-insert;
  update = c.in_default.not-update;
  upsert = c.in_default.not-upsert;
  delete = c.in_default.not-delete;
  split = c.in_default.not-split;
  load = c.in_default.not-load;
  opens = c.in_default.not-open;
  query = c.in_default.not-query;
  explain = c.in_default.not-explain;
}) c.read_numbered.result c.read_numbered.ensures
