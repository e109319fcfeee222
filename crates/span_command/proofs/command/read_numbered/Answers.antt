use Rattle.span_command.proofs.Refusing.{no_numbered}
use Rattle.span_command.proofs.command.read_numbered.Goals as goal

pub returns-in_default : goal.returns-in_default
returns-in_default c = no_numbered c.args.word.now c.args.numbers.now c.requires (record {
  clock = c.in_default.not-clock;
  prepare = c.in_default.not-prepare;
  decide = c.in_default.not-decide;
  abort = c.in_default.not-abort;
  apply = c.in_default.not-apply;
  advance = c.in_default.not-advance;
  scan = c.in_default.not-scan;
  finish = c.in_default.not-finish;
  close = c.in_default.not-close;
  trim = c.in_default.not-trim;
})
