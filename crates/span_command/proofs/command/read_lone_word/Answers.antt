use Rattle.span_command.proofs.Refusing.{no_lone}
use Rattle.span_command.proofs.command.read_lone_word.Goals as goal

pub returns-in_default : goal.returns-in_default
returns-in_default c = no_lone c.args.word.now c.requires c.in_default.not-begin c.in_default.not-shards
