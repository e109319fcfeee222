use Rattle.std.proofs.Common.{lit<}
use Rattle.std.proofs.lemmas.Str.Pattern.{strip_prefix_char}
use Rattle.span_value.proofs.cell.strip_backslash.Goals as goal

pub returns : goal.returns
returns c = strip_prefix_char 92 c.args.text.now c.strip_prefix.result c.strip_prefix.ensures.cases (lit< tt)
