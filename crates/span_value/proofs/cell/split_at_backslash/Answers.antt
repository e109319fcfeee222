use Rattle.std.proofs.Common.{lit<}
use Rattle.std.proofs.lemmas.Str.Pattern.{split_parts}
use Rattle.span_value.proofs.cell.split_at_backslash.Goals as goal

pub returns : goal.returns
returns c = split_parts 92 c.args.text.now c.split_once.result c.split_once.ensures.cases (lit< tt)
