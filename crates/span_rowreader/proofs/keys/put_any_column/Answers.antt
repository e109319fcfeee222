use Rattle.std.proofs.lemmas.Option.{MatchOption-at_some}
use Rattle.span_rowreader.proofs.keys.put_any_column.Goals as goal

pub returns-in-Some : goal.returns-in-Some
returns-in-Some c = record { value = c.in-Some.value; read = MatchOption-at_some _ _ _ c.in-Some.is c.in_ok-read_value.ensures; put = c.put_value.ensures }
