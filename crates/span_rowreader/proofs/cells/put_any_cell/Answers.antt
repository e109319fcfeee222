use Rattle.std.proofs.lemmas.Option.{MatchOption-at_some}
use Rattle.span_rowreader.proofs.cells.put_any_cell.Goals as goal

pub returns-in-Some : goal.returns-in-Some
returns-in-Some c = record { value = c.in-Some.value; read = MatchOption-at_some _ _ _ c.in-Some.is c.in_ok-read_cell.ensures; put = c.put_value.ensures }
