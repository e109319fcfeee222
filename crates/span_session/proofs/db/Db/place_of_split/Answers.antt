use Rattle.std.proofs.lemmas.Result.{IfErr-weaker}
use Rattle.span_session.proofs.db.Db.place_of_split.Goals as goal

pub returns-clause-refused : goal.returns-clause-refused
returns-clause-refused g c = IfErr-weaker c.place_of_split.result _ _ (λ why replies. (_, replies)) c.place_of_split.ensures.refused
