use Rattle.span_querytext.proofs.query.+read_query.Given as goal

abbrev pub decreases-read_query : goal.decreases-read_query
decreases-read_query l = l.left
