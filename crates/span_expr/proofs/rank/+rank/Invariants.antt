use Rattle.span_expr.proofs.rank.+rank.Given as goal

abbrev pub decreases-rank : goal.decreases-rank
decreases-rank l = l.place
