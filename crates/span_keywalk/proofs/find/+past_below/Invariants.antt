use Rattle.span_keywalk.proofs.find.+past_below.Given as goal

abbrev pub decreases-past_below : goal.decreases-past_below
decreases-past_below g l = l.levels
