use Rattle.span_keywalk.proofs.find.+first_below.Given as goal

abbrev pub decreases-first_below : goal.decreases-first_below
decreases-first_below g l = l.levels
