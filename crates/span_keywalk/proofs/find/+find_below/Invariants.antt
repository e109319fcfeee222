use Rattle.span_keywalk.proofs.find.+find_below.Given as goal

abbrev pub decreases-find_below : goal.decreases-find_below
decreases-find_below l = l.levels
