use Rattle.span_keytree.proofs.last.+last_below.Given as goal

abbrev pub decreases-last_below : goal.decreases-last_below
decreases-last_below l = l.levels
