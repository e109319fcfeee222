use Rattle.span_keytree.proofs.last.+stop_below.Given as goal

abbrev pub decreases-stop_below : goal.decreases-stop_below
decreases-stop_below l = l.levels
