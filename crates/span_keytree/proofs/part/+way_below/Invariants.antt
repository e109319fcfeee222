use Rattle.span_keytree.proofs.part.+way_below.Given as goal

abbrev pub decreases-way_below : goal.decreases-way_below
decreases-way_below g l = l.levels
