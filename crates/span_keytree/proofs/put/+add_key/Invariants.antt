use Rattle.span_keytree.proofs.put.+add_key.Given as goal

abbrev pub decreases-add_key : goal.decreases-add_key
decreases-add_key g l = l.levels
