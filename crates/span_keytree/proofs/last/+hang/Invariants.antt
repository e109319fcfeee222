use Rattle.span_keytree.proofs.last.+hang.Given as goal

abbrev pub decreases-hang : goal.decreases-hang
decreases-hang g l = l.levels
