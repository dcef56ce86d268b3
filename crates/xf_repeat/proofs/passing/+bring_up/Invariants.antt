use Rattle.xf_repeat.proofs.passing.+bring_up.Given as goal

abbrev pub decreases-bring_up : goal.decreases-bring_up
decreases-bring_up l = l.most
