use Rattle.xf_controls_copies.proofs.enabled.+are_open.Given as goal

abbrev pub decreases-are_open : goal.decreases-are_open
decreases-are_open g l = l.most
