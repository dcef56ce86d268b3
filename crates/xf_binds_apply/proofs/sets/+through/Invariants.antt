use Rattle.xf_binds_apply.proofs.sets.+through.Given as goal

abbrev pub decreases-through : goal.decreases-through
decreases-through g l = l.bind
