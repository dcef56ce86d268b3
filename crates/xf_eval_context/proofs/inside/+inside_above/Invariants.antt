use Rattle.xf_eval_context.proofs.inside.+inside_above.Given as goal

abbrev pub decreases-inside_above : goal.decreases-inside_above
decreases-inside_above l = l.most
