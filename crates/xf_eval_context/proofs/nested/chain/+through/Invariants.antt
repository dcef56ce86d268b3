use Rattle.xf_eval_context.proofs.nested.chain.+through.Given as goal

abbrev pub decreases-through : goal.decreases-through
decreases-through g l = l.bind
