use Rattle.xf_form_elements.proofs.scope.+model_above.Given as goal

abbrev pub decreases-model_above : goal.decreases-model_above
decreases-model_above l = l.most
