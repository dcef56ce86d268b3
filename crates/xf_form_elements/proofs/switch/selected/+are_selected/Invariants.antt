use Rattle.xf_form_elements.proofs.switch.selected.+are_selected.Given as goal

abbrev pub decreases-are_selected : goal.decreases-are_selected
decreases-are_selected l = l.most
