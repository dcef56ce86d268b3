use Rattle.xf_repeat.proofs.passing.+is_noted_above.Given as goal

abbrev pub decreases-is_noted_above : goal.decreases-is_noted_above
decreases-is_noted_above l = l.most
