use Rattle.std.proofs.Common.{◌≡◌, drop}
use Rattle.xf_def_ui.specs.Interface.{interface_of}
use Rattle.xf_eval_context.specs.Inside.{seen_inside}
use Rattle.xf_eval_context.specs.Texts.{behind, joined}
use Rattle.xf_eval_context.specs.Over.{around_over}
use Rattle.xf_eval_context.proofs.texts.+push_pieces.Given as goal

abbrev pub decreases-push_pieces : goal.decreases-push_pieces
decreases-push_pieces l = l.most

-- what is told and what is left give what all the parts give
abbrev pub invariant-loop-part : goal.invariant-loop-part
invariant-loop-part l =
    behind l.initial.all (joined (interface_of l.over.form.now) (around_over l.over) (seen_inside l.within) l.most l.parts)
    ≡ behind l.all (joined (interface_of l.over.form.now) (around_over l.over) (seen_inside l.within) l.most (drop l.part-index l.parts))
