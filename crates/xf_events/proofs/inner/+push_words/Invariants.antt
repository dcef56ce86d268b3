use Rattle.std.proofs.Common.{◌≡◌, ◌++◌, drop}
use Rattle.xf_def_ui.specs.Interface.{interface_of}
use Rattle.xf_events.specs.Inner.{words_through}
use Rattle.xf_events.proofs.inner.+push_words.Given as goal

abbrev pub decreases-push_words : goal.decreases-push_words
decreases-push_words l = l.most

-- what is told and what is left give what all the parts give
abbrev pub invariant-loop-part : goal.invariant-loop-part
invariant-loop-part l = l.initial.all ++ words_through l.most (interface_of l.form) l.parts ≡ l.all ++ words_through l.most (interface_of l.form) (drop l.part-index l.parts)
