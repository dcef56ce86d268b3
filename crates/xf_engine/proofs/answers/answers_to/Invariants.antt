use Rattle.std.proofs.Common.{◌≡◌, take}
use Rattle.xf_def_machine.specs.Replies.{answers_in}
use Rattle.xf_engine.proofs.answers.answers_to.Given as goal

abbrev pub invariant-loop-call : goal.invariant-loop-call
invariant-loop-call l = l.answers ≡ answers_in (take l.call-index l.calls)
