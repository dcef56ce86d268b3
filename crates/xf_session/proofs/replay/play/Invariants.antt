use Rattle.std.proofs.Common.{◌≡◌, ◌≤◌, ◌-◌, None, length, drop}
use Rattle.xf_def_form.specs.Formed.{profile}
use Rattle.xf_session.specs.Replaying.{played}
use Rattle.xf_session.proofs.replay.play.Given as goal

abbrev pub invariant-loop-count : goal.invariant-loop-count
invariant-loop-count g l =
    (played profile (g.P.Processor.state l.fn.processor) l.entries ≡ played profile (g.P.Processor.state l.processor) (drop l.count l.entries)) × (l.count ≤ length l.entries) × (g.P.Processor.kept l.processor ≡ None)

abbrev pub decreases-loop-count : goal.decreases-loop-count
decreases-loop-count g l = length l.entries - l.count
