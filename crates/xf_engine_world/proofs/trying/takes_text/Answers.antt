use Rattle.std.proofs.Common.{ap, sym}
use Rattle.xf_controls.specs.Seen.{seen_copy}
use Rattle.xf_def_machine.specs.Targets.{takes_text}
use Rattle.xf_engine_world.specs.State.{state_of}
use Rattle.xf_engine_world.proofs.TryLaws.{no-sort}
use Rattle.xf_engine_world.proofs.trying.takes_text.Goals as goal

pub returns-in-None : goal.returns-in-None
returns-in-None c =
    sym (ap (λ sort. takes_text sort (seen_copy c.args.copy.now) c.args.text.now) (no-sort c.form.result.now (state_of c.args.world.now) c.args.element c.form.ensures c.in-None.ensures))
