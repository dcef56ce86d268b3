use Rattle.std.proofs.Common.{refl, sym, subst}
use Rattle.xf_actions.specs.Seen.{IsProgram}
use Rattle.xf_engine_world.specs.State.{state_of}
use Rattle.xf_engine_world.proofs.elements.form.Goals as goal

pub returns : goal.returns
returns c =
    subst (λ f. IsProgram f (state_of c.args.world.now).form) (sym c.form.ensures)
    (record { interface = refl; roles = refl; submissions = refl; model_elements = refl; submission_elements = refl })
