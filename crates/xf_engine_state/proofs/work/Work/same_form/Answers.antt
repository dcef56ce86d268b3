use Rattle.std.proofs.Common.{◌≡◌, refl, subst}
use Rattle.xf_engine_state.specs.Does.{Twin}
use Rattle.xf_engine_state.specs.Standing.{state_of}
use Rattle.xf_engine_state.proofs.work.Work.same_form.Goals as goal

pub returns : goal.returns
returns c = subst (λ (t : Twin). (state_of t.kept.standing).form ≡ (state_of t.now).form) c.self.view_is refl
