use Rattle.std.proofs.Common.{◌≡◌, None, subst}
use Rattle.xf_def_forest.specs.Changes.{root_of}
use Rattle.xf_engine_state.specs.Does.{Twin}
use Rattle.xf_engine_state.specs.Held.{last_place}
use Rattle.xf_engine_state.proofs.work.Work.few_roots.Goals as goal

pub returns : goal.returns
returns c =
    let w = c.self.inside in
    subst (λ (t : Twin). root_of last_place t.now.forest.nodes ≡ None) c.self.view_is c.self.invariant.sound.now.few
