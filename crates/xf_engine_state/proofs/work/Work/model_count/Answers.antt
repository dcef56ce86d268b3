use Rattle.std.proofs.Common.{length, sym, ap, ◌∙◌}
use Rattle.xf_engine_state.specs.Does.{Twin}
use Rattle.xf_engine_state.proofs.Models.{models-length}
use Rattle.xf_engine_state.proofs.work.Work.model_count.Goals as goal

pub returns : goal.returns
returns c =
    let w = c.self.inside in
    c.len.ensures ∙ w.flags.ok.0 ∙ sym (models-length w.table w.flags.items c.self.invariant.sound.many) ∙ ap (λ (t : Twin). length t.now.models) c.self.view_is
