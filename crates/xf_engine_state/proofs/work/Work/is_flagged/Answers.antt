use Rattle.std.proofs.Common.{◌<◌, length, sym, ap, ◌∙◌, subst}
use Rattle.std.proofs.lemmas.List.{get_or_default}
use Rattle.xf_def_machine.specs.State.{Model}
use Rattle.xf_def_machine.specs.Behave.{model_at}
use Rattle.xf_engine_state.specs.Does.{Twin}
use Rattle.xf_engine_state.specs.Flags.{flag_of, flags_of, none_due}
use Rattle.xf_engine_state.specs.Standing.{state_of}
use Rattle.xf_engine_state.proofs.Models.{model-at, models-length}
use Rattle.xf_engine_state.proofs.work.Work.is_flagged.Goals.{After-self}
use Rattle.xf_engine_state.proofs.work.Work.is_flagged.Goals as goal

within : (c : After-self) → c.args.model < length c.self.inside.flags.items
within c =
    let many = models-length c.self.inside.table c.self.inside.flags.items c.self.invariant.sound.many in
    subst (λ n. c.args.model < n) (sym (ap (λ (t : Twin). length t.now.models) c.self.view_is) ∙ many) c.requires

pub index-requires : goal.index-requires
index-requires c = subst (λ n. c.args.model < n) (sym c.self.inside.flags.ok.0) (within (goal.at.index-requires c).After-self)

pub returns : goal.returns
returns c =
    let w = c.self.inside in
    let less = within (goal.at.returns c).After-self in
    c.has.ensures ∙ ap (λ f. flag_of c.args.flag (flags_of f)) (c.index.ensures ∙ get_or_default w.flags.items c.args.model _ none_due less)
    ∙ sym (ap (λ (m : Model). flag_of c.args.flag m.flags) (model-at w.table w.flags.items c.args.model c.self.invariant.sound.many less))
    ∙ ap (λ (t : Twin). flag_of c.args.flag (model_at (state_of t.now) c.args.model).flags) c.self.view_is
