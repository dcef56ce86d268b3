use Rattle.std.proofs.Common.{◌∙◌, sym}
use Rattle.std.proofs.lemmas.Result.{IfOk-weaker}
use Rattle.xf_recalc_pertinent.proofs.Ups.{absent-above, standing-above, standing-live}
use Rattle.xf_recalc_pertinent.proofs.touched.above.Goals as goal

pub ancestors-requires : goal.ancestors-requires
ancestors-requires c = standing-live c.args.forest.now.forest c.is_sound.ensures c.args.node.number c.stands.ensures.small (sym c.stands.ensures.stands ∙ c.if-stands.true)

pub returns-then-stands : goal.returns-then-stands
returns-then-stands c =
    IfOk-weaker c.ancestors.result _ _
    (λ nodes h. h ∙ standing-above c.args.forest.now.forest c.is_sound.ensures c.args.node.number c.stands.ensures.small (sym c.stands.ensures.stands ∙ c.if-stands.true))
    c.ancestors.ensures

pub returns : goal.returns
returns c = c.new.ensures ∙ absent-above c.args.forest.now.forest c.is_sound.ensures c.args.node.number c.stands.ensures.small (sym c.stands.ensures.stands ∙ c.if-stands.false)
