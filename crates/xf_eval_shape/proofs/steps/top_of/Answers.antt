use Rattle.std.proofs.Common.{ap, sym, ◌∙◌}
use Rattle.xf_def_forest.specs.Forest.{has_number}
use Rattle.xf_def_forest.proofs.LiveLaws.{top-live}
use Rattle.xf_eval_shape.proofs.Tops.{top-outside, top-whole}
use Rattle.xf_eval_shape.proofs.steps.top_of.Goals as goal

pub entered-requires : goal.entered-requires
entered-requires c = ap (λ k. has_number k c.args.forest.now.forest.nodes) c.top.ensures ∙ top-live c.args.node.number c.args.forest.now.forest.nodes c.requires

pub returns-then-stands-clause-value : goal.returns-then-stands-clause-value
returns-then-stands-clause-value c = c.entered.ensures.number ∙ c.top.ensures ∙ top-whole c.args.forest.now.forest c.is_sound.ensures c.args.node.number c.requires (sym c.stands.ensures ∙ c.if-stands.true)

pub returns-else-stands-clause-value : goal.returns-else-stands-clause-value
returns-else-stands-clause-value c = c.entered-else-stands.ensures.number ∙ top-outside c.args.forest.now.forest.nodes c.args.node.number (sym c.stands.ensures ∙ c.if-stands.false)
