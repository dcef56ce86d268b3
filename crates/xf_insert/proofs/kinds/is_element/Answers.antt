use Rattle.std.proofs.Common.{sym, ◌∙◌}
use Rattle.xf_def_forest.specs.declared.content.Kind.TheVariants as kind
use Rattle.xf_def_forest.specs.Forest.{is_element}
use Rattle.xf_insert.proofs.KindLaws.{in-element, not-in}
use Rattle.xf_insert.proofs.kinds.is_element.Goals as goal

pub returns-then-not-is_live : goal.returns-then-not-is_live
returns-then-not-is_live c = sym (not-in is_element c.args.node.number c.args.forest.now.forest.nodes (sym c.is_live.ensures ∙ c.if-not-is_live.true))

pub returns-in-Root : goal.returns-in-Root
returns-in-Root c = sym (in-element kind.Root c.args.node.number c.args.forest.now.forest.nodes c.are_trees.ensures.apart c.in-Root.ensures)

pub returns-in-Element : goal.returns-in-Element
returns-in-Element c = sym (in-element kind.Element c.args.node.number c.args.forest.now.forest.nodes c.are_trees.ensures.apart c.in-Element.ensures)

pub returns-in-Attribute : goal.returns-in-Attribute
returns-in-Attribute c = sym (in-element kind.Attribute c.args.node.number c.args.forest.now.forest.nodes c.are_trees.ensures.apart c.in-Attribute.ensures)

pub returns-in-Text : goal.returns-in-Text
returns-in-Text c = sym (in-element kind.Text c.args.node.number c.args.forest.now.forest.nodes c.are_trees.ensures.apart c.in-Text.ensures)
