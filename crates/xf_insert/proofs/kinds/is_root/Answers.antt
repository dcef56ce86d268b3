use Rattle.std.proofs.Common.{sym, ◌∙◌}
use Rattle.xf_def_forest.specs.declared.content.Kind.TheVariants as kind
use Rattle.xf_def_forest.specs.Forest.{is_root}
use Rattle.xf_insert.proofs.KindLaws.{in-root, not-in}
use Rattle.xf_insert.proofs.kinds.is_root.Goals as goal

pub returns-then-not-is_live : goal.returns-then-not-is_live
returns-then-not-is_live c = sym (not-in is_root c.args.node.number c.args.forest.now.forest.nodes (sym c.is_live.ensures ∙ c.if-not-is_live.true))

pub returns-in-Root : goal.returns-in-Root
returns-in-Root c = sym (in-root kind.Root c.args.node.number c.args.forest.now.forest.nodes c.are_trees.ensures.apart c.in-Root.ensures)

pub returns-in-Element : goal.returns-in-Element
returns-in-Element c = sym (in-root kind.Element c.args.node.number c.args.forest.now.forest.nodes c.are_trees.ensures.apart c.in-Element.ensures)

pub returns-in-Attribute : goal.returns-in-Attribute
returns-in-Attribute c = sym (in-root kind.Attribute c.args.node.number c.args.forest.now.forest.nodes c.are_trees.ensures.apart c.in-Attribute.ensures)

pub returns-in-Text : goal.returns-in-Text
returns-in-Text c = sym (in-root kind.Text c.args.node.number c.args.forest.now.forest.nodes c.are_trees.ensures.apart c.in-Text.ensures)
