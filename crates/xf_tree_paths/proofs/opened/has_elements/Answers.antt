use Rattle.std.proofs.Common.{ap}
use Rattle.xf_def_forest.proofs.TextLaws.{in_forest}
use Rattle.xf_tree_contents.specs.Seen.{seen_content}
use Rattle.xf_tree_paths.proofs.StemLemmas.{childless-attribute, childless-text}
use Rattle.xf_tree_paths.proofs.opened.has_elements.Goals as goal

pub returns-in-Some-Attribute-clause-answer : goal.returns-in-Some-Attribute-clause-answer
returns-in-Some-Attribute-clause-answer c =
    childless-attribute c.args.forest.now.forest c.args.node.number (seen_content c.in-Some-Attribute.field-0) _ _ (in_forest c.are_trees.ensures) c.in-Some-Attribute.ensures (ap seen_content c.in-Some-Attribute.field-0-is)

pub returns-in-Some-Text-clause-answer : goal.returns-in-Some-Text-clause-answer
returns-in-Some-Text-clause-answer c =
    childless-text c.args.forest.now.forest c.args.node.number (seen_content c.in-Some-Text.field-0) _ (in_forest c.are_trees.ensures) c.in-Some-Text.ensures (ap seen_content c.in-Some-Text.field-0-is)
