-- What a borrowed look at a node's content stands for.
use Rattle.xf_def_forest.specs.declared.content.Content.{Content}
use Rattle.xf_def_forest.specs.declared.content.Content.TheVariants.{Root, Element, Attribute, Text}
use Rattle.xf_tree_contents.specs.declared.seen.Seen.{Seen}
use Rattle.xf_tree_contents.specs.declared.seen.Seen.TheVariants as seen

abbrev pub seen_content : Seen → Content
seen_content seen.Root = Root
seen_content (seen.Element name) = Element name.now
seen_content (seen.Attribute name text) = Attribute name.now text.now
seen_content (seen.Text text) = Text text.now
