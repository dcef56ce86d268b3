use Rattle.std.proofs.Common.{subst}
use Rattle.xf_def_forest.specs.WellFormed.{AreTrees}
use Rattle.xf_tree.proofs.TreesLemmas.{sound-trees}
use Rattle.xf_tree.proofs.forest.Forest.are_trees.Goals as goal

pub returns : goal.returns
returns c = subst AreTrees c.self.view_is (sound-trees c.self.inside.slots c.self.inside.rows.items c.self.inside.kept.items c.self.inside.next c.self.invariant.sound)
