use Rattle.std.proofs.lemmas.List.Elements.{All-pop}
use Rattle.xf_tree_paths.specs.Opened.{IsOpen}
use Rattle.xf_tree_paths.proofs.opened.close.Goals as goal

pub loop-one-preserved-else-is_some : goal.loop-one-preserved-else-is_some
loop-one-preserved-else-is_some c = λ all stands. (All-pop (IsOpen all) c.loop-one.nodes.items c.pop.new.self.items c.pop.result c.pop.ensures.items (c.loop-one.invariant all stands)).0
