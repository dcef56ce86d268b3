use Rattle.std.proofs.Common.{map, sym, ap, slice_get}
use Rattle.xf_tree_walks.specs.Nodes.{node_of}
use Rattle.xf_tree_walks.proofs.SoughtLemmas.{met-absent}
use Rattle.xf_tree_walks.proofs.chosen_row.row_on_axis.Goals as goal

pub returns-in_default-clause-answer : goal.returns-in_default-clause-answer
returns-in_default-clause-answer c = sym (ap (λ l. slice_get l c.args.place) (met-absent c.args.axis c.args.sought (map (node_of c.args.slots.now) c.args.rows.now.items) c.args.from.number c.in_default.ensures))
