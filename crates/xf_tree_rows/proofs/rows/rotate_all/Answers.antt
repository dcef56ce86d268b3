use Rattle.xf_tree_rows.proofs.MoveLemmas.{turned-rotated}
use Rattle.xf_tree_rows.proofs.rows.rotate_all.Goals as goal

pub returns : goal.returns
returns c = turned-rotated c.args.at c.args.mid c.args.end c.args.rows.now c.rotate_left.new.self c.requires.first c.requires.second c.rotate_left.ensures.after
