use Rattle.xf_eval_shape.proofs.Sounds.{sound-of}
use Rattle.xf_eval_shape.proofs.leaf.is_sound.Goals as goal

pub returns : goal.returns
returns c = sound-of c.args.forest.now c.are_trees.ensures c.next_number.result c.next_number.ensures c.fits.ensures
