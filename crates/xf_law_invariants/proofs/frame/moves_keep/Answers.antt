use Rattle.xf_law_invariants.proofs.FrameLemmas.Moves.{move_laws}
use Rattle.xf_law_invariants.proofs.frame.moves_keep.Goals as goal

pub returns : goal.returns
returns c = move_laws
