use Rattle.xf_law_invariants.proofs.FrameLemmas.Frame.{frame_laws}
use Rattle.xf_law_invariants.proofs.frame.events_keep.Goals as goal

pub returns : goal.returns
returns c = frame_laws
