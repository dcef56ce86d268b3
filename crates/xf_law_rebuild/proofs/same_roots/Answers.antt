use Rattle.xf_law_rebuild.proofs.Places.{alone_dropped, roots_attached, roots_copied, roots_detached, roots_dropped, roots_planted}
use Rattle.xf_law_rebuild.proofs.same_roots.Goals as goal

pub returns-clause-planted : goal.returns-clause-planted
returns-clause-planted c = roots_planted

pub returns-clause-copied : goal.returns-clause-copied
returns-clause-copied c = roots_copied

pub returns-clause-detached : goal.returns-clause-detached
returns-clause-detached c = roots_detached

pub returns-clause-attached : goal.returns-clause-attached
returns-clause-attached c = roots_attached

pub returns-clause-dropped : goal.returns-clause-dropped
returns-clause-dropped c = roots_dropped

pub returns-clause-alone : goal.returns-clause-alone
returns-clause-alone c = alone_dropped
