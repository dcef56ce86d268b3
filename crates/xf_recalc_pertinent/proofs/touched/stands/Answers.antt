use Rattle.xf_def_forest.specs.Forest.{has_number}
use Rattle.xf_recalc_pertinent.proofs.Ups.{dead-absent, not-live}
use Rattle.xf_recalc_pertinent.proofs.touched.stands.Goals as goal

pub returns-then-not-is_live-clause-stands : goal.returns-then-not-is_live-clause-stands
returns-then-not-is_live-clause-stands c =
    dead-absent c.args.forest.now.forest c.is_sound.ensures c.args.node.number c.fits.ensures
    (not-live (has_number c.args.node.number c.args.forest.now.forest.nodes) c.is_live.result c.is_live.ensures.1 c.if-not-is_live.true)
