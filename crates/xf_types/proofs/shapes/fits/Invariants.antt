use Rattle.std.proofs.Common.{◌≡◌, length}
use Rattle.xf_types.specs.Shapes.{fits}
use Rattle.xf_types.proofs.shapes.fits.Given as goal

abbrev pub invariant-loop-places : goal.invariant-loop-places
invariant-loop-places l = fits l.places l.rest ≡ fits l.shape l.text

abbrev pub decreases-loop-places : goal.decreases-loop-places
decreases-loop-places l = length l.places
