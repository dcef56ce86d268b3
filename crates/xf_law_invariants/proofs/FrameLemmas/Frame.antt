-- What each change keeps, an event keeps.
use Rattle.std.proofs.Common.{◌≡◌, true}
use Rattle.xf_def_machine.specs.Start.{tell_models}
use Rattle.xf_def_machine.specs.Step.{changed_by}
use Rattle.xf_law_machine.proofs.RestLemmas.Holds.{held-is}
use Rattle.xf_law_invariants.specs.Frame.Each.{EventsKeep, StartsKeep, FrameLaws}
use Rattle.xf_law_invariants.proofs.FrameLemmas.EachEvents.{changed-keeps, models-keep}

events-keep : EventsKeep
events-keep p answers form first test k event s t are h e =
    held-is (λ u. test u ≡ true) (changed_by p answers event s) t (changed-keeps p answers form first (λ u. test u ≡ true) k event s are h) e

starts-keep : StartsKeep
starts-keep p answers form first test k name s t h e =
    held-is (λ u. test u ≡ true) (tell_models p answers name s) t (models-keep p answers form first (λ u. test u ≡ true) k name s h) e

pub frame_laws : FrameLaws
frame_laws = record { changed = events-keep; told = starts-keep }
