-- What the steps of a construction leave as it was: how many models there are.
use Rattle.std.proofs.Common.{ℕ, ◌≡◌, length, Ok}
use Rattle.xf_def_machine.specs.Profile.{Profile}
use Rattle.xf_def_machine.specs.State.{State}
use Rattle.xf_def_machine.specs.Construct.{build_model}
use Rattle.xf_law_machine.proofs.BehavioursLemmas.QuietKeeps.{build-keeps}

pub build-count : (p : Profile) (model : ℕ) (s t : State) → build_model p model s ≡ Ok t → length t.models ≡ length s.models
build-count p model s t e = let h = build-keeps p model s t e in h.count
