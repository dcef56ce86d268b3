use Rattle.std.proofs.Common.{◌≡◌, ℕ, List, map, take}
use Rattle.xf_form_refusals.specs.Rows.{shown}
use Rattle.xf_form.specs.Numbers.{place_from}
use Rattle.xf_form.specs.Plan.{found}
use Rattle.xf_form.proofs.targets.targets_of.Given as goal

abbrev pub invariant-loop-place : goal.invariant-loop-place
invariant-loop-place l = (id : List ℕ) → found l.targets id ≡ place_from 0 (map shown (take l.place l.rows)) id
