use Rattle.std.proofs.Common.{◌≡◌, ℕ, take, nat_eq}
use Rattle.std.specs.HashMap.{get}
use Rattle.xf_form.specs.Submissions.{first_from}
use Rattle.xf_form.proofs.submissions.firsts_of.Given as goal

abbrev pub invariant-loop-number : goal.invariant-loop-number
invariant-loop-number l = (model : ℕ) → get nat_eq l.firsts model ≡ first_from 0 (take l.number l.all) model
