use Rattle.std.proofs.Common.{◌≡◌, ℕ, List, map, take}
use Rattle.xf_form_refusals.specs.Classes.{count_called}
use Rattle.xf_form_refusals.specs.Rows.{shown}
use Rattle.xf_form_refusals.specs.Tally.{counted}
use Rattle.xf_form_refusals.proofs.ids.tally_of.Given as goal

abbrev pub invariant-loop-row : goal.invariant-loop-row
invariant-loop-row l = (id : List ℕ) → counted l.tally id ≡ count_called l.class (map shown (take l.row-index l.rows)) id
