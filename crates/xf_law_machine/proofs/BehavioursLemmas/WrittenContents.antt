-- What a recalculation leaves of the nodes is what stands where all settled contents were written, in whatever order.
use Rattle.std.proofs.Common.{◌≡◌, ℕ, suc, List, [], ◌∷◌, refl}
use Rattle.xf_def_forest.specs.declared.content.Node.{Node}
use Rattle.xf_def_forest.specs.Settle.{with_settled_text}
use Rattle.xf_def_model.specs.Settled.{Contents}
use Rattle.xf_law_forests.specs.Settle.Written.{written}
use Rattle.xf_law_forests.proofs.SettleLemmas.MeasureLaws.{all_done}
use Rattle.xf_def_machine.specs.Behave.{with_contents}

pub all-written : (number : ℕ) (contents : Contents) (nodes : List Node) → written all_done number contents nodes ≡ with_contents number contents nodes
all-written number [] nodes = refl
all-written number ((n, text) ∷ rest) nodes = all-written (suc number) rest (with_settled_text number n text nodes)
