-- What is open last.
use Rattle.std.proofs.Common.{◌≡◌, ℕ, ◌<◌, length, List, slice_index_or, sym, subst}
use Rattle.xf_def_forest.specs.declared.content.Node.{Node}
use Rattle.xf_tree_paths.specs.declared.opened.OpenNode.{OpenNode}
use Rattle.xf_tree_paths.specs.Opened.{IsOpen, AllOpen}

-- what is lent of these is open
pub last-open : (nodes : List Node) (list : List OpenNode) (at : ℕ) (one : OpenNode) → AllOpen nodes list → at < length list → one ≡ slice_index_or list at one → IsOpen nodes one
last-open nodes list at one stands within is = subst (λ o. IsOpen nodes o) (sym is) (stands at one within)
