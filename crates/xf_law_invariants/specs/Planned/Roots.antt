-- Roots with at most one child, and the children of roots, told of trees.
use Rattle.std.specs.Prelude.{◌≡◌, ℕ, Bool, true, false, not, ◌&&◌, ◌||◌, List, []}
use Rattle.xf_def_forest.specs.declared.content.Node.{Node}
use Rattle.xf_def_forest.specs.Forest.{is_root}
use Rattle.xf_law_forests.proofs.RollbackLemmas.Trees.{Trees, none, tree, onto}
use Rattle.xf_law_forests.proofs.RollbackLemmas.TreeTops.{tops}

-- at most one
abbrev pub is_few : Trees → Bool
is_few none = true
is_few (tree n c k none) = true
is_few (tree n c k (tree m b j r)) = false

-- no root has more than one node directly below it
abbrev pub is_single : Trees → Bool
is_single none = true
is_single (tree n c k r) = (not (is_root c) || is_few k) && is_single r

-- the node stands directly below a root
abbrev pub is_under_root : ℕ → Trees → Bool
is_under_root n none = false
is_under_root n (tree m c k r) = (is_root c && tops n k) || is_under_root n r

-- of lists of nodes
abbrev pub AreSingle : List Node → Type 0
AreSingle nodes = (t : Trees) → nodes ≡ onto 0 t [] → is_single t ≡ true

abbrev pub IsNoDocument : ℕ → List Node → Type 0
IsNoDocument n nodes = (t : Trees) → nodes ≡ onto 0 t [] → is_under_root n t ≡ false
