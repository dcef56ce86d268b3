-- What the faults of a rebuild tell is what the machine refuses.
use Rattle.std.proofs.Common.{◌≡◌, ℕ, ◌+◌, ◌<◌, List, [], ◌∷◌, ◌++◌, map, drop, length, get_or, refl, sym, ap, ◌∙◌, subst, append_assoc, append-nil, arith}
use Rattle.std.proofs.lemmas.List.{drop_more}
use Rattle.xf_def_syntax.specs.declared.form.Instance.{Instance}
use Rattle.xf_def_forest.specs.declared.node.NodeId.{NodeId}
use Rattle.xf_def_forest.specs.Forest.{Forest}
use Rattle.xf_def_machine.specs.declared.limit.LimitWord.TheVariants as word
use Rattle.xf_def_machine.specs.State.{State}
use Rattle.xf_def_machine.specs.Properties.{path_in}
use Rattle.xf_def_machine.specs.Refusal as machine
use Rattle.xf_def_model.specs.Applied.{twice, on_parent}
use Rattle.xf_binds_rebuild.specs.Rebuilt.{exception, edges, circular}
use Rattle.xf_def_machine.specs.declared.refusal.Refusal.TheVariants as refusal
use Rattle.xf_tree_paths.specs.Holding.{IsPath}
use Rattle.xf_engine_state.specs.declared.fault.WorkFault.TheVariants.{Refused}
use Rattle.xf_engine_state.specs.Told.{ArePaths, IsOver, IsSaid, numbers}

module _ (instances : List Instance) (forest : Forest) where
  pub said-twice : (n : ℕ) (path : List ℕ) → IsPath instances forest n path → IsSaid instances forest (Refused (refusal.PropertyTwice path)) (exception (twice n))
  said-twice n path h s o = ap machine.twice (sym (h s o.tables o.nodes))

  pub said-parent : (n : ℕ) (path : List ℕ) → IsPath instances forest n path → IsSaid instances forest (Refused (refusal.CalculateOnParent path)) (exception (on_parent n))
  said-parent n path h s o = ap machine.on_parent (sym (h s o.tables o.nodes))

  pub said-edges : IsSaid instances forest (Refused (refusal.Limit word.Edges)) edges
  said-edges s o = (word.Edges ∷ [], refl, (0, omega arith, refl))

  pub said-circular : (ns : List ℕ) (paths : List (List ℕ)) → ArePaths instances forest ns paths → IsSaid instances forest (Refused (refusal.Circular paths)) (circular ns)
  said-circular ns paths h s o = ap machine.circular (sym (h s o))

  -- one path after the other
  abbrev pub AreSoFar : List (List ℕ) → List NodeId → List NodeId → Type 0
  AreSoFar paths left nodes = (s : State) → IsOver s instances forest → paths ++ map (path_in s) (numbers left) ≡ map (path_in s) (numbers nodes)

  pub paths-more : (paths : List (List ℕ)) (path : List ℕ) (n : NodeId) (left nodes : List NodeId) → IsPath instances forest n.number path → AreSoFar paths (n ∷ left) nodes → AreSoFar (paths ++ path ∷ []) left nodes
  paths-more paths path n left nodes p h s o =
      append_assoc paths (path ∷ []) (map (path_in s) (numbers left)) ∙ ap (λ q. paths ++ q ∷ map (path_in s) (numbers left)) (p s o.tables o.nodes) ∙ h s o

  pub paths-all : (paths : List (List ℕ)) (nodes : List NodeId) → AreSoFar paths [] nodes → ArePaths instances forest (numbers nodes) paths
  paths-all paths nodes h s o = sym (append-nil paths) ∙ h s o

  pub path-turn : (paths next : List (List ℕ)) (path : List ℕ) (nodes : List NodeId) (i : ℕ) (d : NodeId) → i < length nodes → next ≡ paths ++ path ∷ [] → IsPath instances forest (get_or nodes i d).number path
      → AreSoFar paths (drop i nodes) nodes → AreSoFar next (drop (i + 1) nodes) nodes
  path-turn paths next path nodes i d l more p h =
      subst (λ ps. AreSoFar ps (drop (i + 1) nodes) nodes) (sym more)
      (paths-more paths path (get_or nodes i d) (drop (i + 1) nodes) nodes p (subst (λ ns. AreSoFar paths ns nodes) (drop_more nodes i d l) h))
