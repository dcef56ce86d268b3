-- The first of some nodes.
use Rattle.std.proofs.Common.{◌≡◌, ℕ, List, [], ◌∷◌, Option, Some, None, option_map, refl, sym, ap, slice_get}
use Rattle.std.specs.Prelude.{MatchOption}
use Rattle.xf_def_forest.specs.declared.content.Node.{Node}
use Rattle.xf_def_forest.specs.declared.node.NodeId.{NodeId}
use Rattle.xf_def_forest.specs.Visit.{first_of}
use Rattle.xf_def_xpath.specs.Binding.{as_list}
use Rattle.xf_eval.specs.Live.{AllLive}
use Rattle.xf_eval.proofs.Lives.{live-get, live-one}

pub first-yielded : (s t : List ℕ) (r : Option NodeId) → MatchOption r ((s ≡ []) × (t ≡ [])) (λ x. s ≡ x.number ∷ t) → option_map (λ (n : NodeId). n.number) r ≡ first_of s
first-yielded s t None h = sym (ap first_of h.0)
first-yielded s t (Some x) h = sym (ap first_of h)

pub first-listed : (m : Option ℕ) → first_of (as_list m) ≡ m
first-listed None = refl
first-listed (Some n) = refl

-- the node at the front of a list
pub first-got : (ns : List ℕ) → slice_get ns 0 ≡ first_of ns
first-got [] = refl
first-got (n ∷ ns) = refl

pub live-first : (ns : List ℕ) (nodes : List Node) → AllLive ns nodes → AllLive (as_list (first_of ns)) nodes
live-first [] nodes live = refl
live-first (n ∷ ns) nodes live = live-one n nodes (live-get (n ∷ ns) 0 n nodes live refl)
