-- Nodes that stand in the forest, and the first of some.
use Rattle.std.proofs.Common.{◌≡◌, ℕ, List, [], ◌∷◌, Option, Some, None, option_map, refl, sym, ap, slice_get}
use Rattle.std.specs.Prelude.{MatchOption}
use Rattle.xf_def_forest.specs.declared.content.Node.{Node}
use Rattle.xf_def_forest.specs.declared.node.NodeId.{NodeId}
use Rattle.xf_def_forest.specs.Visit.{first_of, parent_of, visits}
use Rattle.xf_def_forest.proofs.LiveLaws.{parent-live}
use Rattle.xf_def_xpath.specs.Binding.{as_list}
use Rattle.xf_eval.specs.Live.{AllLive}
use Rattle.xf_eval.proofs.Lives.{live-get, live-is, live-one}
use Rattle.xf_controls.specs.Seen.{number}

pub first-yielded : (s t : List ℕ) (r : Option NodeId) → MatchOption r ((s ≡ []) × (t ≡ [])) (λ x. s ≡ x.number ∷ t) → option_map number r ≡ first_of s
first-yielded s t None h = sym (ap first_of h.0)
first-yielded s t (Some x) h = sym (ap first_of h)

pub first-listed : (m : Option ℕ) → first_of (as_list m) ≡ m
first-listed None = refl
first-listed (Some n) = refl

pub live-found : (ns : List ℕ) (at : ℕ) (nodes : List Node) → AllLive ns nodes → AllLive (as_list (slice_get ns at)) nodes
live-found ns at nodes live = by (slice_get ns at) refl
  where
    by : (m : Option ℕ) → slice_get ns at ≡ m → AllLive (as_list m) nodes
    by None e = refl
    by (Some n) e = live-one n nodes (live-get ns at n nodes live e)

pub live-first : (ns : List ℕ) (nodes : List Node) → AllLive ns nodes → AllLive (as_list (first_of ns)) nodes
live-first [] nodes live = refl
live-first (n ∷ ns) nodes live = live-one n nodes (live-get (n ∷ ns) 0 n nodes live refl)

pub live-parent : (n : ℕ) (nodes : List Node) → AllLive (as_list (parent_of n (visits nodes))) nodes
live-parent n nodes = by (parent_of n (visits nodes)) refl
  where
    by : (m : Option ℕ) → parent_of n (visits nodes) ≡ m → AllLive (as_list m) nodes
    by None e = refl
    by (Some k) e = live-one k nodes (parent-live n k nodes e)

-- what is the same is there too
pub there : (m w : Option ℕ) (nodes : List Node) → m ≡ w → AllLive (as_list w) nodes → AllLive (as_list m) nodes
there m w nodes e live = live-is nodes (ap as_list e) live
