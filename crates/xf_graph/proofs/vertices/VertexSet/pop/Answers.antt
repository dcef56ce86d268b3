use Rattle.std.proofs.Common.{◌≡◌, ℕ, Option, Some, None, false, sym, ◌∙◌}
use Rattle.std.specs.Prelude.{IfSome}
use Rattle.std.specs.Ordering.{nat_cmp}
use Rattle.std.specs.BTreeSet.{BTreeSet, Updates}
use Rattle.xf_graph.specs.Edges.{has}
use Rattle.xf_graph.proofs.HasLemmas.{contains-has}
use Rattle.xf_graph.proofs.vertices.VertexSet.pop.Goals as goal

left_out : (s t : BTreeSet ℕ) (r : Option ℕ) → IfSome r (λ k. Updates nat_cmp s t k false) → IfSome r (λ k. has t.keys k ≡ false)
left_out s t None h = h
left_out s t (Some k) h = sym (contains-has t.keys k) ∙ h.1

pub returns-clause-once : goal.returns-clause-once
returns-clause-once c = left_out _ _ _ c.pop_first.ensures.updates
