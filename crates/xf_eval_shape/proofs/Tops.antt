-- The top of a node's tree in the shape.
use Rattle.std.proofs.Common.{◌≡◌, ℕ, true, false, List, sym, ap, ◌∙◌}
use Rattle.xf_def_forest.specs.Forest.{Forest, has_number}
use Rattle.xf_def_forest.specs.Visit.{visits, above_in, last_of, top_of}
use Rattle.xf_def_forest.specs.declared.content.Node.{Node}
use Rattle.xf_def_xpath.proofs.VisitFacts.{absent}
use Rattle.xf_eval.proofs.Erased.{top-erased}
use Rattle.xf_eval_shape.specs.Spots.{shaped, stands}
use Rattle.xf_eval_shape.proofs.Shapes.{Sound, live-found, stands-found}

pub top-whole : (forest : Forest) → Sound forest → (n : ℕ) → has_number n forest.nodes ≡ true → stands forest.nodes n ≡ true → top_of n (visits forest.nodes) ≡ top_of n (shaped forest.nodes)
top-whole forest sound n live s =
    let x = live-found forest sound n live in
    sym (top-erased n (visits forest.nodes))
    ∙ ap (λ m. last_of n (above_in m)) x.1
    ∙ sym (ap (λ m. last_of n (above_in m)) (stands-found forest sound n x.0 x.1 s))

pub top-outside : (nodes : List Node) (n : ℕ) → stands nodes n ≡ false → n ≡ top_of n (shaped nodes)
top-outside nodes n h = sym (ap (λ m. last_of n (above_in m)) (absent n (shaped nodes) h))
