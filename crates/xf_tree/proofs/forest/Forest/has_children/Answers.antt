use Rattle.std.proofs.Common.{◌≡◌, ℕ, List, [], map, length, nat_le, nat_eq, refl, sym, ap, ◌∙◌, arith}
use Rattle.std.proofs.lemmas.Bool.Decides.{nat_tests}
use Rattle.xf_def_forest.specs.Texts.{Keeping}
use Rattle.xf_def_forest.specs.Visit.{visits, children_of}
use Rattle.xf_tree_walks.specs.Kids.{is_no_attribute}
use Rattle.xf_tree_walks.specs.Nodes.{node_of}
use Rattle.xf_tree_walks.proofs.KidLemmas.{kids-none}
use Rattle.xf_tree.proofs.ChildLemmas.{kids-mean}
use Rattle.xf_tree.proofs.forest.Forest.has_children.Goals as goal

pub returns-in-Some : goal.returns-in-Some
returns-in-Some c =
    let n = c.args.node.number in
    let s = c.self.inside.slots in
    let rows = c.self.inside.rows.items in
    let at = c.in-Some.at in
    let here = c.in-Some.ensures in
    let means = kids-mean is_no_attribute s n at rows c.self.inside.kept.items c.self.inside.next c.self.invariant.sound here in
    c.has_children.ensures ∙ ap (nat_le c.args.least) (sym means)
    ∙ ap (λ (k : Keeping). nat_le c.args.least (length (children_of n (visits k.forest.nodes)))) c.self.view_is

none-least : (n : ℕ) → nat_eq n 0 ≡ nat_le n 0
none-least n = grind (arith, nat_tests)

pub returns-in-None : goal.returns-in-None
returns-in-None c =
    let n = c.args.node.number in
    let s = c.self.inside.slots in
    let rows = c.self.inside.rows.items in
    let absent = c.in-None.ensures in
    none-least c.args.least ∙ ap (λ (l : List ℕ). nat_le c.args.least (length l)) (sym (kids-none is_no_attribute n [] (map (node_of s) rows) refl absent))
    ∙ ap (λ (k : Keeping). nat_le c.args.least (length (children_of n (visits k.forest.nodes)))) c.self.view_is
