use Rattle.std.proofs.Common.{◌≡◌, true, false, sym, ◌∙◌, subst, refl}
use Rattle.std.proofs.lemmas.Bool.{false≢true}
use Rattle.xf_def_forest.specs.Forest.{has_number}
use Rattle.xf_def_forest.specs.Texts.{Keeping}
use Rattle.xf_tree_walks.proofs.PlaceLemmas.{stands-live}
use Rattle.xf_tree.proofs.forest.Forest.is_live.Goals as goal

pub returns-in-Some : goal.returns-in-Some
returns-in-Some c =
    let n = c.args.node.number in
    let here = c.in-Some.ensures in
    (λ e. subst (λ (k : Keeping). has_number n k.forest.nodes ≡ true) c.self.view_is (stands-live c.self.inside.slots n c.in-Some.field-0 c.self.inside.rows.items here), λ live. refl)

pub returns-in-None : goal.returns-in-None
returns-in-None c =
    let n = c.args.node.number in
    let absent = c.in-None.ensures in
    let none = subst (λ (k : Keeping). has_number n k.forest.nodes ≡ false) c.self.view_is absent in
    (λ e. absurd (false≢true e), λ live. sym none ∙ live)
