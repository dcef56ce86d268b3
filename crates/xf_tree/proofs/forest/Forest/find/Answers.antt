use Rattle.std.proofs.Common.{◌≡◌, true, false, subst}
use Rattle.xf_def_forest.specs.Forest.{has_number}
use Rattle.xf_def_forest.specs.Texts.{Keeping}
use Rattle.xf_tree_walks.proofs.PlaceLemmas.{stands-live}
use Rattle.xf_tree.proofs.forest.Forest.find.Goals as goal

pub returns-in-Some-clause-live : goal.returns-in-Some-clause-live
returns-in-Some-clause-live c =
    let n = c.args.number in
    let here = c.in-Some.ensures in
    subst (λ (k : Keeping). has_number n k.forest.nodes ≡ true) c.self.view_is (stands-live c.self.inside.slots n c.in-Some.at c.self.inside.rows.items here)

pub returns-in-None-clause-live : goal.returns-in-None-clause-live
returns-in-None-clause-live c =
    let n = c.args.number in
    let absent = c.in-None.ensures in
    subst (λ (k : Keeping). has_number n k.forest.nodes ≡ false) c.self.view_is absent
