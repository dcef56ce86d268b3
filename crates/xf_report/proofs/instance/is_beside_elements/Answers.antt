use Rattle.std.proofs.Common.{sym, subst}
use Rattle.xf_def_forest.specs.Forest.{IsLive}
use Rattle.xf_def_forest.specs.Texts.{Keeping}
use Rattle.xf_def_forest.proofs.LiveLaws.{parent-live}
use Rattle.xf_report.proofs.instance.is_beside_elements.Goals as goal

pub has_elements-requires : goal.has_elements-requires
has_elements-requires c =
    let P : Keeping → Type 0 = λ k. IsLive c.in-Some.parent.number k.forest in
    record { live = subst P (sym c.requires.forest) (parent-live c.args.node.number c.in-Some.parent.number c.args.forest.now.forest.nodes (sym c.in-Some.ensures)) }
