use Rattle.std.proofs.Common.{sym, ap, ◌∙◌, Vec, Global}
use Rattle.xf_def_forest.specs.declared.node.NodeId.{NodeId}
use Rattle.xf_def_forest.specs.Texts.{Before, element_texts, given_up}
use Rattle.xf_tree_changes.specs.Texts.{numbers_in}
use Rattle.xf_tree.specs.declared.before.Had.{Had}
use Rattle.xf_tree.specs.Calls.{known_of}
use Rattle.xf_tree.proofs.forest.Forest.give_up.Goals as goal

pub returns : goal.returns
returns c =
    let k = c.args.self.now in
    c.drop_kept.ensures ∙ ap (λ (v : Vec NodeId Global). given_up (element_texts (numbers_in v.items)) k) c.in-Texts.texts-is
    ∙ ap (λ (h : Had). given_up (known_of h) k) (sym c.in-Texts.is) ∙ ap (λ (b : Before). given_up b k) c.before-2.view_is
