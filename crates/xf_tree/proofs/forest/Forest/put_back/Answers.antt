use Rattle.std.proofs.Common.{sym, ap, ◌∙◌, Vec, Global}
use Rattle.xf_def_forest.specs.declared.node.NodeId.{NodeId}
use Rattle.xf_def_forest.specs.Texts.{Before, element_texts, put_back}
use Rattle.xf_tree_changes.specs.Texts.{numbers_in}
use Rattle.xf_tree.specs.declared.before.Had.{Had}
use Rattle.xf_tree.specs.Calls.{known_of}
use Rattle.xf_tree.proofs.forest.Forest.put_back.Goals as goal

pub returns-in-Texts : goal.returns-in-Texts
returns-in-Texts c =
    let n = c.args.node.number in
    let k = c.args.self.now in
    c.put_texts.ensures ∙ ap (λ (v : Vec NodeId Global). put_back n (element_texts (numbers_in v.items)) k) c.in-Texts.texts-is
    ∙ ap (λ (h : Had). put_back n (known_of h) k) (sym c.in-Texts.is) ∙ ap (λ (b : Before). put_back n b k) c.before-2.view_is
