use Rattle.std.proofs.Common.{◌++◌, refl, ap, ◌∙◌, append_assoc}
use Rattle.std.specs.Prelude.{string_bytes}
use Rattle.xf_def_forest.proofs.TextLaws.{in_forest}
use Rattle.xf_tree_contents.specs.Seen.{seen_content}
use Rattle.xf_tree_paths.specs.Family.{index_text, step_with}
use Rattle.xf_tree_paths.proofs.StemLemmas.{path-pushed, stem-pushed}
use Rattle.xf_tree_paths.proofs.opened.push_known.Goals as goal

pub returns-in_ok-push_str-in-Element-clause-stem : goal.returns-in_ok-push_str-in-Element-clause-stem
returns-in_ok-push_str-in-Element-clause-stem c =
    let forest = c.args.forest.now.forest in
    stem-pushed forest c.args.node.number c.args.parent.now.number (seen_content c.args.content) c.as_str.result.now (string_bytes c.in_ok-stem-in-Element.stem) c.args.index
    (in_forest c.are_trees.ensures) c.requires.parent c.requires.content (c.as_str.ensures.value ∙ c.requires.one.stem) c.in_ok-stem-in-Element.ensures c.requires.index

pub returns-in_ok-push_str-in-Element-clause-text : goal.returns-in_ok-push_str-in-Element-clause-text
returns-in_ok-push_str-in-Element-clause-text c =
    let forest = c.args.forest.now.forest in
    let sound = in_forest c.are_trees.ensures in
    let content = seen_content c.args.content in
    let n = c.args.node.number in
    let p = c.args.parent.now.number in
    let bytes = string_bytes c.in_ok-stem-in-Element.stem in
    let stem = stem-pushed forest n p content c.as_str.result.now bytes c.args.index sound c.requires.parent c.requires.content (c.as_str.ensures.value ∙ c.requires.one.stem) c.in_ok-stem-in-Element.ensures c.requires.index in
    c.in_ok-push_str-in-Element.ensures.bytes
    ∙ ap (λ l. string_bytes c.args.text.now ++ l) (c.as_str-in-Element.ensures.value
    ∙ path-pushed forest n p content c.as_str.result.now bytes c.args.index sound c.requires.parent c.requires.content c.in_ok-stem-in-Element.ensures stem)

pub returns-in_ok-push_step-in_default : goal.returns-in_ok-push_step-in_default
returns-in_ok-push_step-in_default c =
    let forest = c.args.forest.now.forest in
    let sound = in_forest c.are_trees.ensures in
    let content = seen_content c.args.content in
    let n = c.args.node.number in
    let p = c.args.parent.now.number in
    let had = string_bytes c.args.text.now in
    let above = c.as_str-in_default.result.now in
    let step = step_with content (index_text c.args.index) in
    let stem = stem-pushed forest n p content above (above ++ step) c.args.index sound c.requires.parent c.requires.content (c.as_str-in_default.ensures.value ∙ c.requires.one.stem) refl c.requires.index in
    record {
      text = c.in_ok-push_step-in_default.ensures
          ∙ ap (λ l. l ++ step) c.in_ok-push_str-in_default.ensures.bytes
          ∙ append_assoc had above step
          ∙ ap (λ l. had ++ l) (path-pushed forest n p content above (above ++ step) c.args.index sound c.requires.parent c.requires.content refl stem);
      stem = tt;
    }
