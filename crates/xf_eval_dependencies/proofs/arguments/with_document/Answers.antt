use Rattle.std.proofs.Common.{◌++◌, refl, ap, ◌∙◌}
use Rattle.std.specs.Prelude.{option_map}
use Rattle.std.specs.List.{flat_map}
use Rattle.xf_def_forest.specs.declared.node.NodeId.{NodeId}
use Rattle.xf_def_xpath.specs.Asked.{list_around}
use Rattle.xf_def_xpath.specs.Binding.{as_list}
use Rattle.xf_eval_shape.specs.Spots.{shaped}
use Rattle.xf_eval_dependencies.proofs.Around.{listed-with}
use Rattle.xf_eval_dependencies.proofs.arguments.with_document.Goals as goal

pub returns-clause-tells : goal.returns-clause-tells
returns-clause-tells c = λ s all a told.
    let f = c.args.forest.now.forest in
    let ns = as_list (option_map (λ (n : NodeId). n.number) c.args.element) in record {
      set = c.in_ok-alone.ensures.value;
      is_loose = refl;
      is_truth = refl;
      reads = told.reads;
      looks = c.in_ok-push_lists.ensures ∙ ap (λ l. l ++ flat_map (list_around (shaped f.nodes)) ns) told.looks ∙ listed-with f c.is_sound.ensures a.looks ns s.all all;
    }
