use Rattle.std.proofs.Common.{Some, map, sym, ap, ◌∙◌}
use Rattle.xf_def_ui.specs.Interface.{interface_of}
use Rattle.xf_actions.specs.Seen.{told_of}
use Rattle.xf_eval_context.specs.Indexes.{seen_index}
use Rattle.xf_engine_world.proofs.AroundLaws.{over-same, surrounding}
use Rattle.xf_engine_world.proofs.surrounding.over_event.Goals as goal

pub returns : goal.returns
returns c =
    let w = c.args.world.now in
    let l = c.loaded-loaded.result.now in
    let forest = c.forest.result.now.forest in
    let indexes = map seen_index c.indexes.result.now in
    let event = Some (told_of c.args.fired.now.properties) in
    record {
      around =
          over-same w.work.now w.notes w.calls indexes l.form l.prefixes forest event c.indexes.ensures c.loaded-loaded.ensures.form c.loaded-loaded.ensures.prefixes c.forest.ensures
          ∙ ap (λ ps. surrounding indexes l.form l.prefixes forest (Some (told_of ps))) (sym c.as_slice.ensures);
      interface = ap interface_of (sym c.loaded-loaded.ensures.form);
    }
