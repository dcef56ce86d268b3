use Rattle.std.proofs.Common.{None, map, refl, sym, ap}
use Rattle.xf_def_ui.specs.Interface.{interface_of}
use Rattle.xf_eval_context.specs.Indexes.{seen_index}
use Rattle.xf_def_model.specs.Rules.{rule_of}
use Rattle.xf_def_ui.specs.Around.{Around}
use Rattle.xf_def_syntax.specs.declared.form.Form.{Form}
use Rattle.xf_engine_world.proofs.AroundLaws.{over-same}
use Rattle.xf_engine_world.proofs.surrounding.over_quiet.Goals as goal

pub returns-clause-around : goal.returns-clause-around
returns-clause-around c =
    let w = c.args.world.now in
    let l = c.loaded-loaded.result.now in
    record {
      around =
          over-same w.work.now w.notes w.calls (map seen_index c.indexes.result.now) l.form l.prefixes c.forest.result.now.forest None c.indexes.ensures
          c.loaded-loaded.ensures.form c.loaded-loaded.ensures.prefixes c.forest.ensures;
      interface = ap interface_of (sym c.loaded-loaded.ensures.form);
    }

pub returns-clause-shows : goal.returns-clause-shows
returns-clause-shows c =
    let w = c.args.world.now in
    let l = c.loaded-loaded.result.now in
    record {
      functions = refl;
      long = refl;
      given =
          ap (λ (a : Around). a.given)
          (over-same w.work.now w.notes w.calls (map seen_index c.indexes.result.now) l.form l.prefixes c.forest.result.now.forest None c.indexes.ensures
          c.loaded-loaded.ensures.form c.loaded-loaded.ensures.prefixes c.forest.ensures);
      rules = ap (λ (f : Form). map rule_of f.tables.binds) (sym c.loaded-loaded.ensures.form);
      bindings = sym c.loaded-loaded.ensures.prefixes;
      forest = sym c.forest.ensures;
    }
