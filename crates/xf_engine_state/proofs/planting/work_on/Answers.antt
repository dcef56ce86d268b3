use Rattle.std.proofs.Common.{[], length, refl, sym, ap, ◌∙◌, subst}
use Rattle.xf_binds.specs.Table.{all_rolled_back}
use Rattle.xf_controls.specs.Former.{Standing}
use Rattle.xf_engine_state.specs.Parts.{chosen_of, standing_of}
use Rattle.xf_engine_state.specs.Planting.{IsBegun, planted_by}
use Rattle.xf_engine_state.proofs.BegunLaws.{begun-alone, begun-before, begun-is, begun-now, begun-sound, first_tally, shape-planted}
use Rattle.xf_engine_state.proofs.Models.{chosen-same}
use Rattle.xf_engine_state.proofs.planting.work_on.Goals as goal

pub invariant_of-result : goal.invariant_of-result
invariant_of-result c =
    let g = c.args.begun in
    let given = c.requires.begun in
    let shaped = shape-planted c.args.loaded g.forest.forest g.made given.grown in
    record {
      sound = begun-sound c.args.loaded g.forest.forest g.made (length c.args.loaded.form.models) c.new.result g.table g.flags.items g.old_flags.items [] given.alone c.new.ensures given.table given.flags given.old_flags
          c.requires.loaded given.hung (given.held.few g.forest.forest.nodes shaped) given.few;
      now = begun-now c.args.loaded g.forest.forest g.made (length c.args.loaded.form.models) c.new.result g.table g.flags.items g.old_flags.items [] given.alone c.new.ensures given.table given.flags given.old_flags shaped _ _;
      before = begun-before c.args.loaded g.forest.forest g.made (length c.args.loaded.form.models) c.new.result g.table g.flags.items g.old_flags.items [] given.alone c.new.ensures given.table given.flags given.old_flags shaped _ _;
      alone = begun-alone c.args.loaded g.forest.forest g.made (length c.args.loaded.form.models) c.new.result g.table g.flags.items g.old_flags.items [] given.alone c.new.ensures given.table given.flags given.old_flags;
      indexes = ap length (c.new-4.ensures.items ∙ sym c.new-3.ensures.items);
      cases = ap length (c.new-6.ensures.items ∙ sym c.new-5.ensures.items);
      plain = given.plain;
      held = given.held;
      bound = given.bound;
      first = tt;
    }

pub returns : goal.returns
returns c =
    let g = c.args.begun in
    let given = c.requires.begun in
    let made = first_tally g.made in
    let none = chosen_of [] [] in
    subst (λ x. IsBegun (record {
      kept = record { standing = standing_of x c.args.loaded c.new.result.kept (all_rolled_back g.table) g.old_flags.items c.new-2.result.kept made; built = 0 };
      now = standing_of (chosen_of c.new-3.result.items c.new-5.result.items) c.args.loaded c.new.result.now g.table g.flags.items c.new-2.result.now made;
      built = 0;
    }) (planted_by c.args.loaded)) (sym (chosen-same _ _ _ _ c.new-4.ensures.items c.new-6.ensures.items))
    (subst (λ x. IsBegun (record {
      kept = record { standing = standing_of none c.args.loaded c.new.result.kept (all_rolled_back g.table) g.old_flags.items c.new-2.result.kept made; built = 0 };
      now = standing_of x c.args.loaded c.new.result.now g.table g.flags.items c.new-2.result.now made;
      built = 0;
    }) (planted_by c.args.loaded)) (sym (chosen-same _ _ _ _ c.new-3.ensures.items c.new-5.ensures.items))
    (subst (λ (s : Standing). IsBegun (record {
      kept = record { standing = standing_of none c.args.loaded c.new.result.kept (all_rolled_back g.table) g.old_flags.items s.kept made; built = 0 };
      now = standing_of none c.args.loaded c.new.result.now g.table g.flags.items s.now made;
      built = 0;
    }) (planted_by c.args.loaded)) (sym c.new-2.ensures)
    (begun-is c.args.loaded g.forest.forest g.made (length c.args.loaded.form.models) c.new.result g.table g.flags.items g.old_flags.items [] given.alone c.new.ensures given.table given.flags given.old_flags refl refl given.grown)))
