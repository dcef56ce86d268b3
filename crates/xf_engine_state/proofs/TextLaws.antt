-- The parts that are written are those of the state.
use Rattle.std.proofs.Common.{◌≡◌, List, map, length, refl, sym, ap}
use Rattle.xf_def_forest.specs.Forest.{Forest}
use Rattle.xf_def_syntax.specs.declared.form.Form.{Form}
use Rattle.xf_def_ui.specs.Interface.{interface_of}
use Rattle.xf_def_machine.specs.State.{State}
use Rattle.xf_def_machine.specs.Surround.{quiet}
use Rattle.xf_binds.specs.Kept.{Kept}
use Rattle.xf_eval_context.specs.declared.over.Over.{Over}
use Rattle.xf_eval_context.specs.Over.{around_over}
use Rattle.xf_controls.specs.declared.copy.ControlCopy.{ControlCopy}
use Rattle.xf_controls.specs.Seen.{seen_copy}
use Rattle.xf_valid.specs.Nodes as table_marks
use Rattle.xf_report_state.specs.Parts.{IsState}
use Rattle.xf_form.specs.declared.loaded.Loaded.{Loaded}
use Rattle.xf_engine_state.specs.declared.flags.Flags.{Flags}
use Rattle.xf_engine_state.specs.declared.tally.Tally.{Tally}
use Rattle.xf_def_form.specs.Formed.{profile}
use Rattle.xf_engine_state.specs.Parts.{Chosen, standing_of}
use Rattle.xf_engine_state.specs.Standing.{state_of}
use Rattle.xf_engine_state.proofs.MarkLaws.{marks-at}

module _ (chosen : Chosen) (loaded : Loaded) (forest : Forest) (table : List Kept) (flags : List Flags) (controls : List ControlCopy) (tally : Tally)
    (many : length table ≡ length flags) where
  abbrev here : State
  here = state_of (standing_of chosen loaded forest table flags controls tally)

  pub is-state : (o : Over) → o.form.now ≡ loaded.form → o.forest.now.forest ≡ forest → quiet profile here ≡ around_over o
      → IsState profile here o (table_marks.marks_in table forest.nodes) (map seen_copy controls) chosen.indexes chosen.cases
  is-state o form forests around = record {
    parts = record {
      nodes = sym forests;
      tables = ap (λ (f : Form). f.tables.instances) (sym form);
      properties = marks-at chosen loaded forest table flags controls tally many;
    };
    face = ap (λ (f : Form). interface_of f) (sym form);
    around = around;
    indexes = refl;
    cases = refl;
    controls = refl;
  }
