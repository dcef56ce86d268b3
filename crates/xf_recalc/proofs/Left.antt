-- What stands after a recalculation that was refused: none, some or all of the settled texts were written.
use Rattle.std.proofs.Common.{◌≡◌, List, sym, ap, ◌∙◌}
use Rattle.xf_def_forest.specs.Forest.{Forest}
use Rattle.xf_def_model.specs.Rules.{Scope}
use Rattle.xf_def_model.specs.Applied.{Entry}
use Rattle.xf_law_forests.proofs.SettleLemmas.MeasureLaws.{all_done, nothing_done, written-none}
use Rattle.xf_law_machine.proofs.BehavioursLemmas.WrittenContents.{all-written}
use Rattle.xf_recalc.specs.Settles.{IsLeft, contents_in}
use Rattle.xf_recalc.specs.Whole.{IsWritten}

pub left-none : (scope : Scope) (entries : List Entry) (forest after : Forest) → after ≡ forest → IsLeft scope entries forest after
left-none scope entries forest after same = record {
  done = nothing_done;
  nodes = ap (λ f. f.nodes) same ∙ sym (written-none forest.next (contents_in scope entries forest) forest.nodes);
}

pub left-all : (scope : Scope) (entries : List Entry) (forest after : Forest) → IsWritten scope entries forest after → IsLeft scope entries forest after
left-all scope entries forest after w = record {
  done = all_done;
  nodes = ap (λ f. f.nodes) w.written ∙ sym (all-written forest.next (contents_in scope entries forest) forest.nodes);
}
