-- A form that is loaded is numbered in document order.
use Rattle.std.proofs.Common.{◌≡◌, ℕ, true, List, [], bytes_eq, refl, sym, subst}
use Rattle.std.proofs.lemmas.Bool.{and_from}
use Rattle.std.proofs.lemmas.Slice.Eq.{bytes_eq-Decides}
use Rattle.xf_def_syntax.specs.Ordered.{IsOrdered, numbered, are_listed, are_counted, model_in, instance_in, bind_in, submission_in, repeat_in, switch_in, place_in}
use Rattle.xf_def_syntax.specs.declared.element.Kind.{Kind}
use Rattle.xf_name.specs.Bindings.{Bindings}
use Rattle.xf_form_refusals.specs.declared.classes.Class.{Class}
use Rattle.xf_form_refusals.specs.declared.classes.Class.TheVariants as class
use Rattle.xf_form_refusals.specs.Decimals.{decimals_of}
use Rattle.xf_form_refusals.specs.Rows.{Seen}
use Rattle.xf_form_refusals.specs.Walk.{rows_of}
use Rattle.xf_form.specs.Ordered.{LoadedOrdered}
use Rattle.xf_form.specs.Tables.{form_with, listed}
use Rattle.xf_form.proofs.FormTrees.{FormTells, form_tells}
use Rattle.xf_form.proofs.KindNumbers.{IsCounted, models_counted, instances_counted, binds_counted, submissions_counted, repeats_counted, switches_counted, controls_counted, listed_from, counted_from}
use Rattle.xf_form.proofs.LoadedLemmas.{came_by}
use Rattle.xf_form.proofs.OrderedElements.{form_later, form_children, form_order}

kind_listed : (d : ℕ) (b : Bindings) (all : List Seen) (c : Class) (number_in : Kind → List ℕ) → IsCounted d b all c number_in 0 → are_listed (listed c all) number_in (numbered (form_with d b all)) ≡ true
kind_listed d b all c number_in counted =
    and_from (bytes_eq (listed c all) _) (are_counted 0 number_in (numbered (form_with d b all))) ((bytes_eq-Decides (listed c all) _).1 (listed_from d b all c number_in 0 counted [] all refl))
    (counted_from d b all c number_in 0 counted [] all refl)

form_ordered : (d : ℕ) (b : Bindings) (all : List Seen) → FormTells all → IsOrdered (form_with d b all)
form_ordered d b all tells = record {
  later = form_later d b all tells;
  children = form_children d b all tells;
  order = form_order d b all tells;
  models = kind_listed d b all class.Model model_in (models_counted d b all);
  instances = kind_listed d b all class.Instance instance_in (instances_counted d b all);
  binds = kind_listed d b all class.Bind bind_in (binds_counted d b all);
  submissions = kind_listed d b all class.Submission submission_in (submissions_counted d b all);
  repeats = kind_listed d b all class.Repeat repeat_in (repeats_counted d b all);
  switches = kind_listed d b all class.Switch switch_in (switches_counted d b all);
  controls = counted_from d b all class.Control place_in 1 (controls_counted d b all) [] all refl;
}

pub loaded_ordered : LoadedOrdered
loaded_ordered bytes loaded is =
    let came = came_by bytes loaded is in
    let all = rows_of loaded.prefixes loaded.lit in
    subst IsOrdered (sym came.form) (form_ordered (decimals_of loaded.prefixes all) loaded.prefixes all (form_tells loaded.prefixes loaded.lit))
