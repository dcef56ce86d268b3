-- What is tried before an event from outside changes anything.
use Rattle.std.proofs.Common.{codes, ℕ, ◌≡◌, ◌∙◌, List, Option, None, Ok, ap, not}
use Rattle.std.specs.Prelude.{slice_get}
use Rattle.xf_store.specs.declared.call.StoreCall.{StoreCall}
use Rattle.xf_def_syntax.specs.declared.form.Form.{Form}
use Rattle.xf_def_ui.specs.Elements.{element_at}
use Rattle.xf_def_ui.specs.Interface as ui
use Rattle.xf_def_ui.specs.Interface.{Interface, host}
use Rattle.xf_form_elements.proofs.ElementLemmas.{no-element}
use Rattle.xf_def_machine.specs.Events.{plainly}
use Rattle.xf_def_machine.specs.Flow.{◌>>=◌}
use Rattle.xf_def_machine.specs.Refusal.{Refusal, disabled}
use Rattle.xf_def_machine.specs.State.{State}
use Rattle.xf_def_machine.specs.Step.{try_set}
use Rattle.xf_def_machine.specs.Surround.{interface}
use Rattle.xf_def_machine.specs.Targets.{copy_named, unless}
use Rattle.xf_actions.specs.Performs.{Refuses}
use Rattle.xf_actions.specs.Seen.{IsProgram}
use Rattle.xf_actions.proofs.Flow.{refuses-then}
use Rattle.xf_def_form.specs.Formed.{profile}
use Rattle.xf_engine_machine.specs.Tried.{activation_tried, node_tried}

-- where no copy stands in the rows, nothing is tried
pub node-uncopied : (s : State) (n : ℕ) (rows text : List ℕ) (why : Option Refusal) (calls : List StoreCall)
    → Refuses why calls (copy_named profile s n rows) → Refuses why calls (node_tried profile n rows text s)
node-uncopied s n rows text why calls r = refuses-then why calls (copy_named profile s n rows) (λ c. try_set n c text s >>= λ t. Ok c.node) r

pub activation-uncopied : (s : State) (n : ℕ) (rows : List ℕ) (why : Option Refusal) (calls : List StoreCall)
    → Refuses why calls (copy_named profile s n rows) → Refuses why calls (activation_tried profile n rows s)
activation-uncopied s n rows why calls r =
    refuses-then why calls (copy_named profile s n rows) (λ c. unless (not c.enabled) disabled s >>= λ t. Ok (plainly (codes "DOMActivate") n c.rows)) r

-- the sort of an element that is not there
pub no-sort : (form : Form) (s : State) (n : ℕ) → IsProgram form s.form → None ≡ slice_get form.elements n → (element_at (interface s) n).sort ≡ host
no-sort form s n h is = ap (λ (f : Interface). (element_at f n).sort) h.interface ∙ ap (λ (x : ui.Element). x.sort) (no-element form n is)
