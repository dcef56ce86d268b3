-- What comes of the answer to the last call of the store: a tree that came may come in the data.
use Rattle.std.proofs.Common.{◌≡◌, ℕ, zero, suc, Bool, true, false, cond, ◌+◌, ◌-◌, List, [], ◌∷◌, length, Option, Some, None, option_map, Result, Ok, Err, refl, sym, ap, ◌∙◌, arith}
use Rattle.std.specs.Prelude.{codes, is_none, not, slice_get}
use Rattle.std.specs.Str.{is_utf8}
use Rattle.serde_json.specs.Data.{Data, null, boolean, number, string, array, object}
use Rattle.xf_name.specs.Bindings.{Bindings}
use Rattle.xf_name.specs.declared.lit.Lit.{Lit}
use Rattle.xf_name.specs.declared.lit.Lit.TheVariants.{Element}
use Rattle.xf_name.specs.declared.lit.LitElement.{LitElement}
use Rattle.xf_def_forest.specs.declared.fault.TreeFault.{TreeFault}
use Rattle.xf_def_forest.specs.Planted.{lit_fault}
use Rattle.xf_json.specs.declared.fault.JsonFault.{JsonFault}
use Rattle.xf_json.specs.Element.{element_in, lit_in, lit_or_fault, read_or_fault, value_in}
use Rattle.xf_def_syntax.specs.declared.form.Replace.{Replace}
use Rattle.xf_def_syntax.specs.declared.form.Replace.TheVariants as instead
use Rattle.xf_def_syntax.specs.declared.form.Submission.{Submission}
use Rattle.xf_store.specs.declared.answers.Answer.{Answer}
use Rattle.xf_store.specs.declared.answers.Answer.TheVariants as answer
use Rattle.xf_store.specs.declared.call.StoreCall.{StoreCall}
use Rattle.xf_submit.specs.declared.responding.Outcome.{Outcome}
use Rattle.xf_submit.specs.declared.responding.Outcome.TheVariants as outcome
use Rattle.xf_submit.specs.Responding.{as_tree, fails, responded_by, responded_with, seen_outcome, text, tree}
use Rattle.xf_submit.specs.Steps.{last_answer}
use Rattle.xf_engine_state.specs.Moving.{IsPlantable}
use Rattle.xf_engine_world.specs.Submitting.{HasPlantable}

-- ---- the last call

last-at : (calls : List StoreCall) (k : ℕ) (call : StoreCall) → k + 1 ≡ length calls → slice_get calls k ≡ Some call → last_answer calls ≡ call.answer
last-at [] k call n e = absurd (omega (arith, n))
last-at (c ∷ []) zero call n e = ap (λ (x : StoreCall). x.answer) (let same : c ≡ call = cc e in same)
last-at (c ∷ []) (suc k) call n e = absurd (omega (arith, n))
last-at (c ∷ d ∷ rest) zero call n e = absurd (omega (arith, n))
last-at (c ∷ d ∷ rest) (suc k) call n e = last-at (d ∷ rest) k call (omega (arith, n)) e

pub last-found : (calls : List StoreCall) (call : StoreCall) → slice_get calls (length calls - 1) ≡ Some call → last_answer calls ≡ call.answer
last-found [] call e = cc e
last-found (c ∷ rest) call e = last-at (c ∷ rest) (length (c ∷ rest) - 1) call (omega arith) e

-- ---- a tree that came

element-of : (o : Option LitElement) (lit : Lit) → lit_or_fault (option_map Element o) ≡ Ok lit → (e : LitElement) × (lit ≡ Element e)
element-of None lit h = cc h
element-of (Some e) lit h = (e, let same : Element e ≡ lit = cc h in sym same)

element-in : (o : Option Data) (lit : Lit) → read_or_fault o ≡ Ok lit → (e : LitElement) × (lit ≡ Element e)
element-in None lit h = cc h
element-in (Some null) lit h = cc h
element-in (Some (boolean b)) lit h = cc h
element-in (Some (number n)) lit h = cc h
element-in (Some (string s)) lit h = cc h
element-in (Some (array items)) lit h = element-of (element_in items) lit h
element-in (Some (object all)) lit h = cc h

module _ (b : Bindings) (lit : Lit) where
  named-plantable : (x : Lit) (o : Option TreeFault) → lit_fault b x ≡ o → (e : LitElement) × (x ≡ Element e)
      → cond (not (is_none o)) (fails (codes "parse-error")) (tree x) ≡ tree lit → IsPlantable b lit
  named-plantable x None n e h =
      let same : x ≡ lit = cc h in
      record { element = e.0; is_element = sym same ∙ e.1; named = ap (lit_fault b) (sym same) ∙ n }
  named-plantable x (Some fault) n e h = cc h

  read-plantable : (bytes : List ℕ) (r : Result Lit JsonFault) → lit_in bytes ≡ r → as_tree b r ≡ tree lit → IsPlantable b lit
  read-plantable bytes (Err fault) e h = cc h
  read-plantable bytes (Ok x) e h = named-plantable x (lit_fault b x) refl (element-in (value_in bytes) x e) h

  text-none : (bytes : List ℕ) (is : Bool) → cond is (text bytes) (fails (codes "parse-error")) ≡ tree lit → IsPlantable b lit
  text-none bytes true h = cc h
  text-none bytes false h = cc h

  with-plantable : (bytes : List ℕ) (how : Replace) → responded_with b bytes how ≡ tree lit → IsPlantable b lit
  with-plantable bytes instead.All h = cc h
  with-plantable bytes instead.Nothing h = cc h
  with-plantable [] instead.Instance h = cc h
  with-plantable [] instead.Text h = cc h
  with-plantable (c ∷ cs) instead.Instance h = read-plantable (c ∷ cs) (lit_in (c ∷ cs)) refl h
  with-plantable (c ∷ cs) instead.Text h = text-none (c ∷ cs) (is_utf8 (c ∷ cs)) h

  by-plantable : (sub : Submission) (given : Answer) → responded_by b sub given ≡ tree lit → IsPlantable b lit
  by-plantable sub answer.PutDone h = with-plantable [] sub.replace h
  by-plantable sub (answer.Found bytes) h = with-plantable bytes sub.replace h
  by-plantable sub answer.Failed h = cc h
  by-plantable sub answer.Absent h = cc h
  by-plantable sub answer.TooLong h = cc h

pub outcome-plantable : (b : Bindings) (sub : Submission) (given : Answer) (r : Outcome) → seen_outcome r ≡ responded_by b sub given → HasPlantable b r
outcome-plantable b sub given (outcome.Fails error) h = tt
outcome-plantable b sub given outcome.Ends h = tt
outcome-plantable b sub given (outcome.Notes size) h = tt
outcome-plantable b sub given (outcome.Tree lit) h = by-plantable b lit sub given (sym h)
outcome-plantable b sub given (outcome.Text word) h = tt
