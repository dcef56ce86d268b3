-- A survey by the elements that were collected.
use Rattle.std.proofs.Common.{◌≡◌, ℕ, ◌+◌, List, [], ◌∷◌, ◌++◌, map, false, cond, Ok, Err, Bor, inl, inr, refl, sym, ap, ◌∙◌}
use Rattle.std.specs.declared.option.Option.{Option}
use Rattle.xf_base.specs.Gives.{Gives}
use Rattle.xf_name.specs.Bindings.{Bindings, no_bindings}
use Rattle.xf_name.specs.Written.{Written, walk_of, elements_of}
use Rattle.xf_name.specs.Declarations.{with_attributes, with_elements, bindings_of, are_too_many}
use Rattle.xf_name.specs.Declares.{GivesTables}
use Rattle.xf_name.specs.Faults.{name_fault}
use Rattle.xf_name.specs.Shown.{Shown, shown, shown_by, with_shown, ShowsWalk}
use Rattle.xf_name.specs.FirstShown.{first_shown}
use Rattle.xf_name.specs.Survey.{fault_or, first_fault, survey_by, surveyed}
use Rattle.xf_name.specs.declared.fault.SurveyFault.{SurveyFault}
use Rattle.xf_name.specs.declared.fault.SurveyFault.TheVariants.{TooMany, Memory}
use Rattle.xf_name.specs.declared.form_names.FirstFault.{FirstFault}
use Rattle.xf_name.specs.declared.form_names.Surveyed.{Surveyed}
use Rattle.xf_name.specs.declared.lit.Lit.{Lit}
use Rattle.xf_name.specs.declared.lit.LitElement.{LitElement}

with_shown-is : (b : Bindings) (es : List Written) → with_shown b (map shown es) ≡ with_elements b es
with_shown-is b [] = refl
with_shown-is b (e ∷ es) = with_shown-is (with_attributes b e.attributes) es

first_shown-is : (b : Bindings) (n : ℕ) (es : List Written) → first_shown b n (map shown es) ≡ first_fault b n es
first_shown-is b n [] = refl
first_shown-is b n (e ∷ es) = ap (fault_or n (name_fault b e.name e.attributes)) (first_shown-is b (n + 1) es)

-- all elements were collected
pub collected_all : (old new : List (Bor LitElement)) (form : Lit) → old ≡ [] → ShowsWalk old new (walk_of form) → map shown_by new ≡ map shown (elements_of form)
collected_all old new form none h = h [] 0 ∙ ap (λ es. map shown_by es ++ map shown (elements_of form)) none

declared_is : (es : List Shown) (form : Lit) → es ≡ map shown (elements_of form) → with_shown no_bindings es ≡ bindings_of form
declared_is es form all = ap (with_shown no_bindings) all ∙ with_shown-is no_bindings (elements_of form)

pub survey_failed : (fault : SurveyFault) (es : List Shown) (form : Lit) → es ≡ map shown (elements_of form) → GivesTables (Err fault) (with_shown no_bindings es) → Gives {X = Surveyed} {Y = Surveyed} Memory (λ found. found) (Err fault) (surveyed form)
survey_failed TooMany es form all many =
    let found : Option FirstFault = first_fault (bindings_of form) 0 (elements_of form) in
    inr (ap (λ t. cond t (Err TooMany) (Ok (record { prefixes = bindings_of form; fault = found }))) (ap are_too_many (sym (declared_is es form all)) ∙ many))
survey_failed Memory es form all h = inl refl

pub survey_done : (b : Bindings) (fault : Option FirstFault) (es : List Shown) (form : Lit) → es ≡ map shown (elements_of form) → b ≡ with_shown no_bindings es → are_too_many (with_shown no_bindings es) ≡ false
    → fault ≡ first_shown b 0 es → surveyed form ≡ Ok (record { prefixes = b; fault = fault })
survey_done b fault es form all tables few first =
    let declared : b ≡ bindings_of form = tables ∙ declared_is es form all in
    let found : fault ≡ first_fault (bindings_of form) 0 (elements_of form) = first ∙ ap (first_shown b 0) all ∙ first_shown-is b 0 (elements_of form) ∙ ap (λ x. first_fault x 0 (elements_of form)) declared in
    ap (survey_by (bindings_of form)) (sym found) ∙ ap (λ x. survey_by x fault) (sym declared)
    ∙ ap (λ t. cond t (Err TooMany) (Ok (record { prefixes = b; fault = fault }))) (ap are_too_many tables ∙ few)
