-- The element that an id names, by the elements of a form as they are kept.
use Rattle.std.proofs.Common.{ℕ, zero, suc, ◌≡◌, ◌+◌, ◌<◌, ◌==◌, Bool, true, false, ◌&&◌, List, [], ◌∷◌, map, length, drop, get_or, Option, Some, None, Result, Ok, refl, ap, sym, ◌∙◌, arith, subst}
use Rattle.std.specs.Prelude.{find, option_map, bytes_eq, if◌then◌else◌}
use Rattle.std.proofs.lemmas.Bool.{eqb-true}
use Rattle.std.proofs.lemmas.List.{at_drop_more}
use Rattle.std.proofs.Math.ListN.{get_or-map}
use Rattle.xf_def_syntax.specs.declared.element.Element.{Element}
use Rattle.xf_def_syntax.specs.declared.form.Form.{Form}
use Rattle.xf_def_syntax.specs.declared.form.Tables.{Tables}
use Rattle.xf_def_syntax.specs.Ordered.{numbered_from}
use Rattle.xf_def_ui.specs.Interface as ui
use Rattle.xf_def_ui.specs.Interface.{Interface, element_of, interface_of, sort_of}
use Rattle.xf_def_ui.specs.Elements.{element_at, is_repeat_sort, no_element}
use Rattle.xf_def_machine.specs.Events.{model_element}
use Rattle.xf_def_machine.specs.Program.{Role, other}
use Rattle.xf_def_machine.specs.Refusal.{Refused, no_target}
use Rattle.xf_def_machine.specs.State.{State}
use Rattle.xf_def_machine.specs.Step.{model_named}
use Rattle.xf_def_machine.specs.Tables.{role_of}
use Rattle.xf_def_machine.specs.Targets.{by_role, element_named, is_entry, is_model, is_repeat_in, is_some_text, is_submission, is_trigger, or_no_target}
use Rattle.xf_actions.specs.Performs.{Reads, RefusedAs, Refuses}
use Rattle.xf_actions.specs.Seen.{IsProgram}
use Rattle.xf_actions.specs.declared.fault.EventFault.{EventFault}
use Rattle.xf_actions.specs.Fault.{means}
use Rattle.xf_engine.specs.declared.naming.Wanted.{Wanted}
use Rattle.xf_engine.specs.declared.naming.Wanted.TheVariants.{Entry, Trigger, Repeat, Model, Submission, Any}
use Rattle.xf_engine.specs.Naming.{is_named, is_wanted, named_from, wanted_in}

abbrev wants : Wanted → List Element → List Bool
wants wanted es = map (λ e. is_wanted wanted e.kind) es

abbrev named_by : (ℕ → Bool) → List ℕ → ℕ × ui.Element → Bool
named_by test id e = is_some_text id && bytes_eq e.1.id id && test e.0

-- the tests agree on the first, and so what is found
first-named : (b c : Bool) (x : ℕ × ui.Element) (rest : Option (ℕ × ui.Element)) (left : Option ℕ)
    → b ≡ c → left ≡ option_map (λ e. e.0) rest → (if b then Some x.0 else left) ≡ option_map (λ e. e.0) (if c then Some x else rest)
first-named true true x rest left b q = refl
first-named false false x rest left b q = q
first-named true false x rest left b q = cc
first-named false true x rest left b q = cc

from-named : (wanted : Wanted) (t : Tables) (id : List ℕ) (test : ℕ → Bool) (k : ℕ) (d : Bool) (es : List Element)
    → ((i : ℕ) → test (k + i) ≡ get_or (wants wanted es) i d)
    → named_from wanted id k es ≡ option_map (λ e. e.0) (find (named_by test id) (numbered_from k (map (element_of t) es)))
from-named wanted t id test k d [] h = refl
from-named wanted t id test k d (e ∷ es) h =
    let here : test k ≡ is_wanted wanted e.kind = ap test (let q : k ≡ k + 0 = omega arith in q) ∙ h 0 in
    first-named (is_named wanted id e) (named_by test id (k, element_of t e)) (k, element_of t e) _ _
    (ap (λ b. is_some_text id && bytes_eq e.id id && b) (sym here))
    (from-named wanted t id test (suc k) d es (λ i. ap test (let q : suc k + i ≡ k + suc i = omega arith in q) ∙ h (suc i)))

map-twice : {A B C : Type 0} (f : B → C) (g : A → B) (xs : List A) → map f (map g xs) ≡ map (λ x. f (g x)) xs
map-twice f g [] = refl
map-twice f g (x ∷ xs) = ap (λ l. f (g x) ∷ l) (map-twice f g xs)

-- ---- what is wanted, by the elements as they are kept

-- of an element that is not there
abbrev missing : Wanted → Bool
missing Any = true
missing wanted = false

role-wanted : (test : Role → Bool) (form : Form) (s : State) (i : ℕ) → IsProgram form s.form
    → by_role s test i ≡ get_or (map (λ e. test (role_of e.kind)) form.elements) i (test other)
role-wanted test form s i h =
    ap (λ (roles : List Role). test (get_or roles i other)) h.roles
    ∙ sym (get_or-map test (map (λ e. role_of e.kind) form.elements) i other)
    ∙ ap (λ bs. get_or bs i (test other)) (map-twice test (λ (e : Element). role_of e.kind) form.elements)

repeat-wanted : (form : Form) (s : State) (i : ℕ) → IsProgram form s.form
    → is_repeat_in s i ≡ get_or (map (λ e. is_repeat_sort (sort_of e.kind)) form.elements) i false
repeat-wanted form s i h =
    ap (λ (f : Interface). is_repeat_sort (element_at f i).sort) h.interface
    ∙ sym (get_or-map (λ (e : ui.Element). is_repeat_sort e.sort) (map (element_of form.tables) form.elements) i no_element)
    ∙ ap (λ bs. get_or bs i false) (map-twice (λ (e : ui.Element). is_repeat_sort e.sort) (element_of form.tables) form.elements)

all-wanted : (es : List Element) (i : ℕ) → true ≡ get_or (map (λ e. true) es) i true
all-wanted [] i = refl
all-wanted (e ∷ es) zero = refl
all-wanted (e ∷ es) (suc i) = all-wanted es i

wanted-as : (wanted : Wanted) (form : Form) (s : State) (i : ℕ) → IsProgram form s.form → wanted_in wanted s i ≡ get_or (wants wanted form.elements) i (missing wanted)
wanted-as Entry form s i h = role-wanted is_entry form s i h
wanted-as Trigger form s i h = role-wanted is_trigger form s i h
wanted-as Repeat form s i h = repeat-wanted form s i h
wanted-as Model form s i h = role-wanted is_model form s i h
wanted-as Submission form s i h = role-wanted is_submission form s i h
wanted-as Any form s i h = all-wanted form.elements i

-- ---- the element that is named

abbrev found_by : (ℕ → Bool) → List ℕ → Interface → Option ℕ
found_by test id f = option_map (λ e. e.0) (find (named_by test id) (numbered_from 0 f.elements))

named-in : (wanted : Wanted) (form : Form) (s : State) (id : List ℕ) → IsProgram form s.form
    → named_from wanted id 0 form.elements ≡ found_by (wanted_in wanted s) id (interface_of form)
named-in wanted form s id h =
    from-named wanted form.tables id (wanted_in wanted s) 0 (missing wanted) form.elements
    (λ i. ap (wanted_in wanted s) (let q : 0 + i ≡ i = omega arith in q) ∙ wanted-as wanted form s i h)

named-target : (wanted : Wanted) (form : Form) (s : State) (id : List ℕ) → IsProgram form s.form
    → element_named s (wanted_in wanted s) id ≡ named_from wanted id 0 form.elements
named-target wanted form s id h =
    ap (λ (f : Interface). found_by (wanted_in wanted s) id f) h.interface ∙ sym (named-in wanted form s id h)

pub target-found : (wanted : Wanted) (form : Form) (s : State) (id : List ℕ) (n : ℕ) → IsProgram form s.form → named_from wanted id 0 form.elements ≡ Some n
    → or_no_target s (element_named s (wanted_in wanted s) id) ≡ Ok n
target-found wanted form s id n h e = ap (or_no_target s) (named-target wanted form s id h ∙ e)

pub target-refuses : (wanted : Wanted) (form : Form) (s : State) (id : List ℕ) → IsProgram form s.form → named_from wanted id 0 form.elements ≡ None
    → Refuses (Some no_target) s.calls (or_no_target s (element_named s (wanted_in wanted s) id))
unfolding Refuses
target-refuses wanted form s id h e =
    subst (λ (r : Result ℕ Refused). RefusedAs no_target s.calls r) (sym (ap (or_no_target s) (named-target wanted form s id h ∙ e))) (refl, refl)

-- ---- a model

pub first-model : (s : State) (id : List ℕ) (n : ℕ) → (length id == 0) ≡ true → n ≡ model_element s 0 → or_no_target s (model_named s id) ≡ Ok n
first-model s [] n h e = ap (λ k. or_no_target s (Some k)) (sym e)
first-model s (b ∷ bs) n h e = absurd (omega (arith, eqb-true (length (b ∷ bs)) 0 h))

-- one that is named by an id
pub other-model : (s : State) (id : List ℕ) (r : Result ℕ EventFault) → (length id == 0) ≡ false
    → Reads means (λ n. n) s r (or_no_target s (element_named s (wanted_in Model s) id)) → Reads means (λ n. n) s r (or_no_target s (model_named s id))
other-model s [] r h q = cc
other-model s (b ∷ bs) r h q = q

-- ---- the loop

pub named-next : (wanted : Wanted) (id : List ℕ) (es : List Element) (i next n : ℕ) (e : Element)
    → i < length es → e ≡ get_or es i e → is_named wanted id e ≡ false → n + 1 ≡ next
    → named_from wanted id n (drop i es) ≡ named_from wanted id next (drop (i + 1) es)
named-next wanted id es i next n e h q f j =
    at_drop_more (λ ys. named_from wanted id n ys) es i e h
    ∙ ap (λ (x : Element). if is_named wanted id x then Some n else named_from wanted id (suc n) (drop (i + 1) es)) (sym q)
    ∙ ap (λ b. if b then Some n else named_from wanted id (suc n) (drop (i + 1) es)) f
    ∙ ap (λ k. named_from wanted id k (drop (i + 1) es)) (let j : suc n ≡ next = omega arith in j)

pub named-found : (wanted : Wanted) (id : List ℕ) (es : List Element) (i n : ℕ) (e : Element)
    → i < length es → e ≡ get_or es i e → is_named wanted id e ≡ true → named_from wanted id n (drop i es) ≡ Some n
named-found wanted id es i n e h q f =
    at_drop_more (λ ys. named_from wanted id n ys) es i e h
    ∙ ap (λ (x : Element). if is_named wanted id x then Some n else named_from wanted id (suc n) (drop (i + 1) es)) (sym q)
    ∙ ap (λ b. if b then Some n else named_from wanted id (suc n) (drop (i + 1) es)) f
