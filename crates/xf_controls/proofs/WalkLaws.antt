-- One level of the walk over a form, with the copies that come behind others.
use Rattle.std.proofs.Common.{◌≡◌, ℕ, zero, suc, true, false, List, [], ◌++◌, Option, Some, None, option_map, refl, sym, ap, ◌∙◌}
use Rattle.xf_def_syntax.specs.declared.element.Element as written
use Rattle.xf_def_syntax.specs.declared.form.Form.{Form}
use Rattle.std.specs.Prelude.{slice_get}
use Rattle.xf_def_xpath.specs.Setting.{Focus, ◌>>=◌}
use Rattle.xf_def_ui.specs.declared.marks.Marks.{Marks}
use Rattle.xf_def_ui.specs.Interface.{Element, Interface, element_of, interface_of, unbound}
use Rattle.xf_def_ui.specs.Elements.{is_control, no_element}
use Rattle.xf_def_ui.specs.Around.{Around, first_bound}
use Rattle.xf_def_ui.specs.Context.{focus_in}
use Rattle.xf_def_ui.specs.Copies.{Copy}
use Rattle.xf_controls.specs.Handed.{Handed, node_in, handed_by, copy_by}
use Rattle.xf_controls.specs.Below.{copies_by, copies_from, if_control, is_passed, of_parts, unless}
use Rattle.xf_controls.proofs.CodeLaws.{no-element, this-element, put-step, put-lost}

abbrev pub own_of : Interface → Around → (ℕ → Marks) → Handed → ℕ → Element → Option ℕ → Option (List Copy)
own_of f a marks h n e selected = if_control (is_control e.sort) (copy_by f a marks h n e selected)

abbrev pub level : ℕ → Interface → Around → (ℕ → Marks) → Handed → ℕ → Element → Option (List Copy)
level k f a marks h n e = unless (is_passed k f e) (copies_by (copies_from k f a marks) f a marks h n e)

-- ---- what there is

-- what is not bound selects nothing
unbound-none : (a : Around) (model : ℕ) (c : Option Focus) → first_bound a model unbound c ≡ Some None
unbound-none a model None = refl
unbound-none a model (Some c) = refl

nothing-in : (k : ℕ) (f : Interface) (a : Around) (marks : ℕ → Marks) (h : Handed) (n : ℕ) → level k f a marks h n no_element ≡ Some []
nothing-in k f a marks h n =
    ap (λ m. m >>= λ selected. own_of f a marks h n no_element selected >>= λ own. of_parts (copies_from k f a marks (handed_by f marks h no_element selected)) no_element.parts >>= λ more. Some (own ++ more))
    (unbound-none a h.model (focus_in a h.model h.place))

pub nothing-there : (form : Form) (a : Around) (marks : ℕ → Marks) (h : Handed) (most n : ℕ) → None ≡ slice_get form.elements n → copies_from most (interface_of form) a marks h n ≡ Some []
nothing-there form a marks h zero n e = refl
nothing-there form a marks h (suc k) n e = ap (level k (interface_of form) a marks h n) (no-element form n e) ∙ nothing-in k (interface_of form) a marks h n

level-is : (form : Form) (a : Around) (marks : ℕ → Marks) (h : Handed) (most k n : ℕ) (e : written.Element) → most ≡ suc k → Some e ≡ slice_get form.elements n
    → copies_from most (interface_of form) a marks h n ≡ level k (interface_of form) a marks h n (element_of form.tables e)
level-is form a marks h most k n e m here = ap (λ j. copies_from j (interface_of form) a marks h n) m ∙ ap (level k (interface_of form) a marks h n) (this-element form n e here)

pub passed-over : (form : Form) (a : Around) (marks : ℕ → Marks) (h : Handed) (most k n : ℕ) (e : written.Element) → most ≡ suc k → Some e ≡ slice_get form.elements n → is_passed k (interface_of form) (element_of form.tables e) ≡ true
    → copies_from most (interface_of form) a marks h n ≡ Some []
passed-over form a marks h most k n e m here passed =
    let f = interface_of form in
    level-is form a marks h most k n e m here ∙ ap (λ b. unless b (copies_by (copies_from k f a marks) f a marks h n (element_of form.tables e))) passed

pub not-passed : (form : Form) (a : Around) (marks : ℕ → Marks) (h : Handed) (most k n : ℕ) (e : written.Element) → most ≡ suc k → Some e ≡ slice_get form.elements n → is_passed k (interface_of form) (element_of form.tables e) ≡ false
    → copies_from most (interface_of form) a marks h n ≡ copies_by (copies_from k (interface_of form) a marks) (interface_of form) a marks h n (element_of form.tables e)
not-passed form a marks h most k n e m here passed =
    let f = interface_of form in
    level-is form a marks h most k n e m here ∙ ap (λ b. unless b (copies_by (copies_from k f a marks) f a marks h n (element_of form.tables e))) passed

-- ---- put behind others

by-node : (further : Handed → ℕ → Option (List Copy)) (f : Interface) (a : Around) (marks : ℕ → Marks) (h : Handed) (n : ℕ) (e : Element) (m : Option (Option ℕ)) → node_in f a h e ≡ m
    → copies_by further f a marks h n e ≡ (m >>= λ selected. own_of f a marks h n e selected >>= λ own. of_parts (further (handed_by f marks h e selected)) e.parts >>= λ more. Some (own ++ more))
by-node further f a marks h n e m bound =
    ap (λ x. x >>= λ selected. own_of f a marks h n e selected >>= λ own. of_parts (further (handed_by f marks h e selected)) e.parts >>= λ more. Some (own ++ more)) bound

pub lost-node : (further : Handed → ℕ → Option (List Copy)) (f : Interface) (a : Around) (marks : ℕ → Marks) (h : Handed) (n : ℕ) (e : Element) → node_in f a h e ≡ None → copies_by further f a marks h n e ≡ None
lost-node further f a marks h n e bound = by-node further f a marks h n e None bound

pub lost-own : (further : Handed → ℕ → Option (List Copy)) (f : Interface) (a : Around) (marks : ℕ → Marks) (h : Handed) (n : ℕ) (e : Element) (selected : Option ℕ) (old : List Copy)
    → node_in f a h e ≡ Some selected → option_map (λ own. old ++ own) (own_of f a marks h n e selected) ≡ None → copies_by further f a marks h n e ≡ None
lost-own further f a marks h n e selected old bound lost =
    by-node further f a marks h n e (Some selected) bound
    ∙ ap (λ m. m >>= λ own. of_parts (further (handed_by f marks h e selected)) e.parts >>= λ more. Some (own ++ more)) (put-lost old (own_of f a marks h n e selected) lost)

-- as far as the parts, where what is handed down is this
pub put-all : (further : Handed → ℕ → Option (List Copy)) (f : Interface) (a : Around) (marks : ℕ → Marks) (h below : Handed) (n : ℕ) (e : Element) (selected : Option ℕ) (old initial : List Copy)
    → node_in f a h e ≡ Some selected → below ≡ handed_by f marks h e selected → option_map (λ own. old ++ own) (own_of f a marks h n e selected) ≡ Some initial
    → option_map (λ more. old ++ more) (copies_by further f a marks h n e) ≡ option_map (λ more. initial ++ more) (of_parts (further below) e.parts)
put-all further f a marks h below n e selected old initial bound down own =
    ap (option_map (λ more. old ++ more)) (by-node further f a marks h n e (Some selected) bound)
    ∙ put-step old initial (own_of f a marks h n e selected) (of_parts (further (handed_by f marks h e selected)) e.parts) own
    ∙ ap (λ d. option_map (λ more. initial ++ more) (of_parts (further d) e.parts)) (sym down)
