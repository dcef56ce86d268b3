-- Elements, parts and copies by their places in lists.
use Rattle.std.proofs.Common.{◌≡◌, ℕ, zero, suc, ◌+◌, ◌<◌, ◌≤◌, Bool, true, false, ◌&&◌, ◌||◌, List, [], ◌∷◌, ◌++◌, map, length, get_or, drop, Option, Some, None, option_map, refl, sym, ap, ◌∙◌, append_assoc}
use Rattle.std.specs.Prelude.{slice_get}
use Rattle.std.specs.List.{flat_map}
use Rattle.std.proofs.lemmas.List.Folds.{list_all-append}
use Rattle.std.proofs.lemmas.List.{append-nil, drop_all, drop_more}
use Rattle.xf_def_syntax.specs.declared.element.Element as written
use Rattle.xf_def_syntax.specs.declared.element.Part.{Part}
use Rattle.xf_def_syntax.specs.declared.element.Part.TheVariants as part
use Rattle.xf_def_syntax.specs.declared.form.Form.{Form}
use Rattle.xf_def_syntax.specs.declared.form.Tables.{Tables}
use Rattle.xf_def_xpath.specs.Setting.{◌>>=◌}
use Rattle.xf_def_ui.specs.Interface.{Element, Interface, element_of, interface_of, sort_of}
use Rattle.xf_def_ui.specs.Elements.{element_at, is_control, no_element}
use Rattle.xf_def_ui.specs.Copies.{Copy}
use Rattle.xf_def_syntax.specs.Ordered.{child_in, is_parent}
use Rattle.xf_controls.specs.Plain.{are_children}
use Rattle.xf_controls.specs.Below.{is_shown, of_part, of_parts, shows, some_shown}

-- ---- elements

pub children-more : (f : Interface) (n : ℕ) (ps : List Part) (i : ℕ) (p : Part) → i < length ps → p ≡ get_or ps i p
    → are_children f n (flat_map child_in (drop i ps)) ≡ (are_children f n (child_in p) && are_children f n (flat_map child_in (drop (i + 1) ps)))
children-more f n ps i p l is =
    ap (λ qs. are_children f n (flat_map child_in qs)) (drop_more ps i p l) ∙ ap (λ q. are_children f n (child_in q ++ flat_map child_in (drop (i + 1) ps))) (sym is)
    ∙ list_all-append (λ m. is_parent n (element_at f m).parent) (child_in p) (flat_map child_in (drop (i + 1) ps))

at-none : (tables : Tables) (es : List written.Element) (n : ℕ) → slice_get es n ≡ None → get_or (map (element_of tables) es) n no_element ≡ no_element
at-none tables [] n h = refl
at-none tables (e ∷ es) zero h = cc h
at-none tables (e ∷ es) (suc n) h = at-none tables es n h

at-some : (tables : Tables) (es : List written.Element) (n : ℕ) (e : written.Element) → slice_get es n ≡ Some e → get_or (map (element_of tables) es) n no_element ≡ element_of tables e
at-some tables [] n e h = cc h
at-some tables (x ∷ es) zero e h = let same : x ≡ e = cc h in ap (element_of tables) same
at-some tables (x ∷ es) (suc n) e h = at-some tables es n e h

pub no-element : (form : Form) (n : ℕ) → None ≡ slice_get form.elements n → element_at (interface_of form) n ≡ no_element
no-element form n h = at-none form.tables form.elements n (sym h)

pub this-element : (form : Form) (n : ℕ) (e : written.Element) → Some e ≡ slice_get form.elements n → element_at (interface_of form) n ≡ element_of form.tables e
this-element form n e h = at-some form.tables form.elements n e (sym h)

-- ---- what is shown

pub shows-none : (form : Form) (most n : ℕ) → None ≡ slice_get form.elements n → false ≡ shows most (interface_of form) n
shows-none form zero n h = refl
shows-none form (suc most) n h = sym (ap (λ (e : Element). is_control e.sort || some_shown (shows most (interface_of form)) e.parts) (no-element form n h))

pub shows-control : (form : Form) (most k n : ℕ) (e : written.Element) → most ≡ suc k → Some e ≡ slice_get form.elements n → is_control (sort_of e.kind) ≡ true → true ≡ shows most (interface_of form) n
shows-control form most k n e m h control =
    sym (
    ap (λ j. shows j (interface_of form) n) m
    ∙ ap (λ (x : Element). is_control x.sort || some_shown (shows k (interface_of form)) x.parts) (this-element form n e h)
    ∙ ap (λ b. b || some_shown (shows k (interface_of form)) e.parts) control)

pub shows-parts : (form : Form) (most k n : ℕ) (e : written.Element) → most ≡ suc k → Some e ≡ slice_get form.elements n → is_control (sort_of e.kind) ≡ false → some_shown (shows k (interface_of form)) e.parts ≡ shows most (interface_of form) n
shows-parts form most k n e m h control =
    sym (
    ap (λ j. shows j (interface_of form) n) m
    ∙ ap (λ (x : Element). is_control x.sort || some_shown (shows k (interface_of form)) x.parts) (this-element form n e h)
    ∙ ap (λ b. b || some_shown (shows k (interface_of form)) e.parts) control)

pub shown-more : (further : ℕ → Bool) (ps : List Part) (i : ℕ) (p : Part) → i < length ps → p ≡ get_or ps i p → some_shown further (drop i ps) ≡ (is_shown further p || some_shown further (drop (i + 1) ps))
shown-more further ps i p l is = ap (some_shown further) (drop_more ps i p l) ∙ ap (λ q. is_shown further q || some_shown further (drop (i + 1) ps)) (sym is)

-- ---- copies put behind others

pub put-nothing : (old : List Copy) (m : Option (List Copy)) → m ≡ Some [] → option_map (λ more. old ++ more) m ≡ Some old
put-nothing old m h = ap (option_map (λ more. old ++ more)) h ∙ ap Some (append-nil old)

pub put-step : (now next : List Copy) (own more : Option (List Copy)) → option_map (λ x. now ++ x) own ≡ Some next → option_map (λ x. now ++ x) (own >>= λ xs. more >>= λ ys. Some (xs ++ ys)) ≡ option_map (λ x. next ++ x) more
put-step now next None more h = cc h
put-step now next (Some xs) None h = refl
put-step now next (Some xs) (Some ys) h = let is : now ++ xs ≡ next = cc h in ap Some (sym (append_assoc now xs ys) ∙ ap (λ l. l ++ ys) is)

pub put-lost : (now : List Copy) (m : Option (List Copy)) → option_map (λ x. now ++ x) m ≡ None → m ≡ None
put-lost now None h = refl
put-lost now (Some xs) h = cc h

pub parts-more : (further : ℕ → Option (List Copy)) (ps : List Part) (i : ℕ) (p : Part) → i < length ps → p ≡ get_or ps i p → of_parts further (drop i ps) ≡ (of_part further p >>= λ xs. of_parts further (drop (i + 1) ps) >>= λ ys. Some (xs ++ ys))
parts-more further ps i p l is = ap (of_parts further) (drop_more ps i p l) ∙ ap (λ q. of_part further q >>= λ xs. of_parts further (drop (i + 1) ps) >>= λ ys. Some (xs ++ ys)) (sym is)

pub part-lost : (further : ℕ → Option (List Copy)) (ps : List Part) (i n : ℕ) (p : Part) (now : List Copy) → i < length ps → p ≡ get_or ps i p → p ≡ part.Element n → option_map (λ x. now ++ x) (further n) ≡ None → of_parts further (drop i ps) ≡ None
part-lost further ps i n p now l is here lost =
    parts-more further ps i p l is ∙ ap (λ q. of_part further q >>= λ xs. of_parts further (drop (i + 1) ps) >>= λ ys. Some (xs ++ ys)) here
    ∙ ap (λ m. m >>= λ xs. of_parts further (drop (i + 1) ps) >>= λ ys. Some (xs ++ ys)) (put-lost now (further n) lost)

pub part-put : (further : ℕ → Option (List Copy)) (ps : List Part) (i n : ℕ) (p : Part) (now next : List Copy) → i < length ps → p ≡ get_or ps i p → p ≡ part.Element n → option_map (λ x. now ++ x) (further n) ≡ Some next
    → option_map (λ x. next ++ x) (of_parts further (drop (i + 1) ps)) ≡ option_map (λ x. now ++ x) (of_parts further (drop i ps))
part-put further ps i n p now next l is here put =
    sym (
    ap (option_map (λ x. now ++ x)) (parts-more further ps i p l is ∙ ap (λ q. of_part further q >>= λ xs. of_parts further (drop (i + 1) ps) >>= λ ys. Some (xs ++ ys)) here)
    ∙ put-step now next (further n) (of_parts further (drop (i + 1) ps)) put)

pub parts-put : (further : ℕ → Option (List Copy)) (ps : List Part) (i : ℕ) (now : List Copy) → length ps ≤ i → option_map (λ x. now ++ x) (of_parts further (drop i ps)) ≡ Some now
parts-put further ps i now l = put-nothing now (of_parts further (drop i ps)) (ap (of_parts further) (drop_all i ps l))
